-- Which handle of a bench got which item: the item at each place of the list of what was put goes to one handle.
use Rattle.std.specs.Prelude.{◌≡◌, ℕ, ◌<◌, ◌≤◌, ◌↔◌, List, ◌∷◌, ◌++◌, All, Any, length, Option, Some, None, IsSome, slice_get}
use Rattle.sf_crew.specs.Common.{Event, Got, HandleView}
use Rattle.sf_crew.specs.History.{put_items, getters, got_count, first_left, HasHistory, IsKnownFirst}

module _ {T : Type 0} where
  -- the handle that got the item at place k, where one did
  abbrev pub getter : List (Event T) → ℕ → Option ℕ
  getter h k = slice_get (getters h) k

  -- How what was put is shared out, by a history that fits all that some handles know.
  pub record IsSharedOut (v : HandleView T) (h : List (Event T)) : Type 0 where
    -- all that was got together is a beginning of the list of what was put: just its places have a getter
    pub beginning : got_count h ≤ length (put_items h)
    pub places : (k : ℕ) → k < got_count h ↔ IsSome (getter h k)
    -- what one of the handles knows of a get is so; thus no two of them know of two getters of one place
    pub known : All (λ e. (k i : ℕ) → getter e.events k ≡ Some i → getter h k ≡ Some i) v.ends
    -- each of the handles knows of all its own gets
    pub own : All (λ e. (k : ℕ) → getter h k ≡ Some e.number → getter e.events k ≡ Some e.number) v.ends
    -- a get is of the item that was the first left at that moment: all places before it had a getter
    pub items : All (λ e. (before after : List (Event T)) (i : ℕ) → e.events ≡ before ++ Got i ∷ after
        → (getter h (got_count before) ≡ Some i)
        × (slice_get (put_items h) (got_count before) ≡ first_left before)) v.ends

  -- what is known where all handles are joined
  pub record IsAllKnown (v : HandleView T) (h : List (Event T)) : Type 0 where
    -- no other history fits
    pub only : (g : List (Event T)) → HasHistory v g → g ≡ h
    -- each item that was got went to one of the handles, which knows of it
    pub getters : (k : ℕ) → k < got_count h → Any (λ e. getter e.events k ≡ Some e.number) v.ends
    -- where nothing is found, each item that was put was got
    pub all : IsKnownFirst v None → got_count h ≡ length (put_items h)
