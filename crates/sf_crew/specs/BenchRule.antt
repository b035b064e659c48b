-- The rule of a bench, which each step of a handle keeps.
use Rattle.std.specs.Prelude.{◌≡◌, ◌≢◌, ℕ, ◌+◌, ◌<◌, ◌≤◌, List, [], ◌∷◌, All, length, drop}
use Rattle.sf_crew.specs.Common.{some, get_elem?, Event, End, HandleView}
use Rattle.sf_crew.specs.History.{handle_view, new_view, handle_of, put_items, got_count, HasHistory, IsLawfulHistory, FitsEnd, Puts, GetsFirst}

module _ {T : Type 0} where
  -- the items that were put and that no handle has got
  abbrev pub left_items : List (Event T) → List T
  left_items h = drop (got_count h) (put_items h)

  -- the first end is that of the handle at this place itself, and the others are of other handles
  abbrev pub IsOwnFirst : ℕ → List (End T) → Type 0
  IsOwnFirst port [] = Unit {0}
  IsOwnFirst port (e ∷ es) = (e.number ≡ port) × All (λ o. o.number ≢ port) es

  -- the view at this place fits the history, and has just ends that lie there
  pub record Sits (h : List (Event T)) (home : ℕ → ℕ) (port : ℕ) (v : HandleView T) : Type 0 where
    pub fits : All (λ e. FitsEnd h e) v.ends
    pub at : All (λ e. home e.number ≡ port) v.ends
    pub own : IsOwnFirst port v.ends

  -- There is one lawful history, of which each end knows a beginning with all its own steps. Each step was made by one
  -- of the handles, and the owner has made all of these. The end of the handle i lies in the view at `home i`: in its
  -- own, or in that of the handle that it was joined into. The bench holds the items that were put and not got.
  pub record BenchKept (items : List T) (views : List (HandleView T)) : Type 0 where
    pub history : List (Event T)
    pub home : ℕ → ℕ
    pub lawful : IsLawfulHistory history
    pub left : items ≡ left_items history
    pub ports : All (λ e. handle_of e < length views) history
    pub fresh : (i : ℕ) → length views ≤ i → home i ≡ i
    pub each : (port : ℕ) (v : HandleView T) → get_elem? views port ≡ some v → Sits history home port v
    pub all_made : (port : ℕ) (v : HandleView T) → get_elem? views port ≡ some v → 0 < v.made
        → (port ≡ 0) × (v.made ≡ length views)

  -- if exactly one item came to the bench, the handle put it
  abbrev pub PutsAll : HandleView T → List T → HandleView T → Type 0
  PutsAll v xs w = (x : T) → xs ≡ x ∷ [] → Puts v x w

  -- if exactly one item left the bench, the handle got it
  abbrev pub GetsAll : HandleView T → List T → HandleView T → Type 0
  GetsAll v xs w = (x : T) → xs ≡ x ∷ [] → GetsFirst v x w

  -- at some moment these items were left
  abbrev pub WereLeft : HandleView T → List T → Type 0
  WereLeft v items = (h : List (Event T)) × HasHistory v h × (items ≡ left_items h)

  -- what the owner knows after it made one more thief
  abbrev pub owner_with_thief : HandleView T → HandleView T
  owner_with_thief v = handle_view (v.made + 1) v.ends

  -- what the new thief knows then: its number
  abbrev pub new_thief_view : HandleView T → HandleView T
  new_thief_view v = new_view v.made 0

  -- what a handle knows that was joined into another one
  abbrev pub spent_view : HandleView T
  spent_view = handle_view 0 []
