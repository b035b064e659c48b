-- The history of a bench: one list of the items that were put, of which each handle has got some, each item at most
-- once and first in, first out. An item is a lease, or a lease of which more is known.
use Rattle.std.specs.Prelude.{◌≡◌, ◌≢◌, ℕ, ◌+◌, ◌<◌, List, [], ◌∷◌, ◌++◌, All, Contains, map, length, Option, Some, slice_get}
use Rattle.sf_crew.specs.Common.{Event, Put, Got, End, HandleView}

module _ {T : Type 0} where
  -- the handle of number i, which has made no step after the history h
  abbrev pub handle_end : ℕ → List (Event T) → End T
  handle_end i h = record { number = i; events = h }

  -- what a handle knows by these ends, where there are n handles; of a thief n is 0
  abbrev pub handle_view : ℕ → List (End T) → HandleView T
  handle_view n es = record { made = n; ends = es }

  -- what a handle of number i knows that has made no step
  abbrev pub new_view : ℕ → ℕ → HandleView T
  new_view i n = handle_view n (handle_end i [] ∷ [])

  -- the handle's own number
  abbrev pub own_number : List (End T) → ℕ
  own_number [] = 0
  own_number (e ∷ es) = e.number

  -- the history that the handle itself knows
  abbrev pub own_history : List (End T) → List (Event T)
  own_history [] = []
  own_history (e ∷ es) = e.events

  -- the handle that made the step; only the owner puts, and it has the number 0
  abbrev pub handle_of : Event T → ℕ
  handle_of (Put x) = 0
  handle_of (Got i) = i

  -- the list of the items that were put
  abbrev pub put_items : List (Event T) → List T
  put_items [] = []
  put_items (Put x ∷ es) = x ∷ put_items es
  put_items (Got i ∷ es) = put_items es

  -- the handles that got an item, in the order of their gets
  abbrev pub getters : List (Event T) → List ℕ
  getters [] = []
  getters (Put x ∷ es) = getters es
  getters (Got i ∷ es) = i ∷ getters es

  -- how many items were got. Items are got in the order of putting, so this is also the place of the next one
  abbrev pub got_count : List (Event T) → ℕ
  got_count h = length (getters h)

  -- the first item that was put and that no handle has got, if there is one
  abbrev pub first_left : List (Event T) → Option T
  first_left h = slice_get (put_items h) (got_count h)

  -- after p puts and g gets, each get finds an item that was put and that no handle has got
  abbrev pub IsLawfulFrom : ℕ → ℕ → List (Event T) → Type 0
  IsLawfulFrom p g [] = Unit {0}
  IsLawfulFrom p g (Put x ∷ es) = IsLawfulFrom (p + 1) g es
  IsLawfulFrom p g (Got i ∷ es) = (g < p) × IsLawfulFrom p (g + 1) es

  -- from the first step on, each get finds an item
  abbrev pub IsLawfulHistory : List (Event T) → Type 0
  IsLawfulHistory h = IsLawfulFrom 0 0 h

  -- the end is a beginning of the history, and its handle has made no step after that
  abbrev pub FitsEnd : List (Event T) → End T → Type 0
  FitsEnd h e = (rest : List (Event T)) × (h ≡ e.events ++ rest) × All (λ s. handle_of s ≢ e.number) rest

  -- By all that the handle knows, the history may be h at some moment: h is lawful, and fits the handle's own end and
  -- the ends that were joined into it. The owner has made all handles, so it knows which there are; a thief doesn't.
  pub record HasHistory (v : HandleView T) (h : List (Event T)) : Type 0 where
    pub lawful : IsLawfulHistory h
    pub ends : All (λ e. FitsEnd h e) v.ends
    pub made : 0 < v.made → All (λ s. handle_of s < v.made) h

  -- the handle itself has seen this history
  abbrev pub with_own : List (End T) → List (Event T) → List (End T)
  with_own [] h = []
  with_own (e ∷ es) h = handle_end e.number h ∷ es

  -- what it knows after that
  abbrev pub view_after : HandleView T → List (Event T) → HandleView T
  view_after v h = handle_view v.made (with_own v.ends h)

  -- at some moment the handle put the item, behind all that were put before
  abbrev pub Puts : HandleView T → T → HandleView T → Type 0
  Puts v x w = (h : List (Event T)) × HasHistory v h × (w ≡ view_after v (h ++ Put x ∷ []))

  -- at some moment the handle got the item: the first one that no handle had got
  abbrev pub GetsFirst : HandleView T → T → HandleView T → Type 0
  GetsFirst v x w = (h : List (Event T)) × HasHistory v h × (first_left h ≡ Some x)
      × (w ≡ view_after v (h ++ Got (own_number v.ends) ∷ []))

  -- At some moment each item that was put had been got. While other handles live, a handle knows of their steps only
  -- that the history was lawful with them. So it learns here no more than that they may have got what it and those that
  -- were joined into it didn't get. Where all handles are joined, it learns that these got all.
  abbrev pub AllGot : HandleView T → Type 0
  AllGot v = (h : List (Event T)) × HasHistory v h × (got_count h ≡ length (put_items h))

  -- what the owner knows after it took in another handle
  abbrev pub view_of_both : HandleView T → HandleView T → HandleView T
  view_of_both v w = handle_view v.made (v.ends ++ w.ends)

  -- all that both handles know are beginnings of one lawful history
  abbrev pub HaveOneHistory : HandleView T → HandleView T → Type 0
  HaveOneHistory v w = (h : List (Event T)) × HasHistory (view_of_both v w) h

  -- the numbers of the handles that are joined here, the handle's own first
  abbrev pub numbers_of : List (End T) → List ℕ
  numbers_of es = map (λ e. e.number) es

  -- the same handles are joined here as before, and as many were made
  pub record KeepsHandles (v w : HandleView T) : Type 0 where
    pub made : w.made ≡ v.made
    pub numbers : numbers_of w.ends ≡ numbers_of v.ends

  -- all handles that were made are joined here
  abbrev pub IsWhole : HandleView T → Type 0
  IsWhole v = (0 < v.made) × ((i : ℕ) → i < v.made → Contains (numbers_of v.ends) i)

  -- it is the first item that is left, by each history that fits what is known
  abbrev pub IsKnownFirst : HandleView T → Option T → Type 0
  IsKnownFirst v found = (h : List (Event T)) → HasHistory v h → found ≡ first_left h
