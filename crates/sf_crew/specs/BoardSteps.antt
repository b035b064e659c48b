-- What each step of a seat does to its view, which is what the seat knows, and what the step finds.
use Rattle.std.specs.Prelude.{◌≡◌, ℕ, ◌+◌, ◌-◌, ◌<◌, ◌≤◌, ◌==◌, List, [], ◌∷◌, ◌++◌, count_by, length, Option, Some, None, IfSome}
use Rattle.sf_crew.specs.Common.{BoardKey, Note, EnteredSheet, View}
use Rattle.sf_crew.specs.Views.{count_of_regions, jobs, entered_sheet, note, Noted, RightPlace, once_below}

-- a view by its parts, in the order in which a view has them
abbrev pub view_of : Option BoardKey → ℕ → ℕ → Option ℕ → List ℕ → List EnteredSheet → List Note → View
view_of k p n o m es ns = record {
  about = k;
  joined_seats = p;
  exhausted_seats = n;
  owes = o;
  marked = m;
  entered_sheets = es;
  notes = ns;
}

-- the first seat of a board, in which all seats are joined, and which has done nothing there
abbrev pub first_view : BoardKey → View
first_view k = view_of (Some k) k.seats 0 None [] [] []

-- a seat of no board
abbrev pub idle_view : View
idle_view = view_of None 0 0 None [] [] []

-- the seat has drawn a job, and owes its sheet
abbrev pub view_with_job : View → ℕ → View
view_with_job v n = view_of v.about v.joined_seats v.exhausted_seats (Some n) v.marked v.entered_sheets v.notes

-- the seat has found that no job is left
abbrev pub view_without_job : View → View
view_without_job v = view_of v.about v.joined_seats (v.exhausted_seats + 1) v.owes v.marked v.entered_sheets v.notes

-- the view with other notes
abbrev pub with_notes : View → List Note → View
with_notes v ns = view_of v.about v.joined_seats v.exhausted_seats v.owes v.marked v.entered_sheets ns

-- the seat has seen a least place of a question
abbrev pub view_with_note : View → ℕ → ℕ → View
view_with_note v q r = with_notes v (note q r ∷ v.notes)

-- the view with other questions marked
abbrev pub with_marks : View → List ℕ → View
with_marks v qs = view_of v.about v.joined_seats v.exhausted_seats v.owes qs v.entered_sheets v.notes

-- the seat has marked a question as one in doubt
abbrev pub view_with_mark : View → ℕ → View
view_with_mark v q = with_marks v (q ∷ v.marked)

-- the seat has entered the sheet of a job, with the doubts that it had marked
abbrev pub view_with_sheet : View → ℕ → View
view_with_sheet v j = view_of v.about v.joined_seats v.exhausted_seats None []
    (entered_sheet j v.marked ∷ v.entered_sheets) v.notes

-- two seats as one, which owes no sheet
abbrev pub joined_view : View → View → View
joined_view v w = view_of v.about (v.joined_seats + w.joined_seats) (v.exhausted_seats + w.exhausted_seats) None []
    (v.entered_sheets ++ w.entered_sheets)
    (v.notes ++ w.notes)

-- if all seats are joined in the view, it has each job exactly once
abbrev pub HasAllJobs : BoardKey → View → Type 0
HasAllJobs k v = v.joined_seats ≡ k.seats → (length (jobs v) ≡ count_of_regions k)
    × ((x : ℕ) → count_by (λ j. x == j) (jobs v) ≡ once_below x (count_of_regions k))

-- A draw found n. If a region has this place, it is a new job of the seat, whose jobs were fewer than the regions, and
-- the seat owes its sheet now. If none has it, no job is left, and the seat knows that; if all seats are joined in it,
-- it has each job exactly once.
abbrev pub Draws : View → ℕ → View → Type 0
Draws v n w =
    IfSome v.about (λ k. (n < count_of_regions k → (count_by (λ j. n == j) (jobs v) ≡ 0)
    × (length (jobs v) < count_of_regions k) × (w ≡ view_with_job v n))
    × (count_of_regions k ≤ n → (w ≡ view_without_job v) × HasAllJobs k w))

-- a look at question q found the place r, which the seat notes: it is right, and no greater than any noted before
abbrev pub Looks : View → ℕ → ℕ → View → Type 0
Looks v q r w = (w ≡ view_with_note v q r) × ((s : ℕ) → Noted v.notes q s → r ≤ s)
    × IfSome v.about (λ k. RightPlace k q r)

-- each job stands in the view at most once; where the view found that no job is left, it has each job if all seats
-- are joined in it
abbrev pub Knows : View → Type 0
Knows v = ((x : ℕ) → count_by (λ j. x == j) (jobs v) ≤ 1) × IfSome v.about (λ k. 0 < v.exhausted_seats → HasAllJobs k v)

-- what a seat keeps when one of its joined seats is split off
abbrev pub kept_view : View → View
kept_view v = view_of v.about (v.joined_seats - 1) v.exhausted_seats v.owes v.marked v.entered_sheets v.notes

-- the new seat that was split off, which has done nothing
abbrev pub shared_view : View → View
shared_view v = view_of v.about 1 0 None [] [] []

-- A draw found no job. If the seat had found that before, its view stays. If not, it knows it now, and has each job if
-- all seats are joined in it.
abbrev pub GotNone : BoardKey → View → View → Type 0
GotNone k v w = (0 < v.exhausted_seats → w ≡ v) × (v.exhausted_seats ≡ 0 → (w ≡ view_without_job v) × HasAllJobs k w)
