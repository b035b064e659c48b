-- Where no region has an answer by which a call may get through, none gets through.
use Rattle.sf_stack_warnings.proofs.Common.{◌≡◌, ℕ, ◌+◌, not, ◌&&◌, Bool, true, false, List, length, take, Some, slice_get, sym, ap, ◌∙◌, inl, inr, Contains, list_all, cases_Bool, false≢true, nil_from_length, All-contains, list_all_at, list_all_more, get_or_from_slice_get, slice_get_within, Answer, returns_of, one, BookData, RegionData, IsRightRegion, IsSettled, in_some_region, LetsNoneThrough, may_let_through}

abbrev refuses : RegionData → Bool
refuses r = not (may_let_through r.answer.action)

pub one_more : (rs : List RegionData) (i : ℕ) (r : RegionData) → slice_get rs i ≡ Some r
    → list_all refuses (take (i + 1) rs) ≡ (list_all refuses (take i rs) && refuses r)
one_more rs i r there =
    list_all_more refuses rs i r (slice_get_within rs i r there)
    ∙ ap (λ (x : RegionData). list_all refuses (take i rs) && refuses x) (get_or_from_slice_get rs i r r there)

pub one_passes : (rs : List RegionData) (i : ℕ) (r : RegionData) → slice_get rs i ≡ Some r
    → may_let_through r.answer.action ≡ true → list_all refuses rs ≡ false
one_passes rs i r there passes =
    list_all_at refuses rs i r (slice_get_within rs i r there)
    (ap refuses (get_or_from_slice_get rs i r r there) ∙ ap not passes)

refused : (rs : List RegionData) (i : ℕ) (r : RegionData) → slice_get rs i ≡ Some r → list_all refuses rs ≡ true
    → may_let_through r.answer.action ≡ false
refused rs i r there all = elim (cases_Bool (may_let_through r.answer.action)) [
  | inl passes ↦ absurd (false≢true (sym (one_passes rs i r there passes) ∙ all))
  | inr none ↦ none
]

pub passes_none : (s : BookData) → IsSettled s → length s.outstanding ≡ 0 → list_all refuses s.regions ≡ true
    → LetsNoneThrough s.stack
passes_none s settled left all = λ d a input answers.
    let found = in_some_region s settled (nil_from_length s.outstanding left) d input in
    let m = found.2 in
    let there : Contains s.regions m.region =
    (found.0, found.1, get_or_from_slice_get s.regions found.0 m.region m.region m.there) in
    let right = All-contains (IsRightRegion s.stack) s.regions m.region settled.lawful.regions there in
    let same : a ≡ m.region.answer =
    one (returns_of s.stack d) a m.region.answer answers (right.answers d input m.member) in
    ap (λ (x : Answer). may_let_through x.action) same ∙ refused s.regions found.0 m.region m.there all
