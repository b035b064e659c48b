-- What a search for a member in a question tells.
use Rattle.sf_ask.proofs.Common.{common_steps, ◌≡◌, ℕ, ◌+◌, ◌<◌, ◌≤◌, Bool, true, false, List, take, arith, refl, ap, ◌∙◌, Some, slice_index, slice_get, list_all, list_all_more, list_all_at, get_or_from_slice_get, slice_get_within, Input, IsInput, Node, Cond, FactsView, Agrees, AreConfined, one, BookData, RegionData, IsRightRegion, Verdict, Clear, Hit, Doubt, has_action, PieceData, is_member, IsPlainPiece, QuestionData, IsInQuestion, IsLowInput, IsMemberAt, IsBreakAt, IsRightVerdict, IsNumberBefore, IsLeastInput, IsRightSearch}
use Rattle.sf_ask.proofs.Leasts.{least-admitted, least-below, least-agrees, same-input}

-- ---- conditions, one after the other

pub met-more : (p : Cond → Bool) (cs : List Cond) (i : ℕ) (c : Cond) → slice_get cs i ≡ Some c
    → list_all p (take i cs) ≡ true → p c ≡ true → list_all p (take (i + 1) cs) ≡ true
met-more p cs i c there before met =
    list_all_more p cs i c (slice_get_within cs i c there) ∙ rw (before, get_or_from_slice_get cs i c c there, met) refl

pub not-met : (p : Cond → Bool) (cs : List Cond) (i : ℕ) (c : Cond) → slice_get cs i ≡ Some c → p c ≡ false
    → list_all p cs ≡ false
not-met p cs i c there fails = list_all_at p cs i c (slice_get_within cs i c there)
    (ap p (get_or_from_slice_get cs i c c there) ∙ fails)

-- ---- the input of the least numbers

-- all members agree with the facts of a piece
abbrev MembersAgree : PieceData → FactsView → List Node → Type 0
MembersAgree p f ns = (d : Input) → IsInput d → is_member p d ≡ true → Agrees f ns d

-- the least input that confined facts leave is in the question
pub least-inside : (q : QuestionData) (f g : FactsView) (ns : List Node) (d : Input)
    → AreConfined f g ns (IsInQuestion q) (IsNumberBefore q 16) → IsLeastInput g d → IsInQuestion q d
least-inside q f g ns d a h = search (arith, least-admitted)

-- where the low input is a member, it is the least input that confined facts leave
pub low-is-least : (p : PieceData) (q : QuestionData) (f g : FactsView) (ns : List Node) (d low : Input)
    → MembersAgree p f ns
    → AreConfined f g ns (IsInQuestion q) (IsNumberBefore q 16) → IsLeastInput g d → IsInput low → IsLowInput q low
    → is_member p low ≡ true → d ≡ low
low-is-least p q f g ns d low known a h input is member =
    let agrees = a.keeps low input (known low input member) is.inside in
    let inside = least-inside q f g ns d a h in
    let below = least-below g ns d low a.covers h agrees in
    let same : (word : ℕ) → word < 16 → slice_index d.words word ≡ slice_index low.words word = search arith in
    same-input d low h.input.sixteen input.sixteen same

-- ---- what the steps of a search tell

pub doubtful : (p : PieceData) (q : QuestionData) (f g : FactsView) (ns : List Node) (d : Input) → MembersAgree p f ns
    → AreConfined f g ns (IsInQuestion q) (IsNumberBefore q 16) → IsLeastInput g d → is_member p d ≡ false
    → (low : Input) → IsInput low → IsLowInput q low → ¬ (is_member p low ≡ true)
doubtful p q f g ns d known a h none low input is member =
    let same = low-is-least p q f g ns d low known a h input is member in
    cc (ap (is_member p) same)

pub least-hit : (p : PieceData) (q : QuestionData) (f g : FactsView) (ns : List Node) (d : Input) → MembersAgree p f ns
    → AreConfined f g ns (IsInQuestion q) (IsNumberBefore q 16) → IsLeastInput g d
    → (other : Input) → IsInput other → is_member p other ≡ true → IsInQuestion q other → (word : ℕ) → word < 16
    → slice_index d.words word ≤ slice_index other.words word
least-hit p q f g ns d known a h other input member inside = search (arith, least-below)

-- where a pool has only words and constants, the least input is a member
pub exact-hit : (p : PieceData) (q : QuestionData) (g : FactsView) (d : Input) → IsPlainPiece p
    → AreConfined p.facts g p.pool (IsInQuestion q) (IsNumberBefore q 16) → IsLeastInput g d → is_member p d ≡ true
exact-hit p q g d exact a h = grind (arith, common_steps, least-agrees)

-- ---- from a piece to its region

pub not-asked : (s : BookData) (place : ℕ) (q : QuestionData) (r : RegionData) → slice_get s.regions place ≡ Some r
    → IsRightRegion s.stack r → has_action q.actions r.answer.action ≡ false
    → (d : Input) → ¬ IsBreakAt s place q d
not-asked s place q r there right none d h = grind (arith, common_steps, one)

-- what is known of a member of the region at a place is known of a member of its piece
in-piece : (s : BookData) (place : ℕ) (r : RegionData) (d : Input) → slice_get s.regions place ≡ Some r
    → (member : IsMemberAt s place d) → is_member r.piece d ≡ true
in-piece s place r d there member = grind (arith, common_steps)

pub region-right : (s : BookData) (place : ℕ) (q : QuestionData) (r : RegionData) (v : Verdict)
    → slice_get s.regions place ≡ Some r → IsRightRegion s.stack r → has_action q.actions r.answer.action ≡ true
    → IsRightSearch r.piece q v → IsRightVerdict s place q v
region-right s place q r Clear there right asked found =
    λ d h. found d h.member.input (in-piece s place r d there h.member) h.breaks.inside
region-right s place q r (Hit d) there right asked found = grind (arith, common_steps)
region-right s place q r Doubt there right asked found =
    λ d low h. found d h.member.input low (in-piece s place r d there h.member)
