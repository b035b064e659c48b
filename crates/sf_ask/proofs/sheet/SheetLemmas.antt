-- The verdicts on questions that are clear at once.
use Rattle.sf_ask.proofs.Common.{common_steps, ◌≡◌, ℕ, ◌<◌, not, Bool, true, false, List, [], ◌∷◌, length, Some, refl, subst, arith, Result, Ok, Err, IfOk, slice_get, if◌then◌else◌, list_all, range_with_len, get_or-map-range_with_len, length-map-range_with_len, Input, IsInput, Agrees, Covers, PieceData, is_member, BookData, RegionData, IsRightRegion, has_action, LeaveNone, IsRuledOutIfAsked, FindsInQuestion, HasVerdictAt, IsRightSearch, Clear, QuestionData, has_bit, IsRightVerdict, TellsTriedAt, IsDecisive, Fault, Verdict, IsPlain, verdict_at, is_skipped, is_clear_or_skipped, clear_if_wanted, first_verdicts, IsRightOn, IsRightWhereGiven}
use Rattle.std.proofs.Common.{None}
use Rattle.std.specs.Prelude.{map}
use Rattle.sf_ask.proofs.probe.ProbeLemmas.{there-is}
use Rattle.sf_ask.proofs.Searching.{not-asked, region-right}
use Rattle.sf_ask.proofs.OneVerdict.{unasked-verdict, asked-verdict}

pub first-length : (wanted : List ℕ) (n : ℕ) → length (first_verdicts wanted n) ≡ n
first-length wanted n = length-map-range_with_len (clear_if_wanted wanted) 0 n

pub first-at : (wanted : List ℕ) (n q : ℕ) → q < n → verdict_at (first_verdicts wanted n) q ≡ clear_if_wanted wanted q
first-at wanted n q h = get_or-map-range_with_len (clear_if_wanted wanted) 0 n q q None h (omega arith)

of-clear : (b : Bool) → is_clear_or_skipped (if b then Some Clear else None) ≡ true
of-clear true = refl
of-clear false = refl

all-clear : (wanted qs : List ℕ) → list_all is_clear_or_skipped (map (clear_if_wanted wanted) qs) ≡ true
all-clear wanted [] = refl
all-clear wanted (q ∷ qs) = rw (of-clear (has_bit wanted q)) (all-clear wanted qs)

pub first-clear : (wanted : List ℕ) (n : ℕ) → list_all is_clear_or_skipped (first_verdicts wanted n) ≡ true
first-clear wanted n = all-clear wanted (range_with_len 0 n)

pub skipped : (wanted : List ℕ) (q : ℕ) → is_skipped (clear_if_wanted wanted q) ≡ not (has_bit wanted q)
skipped wanted q = grind (arith, common_steps)

-- a verdict that is clear tells all that a sheet's verdicts tell
pub clear-is-right : (s : BookData) (questions : List QuestionData) (job q : ℕ) (question : QuestionData)
    → slice_get questions q ≡ Some question → IsRightVerdict s job question Clear → HasVerdictAt s job question Clear
    → IsRightOn s questions job q Clear
clear-is-right s questions job q question asked right rule =
    record { question = question; asked = asked; right = right; tried = tt; rule = rule; decisive = λ plain. tt }

-- what was judged tells all that a sheet's verdicts tell
pub judged-right : (s : BookData) (questions : List QuestionData) (job q : ℕ) (question : QuestionData)
    (r : Result Verdict Fault) → slice_get questions q ≡ Some question → IfOk r (IsRightVerdict s job question)
    → IfOk r (TellsTriedAt s job question) → IfOk r (HasVerdictAt s job question)
    → (IsPlain s.stack → IfOk r IsDecisive) → IfOk r (IsRightOn s questions job q)
judged-right s questions job q question (Ok v) asked right tried rule decisive =
    record { question = question; asked = asked; right = right; tried = tried; rule = rule; decisive = decisive }
judged-right s questions job q question (Err e) asked right tried rule decisive = right

pub right-if-wanted : (s : BookData) (questions : List QuestionData) (job q : ℕ) (wanted : List ℕ)
    → (has_bit wanted q ≡ true → IsRightOn s questions job q Clear)
    → IsRightWhereGiven s questions job q (clear_if_wanted wanted q)
right-if-wanted s questions job q wanted right = grind (arith, common_steps)

-- ---- what probes tell

-- a question that is ruled out if it asks about the region's action is clear
pub clear-if-asked : (s : BookData) (questions : List QuestionData) (job q : ℕ) (r : RegionData) (p : PieceData)
    → slice_get s.regions job ≡ Some r → IsRightRegion s.stack r → q < length questions → p ≡ r.piece
    → ((d : Input) → IsInput d → is_member p d ≡ true → Agrees p.facts p.pool d) → Covers p.facts p.pool
    → IsRuledOutIfAsked p.facts questions r.answer.action q → IsRightOn s questions job q Clear
unfolding IsRuledOutIfAsked
clear-if-asked s questions job q r p there right l same known covers out =
    let x = there-is questions q l in by x.0 x.1 (has_action x.0.actions r.answer.action) refl
  where
    by : (x : QuestionData) → slice_get questions q ≡ Some x → (b : Bool) → has_action x.actions r.answer.action ≡ b
        → IsRightOn s questions job q Clear
    by x asking false none =
        clear-is-right s questions job q x asking (not-asked s job x r there right none)
        (record { region = r; there = there; verdict = unasked-verdict r x none })
    by x asking true asks =
        let ruled : LeaveNone p.facts p.pool x = out x asking asks p.pool covers in
        let none : IsRightSearch r.piece x Clear = subst (λ (y : PieceData). IsRightSearch y x Clear) same
        (λ d input member. ruled.none d input (known d input member)) in
        clear-is-right s questions job q x asking (region-right s job x r Clear there right asks none)
        (record {
          region = r;
          there = there;
          verdict = asked-verdict r x Clear asks
              (subst (λ (y : PieceData). FindsInQuestion y x Clear) same ruled.rule);
        })
