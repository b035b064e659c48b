-- What it means that `audit --policy q.toml p.bpf` ended with status 0.
use Rattle.std.proofs.Common.{◌≡◌, ◌∙◌, ◌⊎◌, ◌<◌, ◌≤◌, ℕ, zero, suc, Bool, true, false, List, [], ◌∷◌, length, map, ap, refl, subst, sym, codes, inl, inr, arith, append-nil}
use Rattle.std.specs.Prelude.{Option, Some, None, count_by, if◌then◌else◌, nat_lt, not, slice_get}
use Rattle.std.specs.Borrow.{Bor}
use Rattle.std.proofs.lemmas.Bool.{ltb-false}
use Rattle.std.proofs.lemmas.List.Sums.{sum_by-cons}
use Rattle.std.proofs.lemmas.Option.{slice_get_within}
use Rattle.clap.specs.Words.{Text}
use Rattle.sf_insn.specs.declared.input.Input.{Input}
use Rattle.sf_insn.specs.Inputs.{IsInput}
use Rattle.sf_check.specs.declared.insn.Insn.{Insn}
use Rattle.sf_question.specs.QuestionData.{QuestionData}
use Rattle.sf_question.specs.Breaking.{Breaks}
use Rattle.sf_ask.specs.Verdicts.{IsRightReply}
use Rattle.sf_ask.specs.declared.verdict.Reply.{Reply}
use Rattle.sf_ask.specs.declared.verdict.Reply.TheVariants.{Allowed, Never, Unsettled}
use Rattle.sf_stack.specs.Filters.{SpellStack}
use Rattle.sf_audit.specs.Expectations.{ExpectedData, does_hold, has_unexpected}
use Rattle.sf_audit.specs.Outcomes.{Found}
use Rattle.sf_audit.specs.Reports.{is_unsettled}
use Rattle.sf_evaluate.specs.Expecting.{AreAcceptedIn}
use Rattle.sf_evaluate.specs.Policies.{AreAsked, IsPolicy, all_questions}
use Rattle.sf_command.specs.Audits.{IsFoundFor, ReadData}
use Rattle.sf_command.specs.Runs.{DoesAsAsked, meant_words}
use Rattle.sf_command.specs.Status.{audit_status}
use Rattle.sf_command.specs.Subcommands.{Audits}
use Rattle.command_run.specs.Lines.{KeepsPolicy, audit_words}
use Rattle.command_run.proofs.FileLemmas.{known_is, one_file, one_of_one}
use Rattle.command_run.proofs.WordLemmas.{alone, audit_fits, audit_read, no_error}

-- a list has an element at each place before its end
present : {X : Type 0} (xs : List X) (n : ℕ) → n < length xs → (x : X) × (slice_get xs n ≡ Some x)
present [] n within = absurd (omega (arith, within))
present (x ∷ xs) zero within = (x, refl)
present (x ∷ xs) (suc n) within = present xs n (omega arith)

-- with status 0 no question is unexpectedly allowed, and none is unsettled
settles : (expected : ExpectedData) (found : Found) → audit_status expected found ≡ 0
    → (has_unexpected expected.accepted found.questions found.replies ≡ false)
    × (nat_lt 0 (count_by is_unsettled found.replies) ≡ false)
settles expected found ended = by (does_hold expected.held)
    (has_unexpected expected.accepted found.questions found.replies)
    (nat_lt 0 (count_by is_unsettled found.replies)) ended
  where
    by : (held unexpected unsettled : Bool)
        → ◌≡◌ {A = ℕ} (if not held then 2 else if unexpected then 1 else if unsettled then 2 else 0) 0
        → (unexpected ≡ false) × (unsettled ≡ false)
    by true false false is = (refl, refl)
    by false unexpected unsettled is = absurd (omega (arith, is))
    by true true unsettled is = absurd (omega (arith, is))
    by true false true is = absurd (omega (arith, is))

-- so each reply is never
never_at : (qs : List QuestionData) (rs : List Reply) → length rs ≡ length qs → has_unexpected [] qs rs ≡ false
    → count_by is_unsettled rs ≡ 0 → (place : ℕ) (reply : Reply) → slice_get rs place ≡ Some reply → reply ≡ Never
never_at qs [] same none settled place reply here = cc
never_at [] (r ∷ rs) same none settled place reply here = absurd (omega (arith, same))
never_at (q ∷ qs) (Allowed d ∷ rs) same none settled place reply here = cc none
never_at (q ∷ qs) (Unsettled ∷ rs) same none settled place reply here =
    absurd (omega (arith, settled, sum_by-cons (λ (r : Reply). if is_unsettled r then 1 else 0) Unsettled rs))
never_at (q ∷ qs) (Never ∷ rs) same none settled zero reply here = cc
never_at (q ∷ qs) (Never ∷ rs) same none settled (suc place) reply here =
    never_at qs rs (omega (arith, same)) none
    (omega (arith, settled, sum_by-cons (λ (r : Reply). if is_unsettled r then 1 else 0) Never rs)) place reply here

-- no input breaks a question of an audit that ended so, without accepted names
kept_by : (stack : List (List Insn)) (read : ReadData) (budget : ℕ) (found : Found) (expected : ExpectedData)
    → read.accepted ≡ [] → audit_status expected found ≡ 0 → IsFoundFor stack read budget found expected
    → (place : ℕ) (q : QuestionData) (d : Input) → slice_get read.questions place ≡ Some q → IsInput d
    → ¬ Breaks stack q d
kept_by stack read budget found expected none ended is place q d here input breaks =
    let right = is.audit.found.replies in
    let asked : slice_get found.questions place ≡ Some q = ap (λ (qs : List QuestionData). slice_get qs place)
    is.audit.found.questions ∙ here in
    let within : place < length found.questions = slice_get_within found.questions place q asked in
    let (reply, there) = present found.replies place (omega (arith, right.count, within)) in
    let (good, settled) = settles expected found ended in
    let accepted : expected.accepted ≡ [] = ap (λ (e : ExpectedData). e.accepted) is.expects ∙ none in
    let all_good : has_unexpected [] found.questions found.replies ≡ false = subst (λ (names : List Text).
    has_unexpected names found.questions found.replies ≡ false) accepted good in
    let all_settled : count_by is_unsettled found.replies ≡ 0 = omega (arith, ltb-false _ _ settled) in
    let never : reply ≡ Never = never_at found.questions found.replies right.count all_good all_settled place reply
    there in
    let one = right.each place reply there in
    let question_is : one.question ≡ q = same_some one.question q (sym one.asked ∙ asked) in
    let none_breaks : IsRightReply found.settled one.question Never = subst (λ (r : Reply).
    IsRightReply found.settled one.question r) never one.replies.right in
    none_breaks.1 d input
    (subst (λ (s : List (List Insn)). Breaks s one.question d) (sym is.audit.found.end.of)
    (subst (λ (x : QuestionData). Breaks stack x d) (sym question_is) breaks))
  where
    same_some : (a b : QuestionData) → Some a ≡ Some b → a ≡ b
    same_some a b e = cc

-- no name is accepted where no file has any
none_accepted : (holds : Text → Option Text) (accept : Option Text) (questions : List QuestionData)
    (names : List Text) → accept ≡ None → AreAcceptedIn holds accept questions names → names ≡ []
none_accepted holds None questions names is are = are
none_accepted holds (Some path) questions names is are = cc

module _ (holds : Text → Option Text) (policy bytes : Text) (policy_known : holds (codes "q.toml") ≡ Some policy)
    (known : holds (codes "p.bpf") ≡ Some bytes) where
  one_policy : (paths : List (Bor Text)) (questions : List QuestionData)
      → map (λ p. p.now) paths ≡ codes "q.toml" ∷ [] → AreAsked holds paths questions → IsPolicy policy questions
  one_policy [] questions at asked = cc
  one_policy (b ∷ c ∷ rest) questions at asked = cc
  one_policy (b ∷ []) questions at asked =
      let here : b.now ≡ codes "q.toml" = cc in
      let (own, there, (read, are, is)) = asked.read.each 0 b refl in
      let files_are : asked.files ≡ own ∷ [] = one_of_one asked.files own asked.read.same there in
      let questions_are : questions ≡ own = asked.all
      ∙ ap (λ (fs : List (List QuestionData)). all_questions fs) files_are ∙ append-nil own in
      let read_is : read ≡ policy = known_is (holds b.now) policy read (ap holds here ∙ policy_known) are in
      subst (λ (qs : List QuestionData). IsPolicy policy qs) (sym questions_are)
      (subst (λ (bs : Text). IsPolicy bs own) read_is is)

  does_audit : (version : Text) (status : ℕ) (old new : Option Text) → status ≡ 0
      → DoesAsAsked version holds audit_words status old new → KeepsPolicy policy bytes
  does_audit version status old new ended (inr helps) =
      absurd (no_error audit_words helps.kind audit_fits helps.error)
  does_audit version status old new ended (inl (fits, (found, at, which))) =
      let read = audit_read found at in
      let did : Audits version holds found.1 status old new =
      alone _ _ _ _ _ _ _ (codes "audit") found read.name which in
      let done = did.audited in
      let none : done.read.accepted ≡ [] = none_accepted holds did.asked.accept done.read.questions done.read.accepted
      (did.asked_for.accept ∙ read.accept) done.asked_by.accepted in
      let files_are : done.held.files ≡ bytes ∷ [] = one_file holds (codes "p.bpf") bytes known did.paths
      done.held.files (did.named ∙ read.paths) done.held.read in
      record {
        questions = done.read.questions;
        asked = one_policy did.asked.policies done.read.questions (did.asked_for.policies ∙ read.policies)
            done.asked_by.questions;
        stack = done.stack;
        spelled = subst (λ (fs : List Text). SpellStack fs done.stack) files_are done.held.spelled;
        kept = kept_by done.stack done.read did.budget done.found done.expected none (sym done.status_is ∙ ended)
            done.is_found;
      }

  -- the same from what `command` promises of a small status, for words that are these
  pub audit_says : (version : Text) (words : List Text) (status : ℕ) (old new : Option Text) (Large : Type 0)
      → words ≡ audit_words
      → (status ≤ 2 → DoesAsAsked version holds (meant_words words) status old new ⊎ Large)
      → (Large → status ≡ 2) → status ≡ 0 → KeepsPolicy policy bytes
  audit_says version words status old new Large are done large ended = by (done (omega (arith, ended)))
    where
      by : DoesAsAsked version holds (meant_words words) status old new ⊎ Large → KeepsPolicy policy bytes
      by (inl does) = does_audit version status old new ended
          (subst (λ (ws : List Text). DoesAsAsked version holds (meant_words ws) status old new) are does)
      by (inr other) = absurd (omega (arith, ended, large other))
