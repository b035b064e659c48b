use Rattle.sf_ask.proofs.Common.{◌≡◌, inl, inr, true, false, sym, subst, cases_lt, All-contains, Contains-get_or, known_at, IsProbeIn, IsRuledOutIfAsked, has_one_call, has_bit, Probe}
use Rattle.sf_ask.proofs.probe.ProbeLemmas.{call-misses}
use Rattle.sf_ask.proofs.probing.questions_left.Goals as goal

pub add_questions_left-requires-2-clause-probes : goal.add_questions_left-requires-2-clause-probes
add_questions_left-requires-2-clause-probes c = λ k d l.
    All-contains (IsProbeIn c.args.questions.now) c.args.probes.now.by_call.items _ c.requires.probes.each.right_calls
    (c.probes_of_calls-by_call.ensures.only _ (Contains-get_or c.probes_of_calls-by_call.result.now k d l))

pub returns : goal.returns
returns c = λ q l none.
    let f = c.args.facts.now in
    let questions = c.args.questions.now in
    let action = c.args.action in
    let probes = c.requires.probes.each in
    let P = IsRuledOutIfAsked f questions action in
    let left : Probe → Type 0 = λ p. has_bit c.add_questions_left-2.new.left p.question ≡ false → P p.question in
    let word = c.known-call.ensures in
    elim (probes.each q l) [
      | inl has ↦
          let p = has.0 in
          let is = All-contains (IsProbeIn questions) c.args.probes.now.by_call.items p probes.right_calls has.1 in
          let one = All-contains (λ x. has_one_call x ≡ true) c.args.probes.now.by_call.items p probes.one_call has.1 in
          subst P has.2 (elim (cases_lt p.low (known_at f.known 0).low) [
            | inl below ↦ call-misses f questions action p is one (inl below)
            | inr from ↦ elim (cases_lt (known_at f.known 0).high p.low) [
              | inl above ↦ call-misses f questions action p is one (inr above)
              | inr to ↦ All-contains left c.probes_of_calls-by_call.result.now p c.add_questions_left-2.ensures.added
                  (c.probes_of_calls-by_call.ensures.all p has.1 (rw word from) (rw word to))
                  (subst (λ x. has_bit c.add_questions_left-2.new.left x ≡ false) (sym has.2) none)
            ]
          ])
      | inr has ↦
          let first = c.add_questions_left-2.ensures.kept q none in
          subst P has.2 (All-contains (λ (p : Probe). has_bit c.add_questions_left.new.left p.question
          ≡ false → P p.question)
          c.args.probes.now.others.items has.0 (rw c.as_slice-others.ensures.value at
          c.add_questions_left.ensures.added) has.1
          (subst (λ x. has_bit c.add_questions_left.new.left x ≡ false) (sym has.2) first))
    ]
