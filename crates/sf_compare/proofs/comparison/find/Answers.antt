use Rattle.sf_compare.proofs.Common.{ap, arith, keeps_more, StoreData, behaviour_kept}
use Rattle.sf_compare.proofs.comparison.find.Goals as goal

pub find_changes-requires-clause-before : goal.find_changes-requires-clause-before
find_changes-requires-clause-before c =
    omega (arith, c.in_ok-before.ensures.answers.within, c.in_ok-after.ensures.keeps.trees.longer)

pub find_changes-requires-clause-after : goal.find_changes-requires-clause-after
find_changes-requires-clause-after c = c.in_ok-after.ensures.answers.within

pub lets_some_through-requires : goal.lets_some_through-requires
lets_some_through-requires c =
    omega (
      arith,
      c.in_ok-before.ensures.answers.within,
      c.in_ok-after.ensures.keeps.trees.longer,
      c.in_ok-findings.ensures.keeps.trees.longer,
    )

pub lets_some_through-requires-2 : goal.lets_some_through-requires-2
lets_some_through-requires-2 c =
    omega (
      arith,
      c.in_ok-after.ensures.answers.within,
      c.in_ok-findings.ensures.keeps.trees.longer,
      c.in_ok-through_old.ensures.keeps.trees.longer,
    )

pub returns-clause-findings : goal.returns-clause-findings
returns-clause-findings c =
    c.in_ok-findings.ensures.found c.args.old.now c.args.new.now
    (behaviour_kept c.behaviour.new.store.trees c.behaviour-2.new.store.trees c.args.old.now c.in_ok-before.before
    c.in_ok-after.ensures.keeps.trees (rw c.programs.ensures.same at c.in_ok-before.ensures.answers))
    (rw c.programs-2.ensures.same at c.in_ok-after.ensures.answers)

pub returns-clause-old : goal.returns-clause-old
returns-clause-old c =
    let s0 = c.behaviour.new.store in
    let s1 = c.behaviour-2.new.store in
    let s2 = c.find_changes.new.store in
    let kept = keeps_more s0 s1 s2 c.in_ok-after.ensures.keeps c.in_ok-findings.ensures.keeps in
    c.in_ok-through_old.ensures.through c.args.old.now
    (behaviour_kept s0.trees s2.trees c.args.old.now c.in_ok-before.before kept.trees
    (rw c.programs.ensures.same at c.in_ok-before.ensures.answers))

pub returns-clause-new : goal.returns-clause-new
returns-clause-new c =
    let s1 = c.behaviour-2.new.store in
    let s2 = c.find_changes.new.store in
    let s3 = c.lets_some_through.new.store in
    let kept = keeps_more s1 s2 s3 c.in_ok-findings.ensures.keeps c.in_ok-through_old.ensures.keeps in
    c.in_ok-through_new.ensures.through c.args.new.now
    (behaviour_kept s1.trees s3.trees c.args.new.now c.in_ok-after.after kept.trees
    (rw c.programs-2.ensures.same at c.in_ok-after.ensures.answers))

pub returns-clause-few : goal.returns-clause-few
returns-clause-few c =
    omega (
      arith,
      c.count.ensures.few,
      ap (λ (s : StoreData). s.most) c.in_ok-store.ensures.store,
      c.in_ok-before.ensures.keeps.most,
      c.in_ok-after.ensures.keeps.most,
      c.in_ok-findings.ensures.keeps.most,
      c.in_ok-through_old.ensures.keeps.most,
      c.in_ok-through_new.ensures.keeps.most,
    )
