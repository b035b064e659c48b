use Rattle.sf_profile.proofs.Common.{common_steps, arith, ◌<◌, length, sym, subst, value_view, IsReadBack}
use Rattle.sf_profile.specs.declared.fault.Fault.TheVariants as faults
use Rattle.sf_profile.proofs.repeats.RepeatLemmas.{read_back_here, fault_here, fault_later}
use Rattle.sf_profile.proofs.repeats.fault_of_rules.Goals as goal

pub value_repeats_key-requires : goal.value_repeats_key-requires
value_repeats_key-requires c =
    let within : c.loop-i.i < length c.args.items.now = c.loop-i-test.true in
    subst (λ v. IsReadBack (value_view v)) (sym c.index-items-i.is)
    (read_back_here c.args.items.now c.loop-i.i c.index-items-i.result within c.loop-i.invariant.0).0

pub returns-then-branch : goal.returns-then-branch
returns-then-branch c = grind (arith, common_steps, fault_here)

pub loop-i-preserved : goal.loop-i-preserved
loop-i-preserved c = grind (arith, common_steps, read_back_here, fault_later)
