use Rattle.sf_insn.proofs.Common.{arith, common_steps, take_more, All-push, RawInsn, IsInsn}
use Rattle.sf_insn.proofs.bytes.encode.Goals as goal

no_raw : RawInsn
no_raw = record { code = 0; jt = 0; jf = 0; k = 0 }

pub loop-insn-preserved : goal.loop-insn-preserved
unfolding no_raw
loop-insn-preserved c = record {
  so_far = grind (arith, common_steps);
  fields = rw (take_more c.args.insns.now c.loop-insn.insn-index no_raw c.loop-insn-test.true)
      (All-push IsInsn _ _ c.loop-insn.invariant.fields c.put_insn.ensures.fields);
}
