use Rattle.sf_run.proofs.MeetingLemmas.{bits_more}
use Rattle.sf_run.proofs.tracing.push_bits.Goals as goal

pub loop-i-preserved : goal.loop-i-preserved
loop-i-preserved c =
    bits_more c.loop-i.met.items c.push.new.self.items _ c.loop-i.i c.args.word c.loop-i-test.true
    c.in_ok-push.ensures.items c.loop-i.invariant
