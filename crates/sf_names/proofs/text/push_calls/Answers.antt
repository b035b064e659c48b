use Rattle.sf_names.proofs.Common.{arith, string_bytes, name_between, told_more, words_more}
use Rattle.sf_names.proofs.text.push_calls.Goals as goal

pub loop-call-preserved : goal.loop-call-preserved
loop-call-preserved c =
    let f = name_between c.args.first c.args.last in
    record {
      text = words_more f c.args.count c.loop-call.told _ (string_bytes c.loop-call.text) _ c.args.calls.now
          c.loop-call.call-index c.call-item.result (omega arith) c.loop-call.invariant.told c.loop-call.invariant.text
          (rw c.call-item.is at c.in_ok-told.ensures.text);
      told = told_more f c.args.count c.loop-call.told _ c.args.calls.now c.loop-call.call-index c.call-item.result
          (omega arith) c.loop-call.invariant.told (rw c.call-item.is at c.in_ok-told.ensures.count);
    }
