use Rattle.sf_names.proofs.Common.{arith, string_bytes, names_in, told_more, words_more}
use Rattle.sf_names.proofs.text.push_names_between.Goals as goal

pub loop-one-preserved : goal.loop-one-preserved
loop-one-preserved c =
    let f = names_in c.args.arch c.args.first c.args.last in
    record {
      text = words_more f c.args.count c.loop-one.told _ (string_bytes c.loop-one.text) _ c.args.names.now
          c.loop-one.one-index c.one-item.result (omega arith) c.loop-one.invariant.told c.loop-one.invariant.text
          (rw c.one-item.is at c.in_ok-told.ensures.text);
      told = told_more f c.args.count c.loop-one.told _ c.args.names.now c.loop-one.one-index c.one-item.result
          (omega arith) c.loop-one.invariant.told (rw c.one-item.is at c.in_ok-told.ensures.count);
    }
