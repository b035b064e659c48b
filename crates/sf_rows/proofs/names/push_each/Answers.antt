use Rattle.sf_rows.proofs.Common.{[], ◌∷◌, arith, refl, string_bytes, codes}
use Rattle.sf_rows.proofs.TextLemmas.{joined-more}
use Rattle.sf_rows.proofs.names.push_each.Goals as goal

pub loop-name-preserved : goal.loop-name-preserved
unfolding lib.Utf8.encode
loop-name-preserved c = record {
  words = joined-more string_bytes (codes ",") (string_bytes c.loop-name.text) c.loop-name.before.now _ _ _
      c.args.names.now c.loop-name.name-index c.name-item.result c.name-item.result (omega arith) c.name-item.is
      c.in_ok-push_str.ensures.bytes (rw c.as_str.ensures.value at c.in_ok-push_str-2.ensures.bytes)
      c.loop-name.invariant.words;
  text = (44 ∷ [], (refl, refl));
}
