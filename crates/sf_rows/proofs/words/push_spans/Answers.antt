use Rattle.sf_rows.proofs.Common.{[], ◌∷◌, arith, refl, string_bytes, codes, span_words}
use Rattle.sf_rows.proofs.TextLemmas.{joined-more}
use Rattle.sf_rows.proofs.words.push_spans.Goals as goal

pub loop-span-preserved : goal.loop-span-preserved
unfolding lib.Utf8.encode
loop-span-preserved c = record {
  words = joined-more (span_words c.args.style) (codes ",") (string_bytes c.loop-span.text) c.loop-span.before.now _ _ _
      c.args.spans.now c.loop-span.span-index _ _ (omega arith) refl c.in_ok-push_str.ensures.bytes
      c.in_ok-push_span.ensures c.loop-span.invariant.words;
  text = (44 ∷ [], (refl, refl));
}
