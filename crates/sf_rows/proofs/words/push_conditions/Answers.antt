use Rattle.sf_rows.proofs.Common.{[], ◌∷◌, ◌∙◌, arith, refl, sym, string_bytes}
use Rattle.sf_rows.proofs.TextLemmas.{further-shown, further-placed}
use Rattle.sf_rows.proofs.words.push_conditions.Goals as goal

pub loop-condition-preserved-then-is_placed : goal.loop-condition-preserved-then-is_placed
loop-condition-preserved-then-is_placed c = record {
  words = further-placed (string_bytes c.loop-condition.text) c.loop-condition.before.now _ c.args.conditions.now
      c.loop-condition.condition-index c.condition-item.result (omega arith) c.condition-item.is
      (sym c.is_placed.ensures ∙ c.if-is_placed.true) c.loop-condition.invariant.words;
  text = c.loop-condition.invariant.text;
}

pub loop-condition-preserved : goal.loop-condition-preserved
unfolding lib.Utf8.encode
loop-condition-preserved c = record {
  words = further-shown (string_bytes c.loop-condition.text) c.loop-condition.before.now _ _ _ c.args.conditions.now
      c.loop-condition.condition-index c.condition-item.result (omega arith) c.condition-item.is
      (sym c.is_placed.ensures ∙ c.if-is_placed.false) c.in_ok-push_str.ensures.bytes
      c.in_ok-push_condition.ensures c.loop-condition.invariant.words;
  text = (32 ∷ 97 ∷ 110 ∷ 100 ∷ 32 ∷ [], (refl, refl));
}
