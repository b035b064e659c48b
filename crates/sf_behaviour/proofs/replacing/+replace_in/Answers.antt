use Rattle.sf_behaviour.proofs.Common.{value_from, with_register, ◌<◌, ℕ, refl, sym, word_value, arith, Bits, tree_at, IsReplaced, IsWordOf, keeps_both}
use Rattle.sf_behaviour.proofs.words.WordLemmas.{word-kept, word-of-back, word-of-kept}
use Rattle.sf_behaviour.proofs.replacing.ReplacingLemmas.{replaced-kept, replaced-made, all-kept, all-put}
use Rattle.sf_behaviour.proofs.VariableLemmas.{ordered-from, with-other}
use Rattle.sf_behaviour.proofs.replacing.+replace_in.Goals as goal
use Rattle.sf_behaviour.proofs.replacing.+replace_in.Goals.{In_ok-new}

pub returns-in-Number-clause-replaced : goal.returns-in-Number-clause-replaced
returns-in-Number-clause-replaced t c = λ f h. record {
  id_within = c.requires.within;
  within = c.requires.within;
  values = λ bits. rw c.in-Number.ensures.tree refl;
}

pub returns-then-variable-past-clause-replaced : goal.returns-then-variable-past-clause-replaced
returns-then-variable-past-clause-replaced t c = λ f h.
    let tree = tree_at c.args.store.now.trees c.args.id in
    let v = c.in-Choice.variable in
    let r = c.args.register in
    let ordered = c.in-Choice.ensures.lawful.canonical.ordered c.args.id c.requires.within in
    record {
      id_within = c.requires.within;
      within = c.requires.within;
      values = λ bits. value_from tree v (ordered-from v c.in-Choice.ensures.tree ordered (omega arith)) bits
          (with_register r (f bits) bits) (λ w le. sym (with-other r (f bits) w bits
          (c.first_past-past.ensures w (omega (arith, le, c.if-variable-past.true)))));
    }

pub returns-in-Some-clause-replaced : goal.returns-in-Some-clause-replaced
returns-in-Some-clause-replaced t c = λ f h. (c.requires.made f h).each c.args.id c.in-Some.known.now
    (sym c.in-Some.ensures.value)

pub returns-in-Some-clause-within : goal.returns-in-Some-clause-within
returns-in-Some-clause-within t c =
    ((c.requires.made (word_value c.args.store.now.trees c.args.by.now.bits)
    (record { word = c.requires.by; values = λ bits. refl })).each c.args.id c.in-Some.known.now
    (sym c.in-Some.ensures.value)).within

pub replace_in-requires-2 : goal.replace_in-requires-2
replace_in-requires-2 t c =
    let kept = c.in_ok-new_lower.ensures.store.0.trees in
    let less : c.in-Choice.higher < c.args.id = omega (arith, c.in-Choice.ensures.older) in (
      omega (arith, less, c.decreases),
      (
        omega (arith, less, c.requires.within, kept.longer),
        (
          word-kept kept c.requires.by,
          (
            λ f h. c.in_ok-new_lower.ensures.made f (word-of-back kept c.requires.by h),
            c.requires.register,
          ),
        ),
      ),
    )

replaced : (t : ℕ) (c : In_ok-new t) (f : Bits → ℕ) → IsWordOf c.args.store.now.trees c.args.by.now.bits f
    → IsReplaced c.args.register c.choose.new.store.trees f c.args.id c.in_ok-new.new
replaced t c f h =
    let k1 = c.in_ok-new_lower.ensures.store.0.trees in
    let k2 = c.in_ok-new_higher.ensures.store.0.trees in
    let k3 = c.in_ok-bit.ensures.store.0.trees in
    let h1 = word-of-kept k1 h in
    replaced-made c.in_ok-new.new (keeps_both k1 (keeps_both k2 k3)) c.in_ok-new.ensures.keeps.trees c.requires.within
    (omega (arith, c.in-Choice.ensures.older, c.requires.within))
    (omega (arith, c.in-Choice.ensures.older, c.requires.within)) c.in-Choice.ensures.tree
    (replaced-kept (keeps_both k2 k3) (c.in_ok-new_lower.ensures.replaced f h))
    (replaced-kept k3 (c.in_ok-new_higher.ensures.replaced f h1)) (c.in_ok-bit.ensures.truth f (word-of-kept k2 h1))
    c.in_ok-new.ensures.within c.in_ok-new.ensures.chosen

pub returns-clause-replaced : goal.returns-clause-replaced
returns-clause-replaced t c = replaced t (goal.at.returns-clause-replaced t c).In_ok-new

pub returns-clause-made : goal.returns-clause-made
returns-clause-made t c = λ f h.
    all-put c.insert.new.self c.in_ok-insert.ensures.updates
    (all-kept (keeps_both c.in_ok-bit.ensures.store.0.trees c.in_ok-new.ensures.keeps.trees)
    (c.in_ok-new_higher.ensures.made f (word-of-kept c.in_ok-new_lower.ensures.store.0.trees h)))
    (replaced t (goal.at.returns-clause-made t c).In_ok-new f h)
