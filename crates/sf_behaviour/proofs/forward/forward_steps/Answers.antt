use Rattle.sf_behaviour.proofs.Common.{inl, inr, [], ◌∷◌, ◌++◌, List, Insn, ap₂, map-append, take_more, ◌≡◌, ◌∙◌, ◌<◌, ap, length, unwrap_or, Option, Some, None, replicate, refl, sym, arith, rules, keeps_more, Step, Known, known_of, length-append, length-replicate, get_or-replicate, get_or_default}
use Rattle.sf_behaviour.proofs.VariableLemmas.{none-there}
use Rattle.sf_behaviour.proofs.KnowledgeLemmas.{knowledge-kept}
use Rattle.sf_behaviour.proofs.steps.StepsLemmas.{after-knowledge, at-push}
use Rattle.sf_behaviour.proofs.forward.ForwardLemmas.{AreZero, met-knowledge, met-less, steps-more, zero-kept, zero-made}
use Rattle.sf_behaviour.proofs.forward.forward_steps.Goals as goal

pub loop-i-init : goal.loop-i-init
loop-i-init c =
    let none : Option Known = None in
    let places = length c.args.insns.now in
    let made : c.in_ok-known.known.items ≡ replicate places none
    = c.in_ok-known.ensures.items_if_clones_equal (search rules) in
    record {
      keeps = c.in_ok-zero.ensures.store.0;
      zero = zero-made c.constant_word.new.store.trees c.in_ok-zero.zero c.in_ok-zero.ensures.word;
      count = search rules;
      code = rw c.new-steps.ensures.items refl;
      steps = rw c.new-steps.ensures.items (record {
        each = λ p s e. absurd cc;
        less = λ p q s t e there to. absurd cc;
        start = λ s r bits e there. absurd cc;
      });
      places = rw made (length-replicate places none);
      met = rw c.new-steps.ensures.items (λ p q s at inside to. absurd cc);
      known = rw made (λ q k e. absurd (none-there none places q k refl e));
      first = rw made (λ e. get_or-replicate places 0 none None c.requires.some);
    }

pub step_of-requires-clause-known : goal.step_of-requires-clause-known
step_of-requires-clause-known c =
    let h = c.loop-i.invariant in
    let ts = c.loop-i.store.trees in
    let start = replicate 18 (Some c.in_ok-zero.zero) in
    let now : c.index.result.now ≡ known_of c.loop-i.known.items c.loop-i.i
    = c.index.ensures ∙ get_or_default c.loop-i.known.items c.loop-i.i _ None (omega (arith, h.places)) in
    rw (c.unwrap_or-here.ensures, now) (met-knowledge ts (known_of c.loop-i.known.items c.loop-i.i) start
    (h.known c.loop-i.i) h.zero.knows)

pub loop-i-preserved : goal.loop-i-preserved
loop-i-preserved c =
    let h = c.loop-i.invariant in
    let e = c.in_ok-step.ensures in
    let us = c.step_of.new.store.trees in
    let i = c.loop-i.i in
    let steps = c.loop-i.steps.items in
    let step = c.in_ok-step.step in
    let known = c.loop-i.known.items in
    let carried = c.carry.ensures in
    let start = replicate 18 (Some c.in_ok-zero.zero) in
    let zero : AreZero us start = zero-kept e.store.0.trees h.zero in
    let inside : i < length known = omega (arith, h.places) in
    let here : step.known ≡ unwrap_or (known_of known i) start = e.known ∙ c.unwrap_or-here.ensures
    ∙ ap (λ (o : Option Known). unwrap_or o start) (c.index.ensures ∙ get_or_default known i _ None inside) in
    record {
      keeps = keeps_more _ _ _ h.keeps e.store.0;
      zero = zero;
      count = rw c.in_ok-push.ensures.items (omega (arith, h.count, length-append {A = Step}));
      code = rw c.in_ok-push.ensures.items (map-append (λ (s : Step). s.insn) steps (step ∷ [])
          ∙ ap₂ (λ (xs : List Insn) (x : Insn). xs ++ x ∷ []) h.code
          (e.insn ∙ get_or_default c.args.insns.now i _ step.insn (omega arith))
          ∙ sym (take_more c.args.insns.now i step.insn (omega arith)));
      steps = rw c.in_ok-push.ensures.items (steps-more _ us steps i step start e.store.0.trees h.steps h.count
          e.step (λ p s at to. rw here (met-less (known_of known i) start s.after (h.met p i s at inside to)))
          (λ none. here ∙ ap (λ (o : Option Known). unwrap_or o start) (h.first (sym h.count ∙ none))) zero);
      places = carried.count ∙ h.places;
      met = rw c.in_ok-push.ensures.items (λ p q s at inside to. elim (at-push steps step s p at) [
        | inl before ↦ carried.stays q s.after (h.met p q s before.1 (omega (arith, carried.count)) to)
        | inr now ↦ rw (← now.1) (carried.leads q (omega (arith, carried.count)) (rw (now.0 ∙ h.count, ← now.1) at to))
      ]);
      known = carried.right us (after-knowledge e.step) (λ q k is. knowledge-kept e.store.0.trees (h.known q k is));
      first = λ none. absurd (omega arith);
    }
