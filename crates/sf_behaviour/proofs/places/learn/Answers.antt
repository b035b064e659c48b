use Rattle.sf_behaviour.proofs.Common.{ext_get_or, sym, ◌≡◌, ◌∙◌, ℕ, refl, subst, length-set, arith, None, Option, keeps_more, Known, known_word, Tells, Word}
use Rattle.sf_behaviour.proofs.words.WordLemmas.{set-each}
use Rattle.sf_behaviour.proofs.KnowledgeLemmas.{knowledge-kept, set-less}
use Rattle.sf_behaviour.proofs.places.learn.Goals as goal

pub learn_register-requires-clause-knowledge : goal.learn_register-requires-clause-knowledge
learn_register-requires-clause-knowledge c = knowledge-kept c.loop-register.invariant.keeps.trees c.requires.knowledge

pub loop-register-preserved : goal.loop-register-preserved
loop-register-preserved c =
    let h = c.loop-register.invariant in
    let e = c.in_ok-learnt.ensures in
    let more = c.args.more.now in
    let r = c.loop-register.register in
    let word = known_word more r in
    record {
      keeps = keeps_more _ _ _ h.keeps e.store.0;
      within = e.within;
      count = rw e.known (length-set c.loop-register.so_far r word ∙ h.count);
      less = rw e.known (set-less c.loop-register.so_far more r word (omega arith) h.count h.less (λ w at. at));
      same = λ q l. rw e.known (set-each (λ (p : ℕ) (o : Option Word). o ≡ known_word more p) None
          c.loop-register.so_far r word q (omega (arith, h.count)) refl (λ ne. h.same q (omega arith)));
      tells = λ code place t. e.tells code place (h.tells code place t);
    }

pub returns-clause-tells : goal.returns-clause-tells
returns-clause-tells c = λ code place t.
    subst (λ (k : Known). Tells code place c.loop-register.store.trees k c.loop-register.learnt)
    (ext_get_or None c.loop-register.so_far c.args.more.now
    (c.loop-register.invariant.count ∙ sym c.requires.knowledge.count)
    (λ r l. c.loop-register.invariant.same r (omega (arith, l, c.loop-register.invariant.count))))
    (c.loop-register.invariant.tells code place t)
