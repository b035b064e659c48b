use Rattle.sf_behaviour.proofs.Common.{◌≡◌, ◌∙◌, ◌<◌, ℕ, Option, Some, None, ap, length, length-set, only_one, subst, arith, get_or_default, get_or-set_same, same_Some, Known, known_of, IsKnowledge, IsMet, slice_set, unwrap_or}
use Rattle.sf_behaviour.proofs.words.WordLemmas.{set-each}
use Rattle.sf_behaviour.proofs.KnowledgeLemmas.{knowledge-less}
use Rattle.sf_behaviour.proofs.forward.ForwardLemmas.{met-less}
use Rattle.sf_behaviour.proofs.forward.carry_to.Goals as goal

pub returns-then-place-len : goal.returns-then-place-len
returns-then-place-len c =
    let old = c.args.known.now.items in
    let place = c.args.place in
    let after = c.args.after.now in
    let both = c.meet.ensures in
    let now : Option Known = Some c.meet.result in
    let inside : place < length old = omega (arith, c.if-place-len.true, c.len.ensures) in
    let was : c.unwrap_or-so_far.result ≡ unwrap_or (known_of old place) after = c.unwrap_or-so_far.ensures
    ∙ ap (λ (o : Option Known). unwrap_or o after) (c.index.ensures ∙ get_or_default old place _ None inside) in
    record {
      count = length-set old place now;
      leads = λ q l to. subst (λ (p : ℕ). IsMet (known_of (slice_set old place now) p) after)
          (only_one place q to) (rw (get_or-set_same old place now None inside) both.second);
      stays = λ q k h. set-each
          (λ (p : ℕ) (o : Option Known). IsMet (known_of old p) k → IsMet o k) None old place now q inside
          (λ m r w e. met-less (known_of old place) after k m r w (rw was at (both.first r w e))) (λ ne same. same) h;
      right = λ ts knows are q. set-each
          (λ (p : ℕ) (o : Option Known). (k : Known) → o ≡ Some k → IsKnowledge ts k) None old place now q inside
          (λ k e. subst (λ (l : Known). IsKnowledge ts l) (same_Some c.meet.result k e)
          (knowledge-less ts c.meet.result after both.second both.count knows)) (λ ne. are q);
    }
