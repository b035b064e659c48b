-- How what is known of places comes about, from the first place on.
use Rattle.sf_behaviour.proofs.Common.{Bits, IsRegister, held_in, ◌≡◌, ℕ, ◌<◌, List, [], ◌∷◌, ◌++◌, length, replicate, Option, Some, None, refl, sym, subst, ◌∙◌, inl, inr, arith, Contains, slice_get, slice_index, same_Some, Tree, IsOrderedFrom, tree_at, KeepsTrees, with_register, Known, known_word, IsInputWord, IsKnowledge, IsLess, places_after, IsMet, AreSteps, IsCarried, known_of, word_value, IsWord, IsWordOf, Word, Step, ◌⊎◌, get_or-replicate, length-replicate, same_from_bits_below, IsStep, value_from, contains_cons, contains_here, unwrap_or}
use Rattle.sf_behaviour.proofs.words.WordLemmas.{bit-of-word, word-small}
use Rattle.sf_behaviour.proofs.VariableLemmas.{past-registers, with-other, some-within}
use Rattle.sf_behaviour.proofs.KnowledgeLemmas.{in-kept, knowledge-kept}
use Rattle.sf_behaviour.proofs.steps.StepsLemmas.{at-push, leads-later, steps-kept}

-- ---- words that depend on the input alone

-- a word whose diagrams test no register depends on the input alone
pub input-word : (ts : List Tree) (ids : List ℕ) → IsWord ts ids
    → ((i : ℕ) → i < 32 → IsOrderedFrom 576 (tree_at ts (slice_index ids i))) → IsInputWord ts ids
input-word ts ids w ordered = record {
  word = w;
  same = λ r n bits there. same_from_bits_below 32 (word_value ts ids (with_register r n bits))
      (word_value ts ids bits) (word-small (with_register r n bits) w) (word-small bits w)
      (λ i l. bit-of-word (with_register r n bits) i w l
      ∙ value_from (tree_at ts (slice_index ids i)) 576 (ordered i l) (with_register r n bits) bits
      (λ v le. with-other r n v bits (past-registers r v there le)) ∙ sym (bit-of-word bits i w l));
}

-- ---- what is known behind steps is carried to the places to which they lead

-- what was carried to one place, and then to others
pub carried-more : (old mid new : List (Option Known)) (after : Known) (place : ℕ) (places : List ℕ)
    → IsCarried old mid after (place ∷ []) → IsCarried mid new after places → IsCarried old new after (place ∷ places)
carried-more old mid new after place places first rest = record {
  count = rest.count ∙ first.count;
  leads = λ q inside to. elim (contains_cons place places q to) [
    | inl e ↦ rest.stays q after (first.leads q inside (contains_here place [] q e))
    | inr more ↦ rest.leads q (omega (arith, first.count)) more
  ];
  stays = λ q k h. rest.stays q k (first.stays q k h);
  right = λ ts knows old. rest.right ts knows (first.right ts knows old);
}

-- no more is known of a place than behind each of the steps that lead to it
abbrev pub AreMet : List Step → List (Option Known) → Type 0
AreMet steps known = (p q : ℕ) (s : Step) → slice_get steps p ≡ Some s → q < length known
    → Contains (places_after p s.effect) q → IsMet (known_of known q) s.after

-- where something is known it is taken, and else the start
pub met-less : (o : Option Known) (start k : Known) → IsMet o k → IsLess (unwrap_or o start) k
met-less o start k h = grind arith

pub met-knowledge : (ts : List Tree) (o : Option Known) (start : Known) → ((k : Known) → o ≡ Some k → IsKnowledge ts k)
    → IsKnowledge ts start → IsKnowledge ts (unwrap_or o start)
met-knowledge ts (Some l) start h zero = h l refl
met-knowledge ts None start h zero = zero

-- ---- the first place

-- all registers are known to be 0
pub record AreZero (ts : List Tree) (k : Known) : Type 0 where
  pub knows : IsKnowledge ts k
  pub zero : (r : ℕ) (bits : Bits) → IsRegister r → held_in ts k bits r ≡ 0

pub zero-kept : {ts us : List Tree} {k : Known} → KeepsTrees ts us → AreZero ts k → AreZero us k
zero-kept keeps z = record {
  knows = knowledge-kept keeps z.knows;
  zero = λ r bits there. in-kept bits r keeps z.knows ∙ z.zero r bits there;
}

-- they have a word that is 0
pub zero-made : (ts : List Tree) (word : Word) → IsWordOf ts word.bits (λ bits. 0)
    → AreZero ts (replicate 18 (Some word))
zero-made ts word is = record {
  knows = record {
    count = length-replicate 18 (Some word);
    each = λ r w e.
        let there : r < 18 = omega (arith, some-within k r w e, length-replicate 18 (Some word)) in
        subst (λ (v : Word). IsInputWord ts v.bits) (same_Some word w (sym (has r there) ∙ e)) (record {
          word = is.word;
          same = λ q n bits within. is.values (with_register q n bits) ∙ sym (is.values bits);
        });
  };
  zero = λ r bits there. rw (has r there) (is.values bits);
}
  where
    k : Known
    k = replicate 18 (Some word)

    has : (r : ℕ) → r < 18 → known_word k r ≡ Some word
    has r there = get_or-replicate 18 r (Some word) None there

-- ---- one step more

pub steps-more : (ts us : List Tree) (steps : List Step) (i : ℕ) (step : Step) (start : Known) → KeepsTrees ts us
    → AreSteps ts steps → length steps ≡ i → IsStep us step
    → ((p : ℕ) (s : Step) → slice_get steps p ≡ Some s → Contains (places_after p s.effect) i
    → IsLess step.known s.after)
    → (length steps ≡ 0 → step.known ≡ start)
    → AreZero us start → AreSteps us (steps ++ step ∷ [])
steps-more ts us steps i step start keeps are count made less first nought = record {
  each = λ p s e. elim (at-push steps step s p e) [
    | inl old ↦ kept.each p s old.1
    | inr new ↦ subst (λ (t : Step). IsStep us t) new.1 made
  ];
  less = λ p q s t at there to. by p q s t to (at-push steps step s p at) (at-push steps step t q there);
  start = λ s r bits at there. elim (at-push steps step s 0 at) [
    | inl old ↦ kept.start s r bits old.1 there
    | inr new ↦ subst (λ (t : Step). held_in us t.known bits r ≡ 0) new.1
        (subst (λ (k : Known). held_in us k bits r ≡ 0) (sym (first (sym new.0))) (nought.zero r bits there))
  ];
}
  where
    kept : AreSteps us steps
    kept = steps-kept keeps are

    by : (p q : ℕ) (s t : Step) → Contains (places_after p s.effect) q
        → ((p < length steps) × (slice_get steps p ≡ Some s)) ⊎ ((p ≡ length steps) × (step ≡ s))
        → ((q < length steps) × (slice_get steps q ≡ Some t)) ⊎ ((q ≡ length steps) × (step ≡ t))
        → IsLess t.known s.after
    by p q s t to (inl old) (inl other) = kept.less p q s t old.1 other.1 to
    by p q s t to (inl old) (inr new) =
        subst (λ (u : Step). IsLess u.known s.after) new.1
        (less p s old.1 (subst (λ (n : ℕ). Contains (places_after p s.effect) n) (new.0 ∙ count) to))
    by p q s t to (inr new) (inl old) = absurd (omega (arith, leads-later p q s.effect to, new.0, old.0))
    by p q s t to (inr new) (inr also) = absurd (omega (arith, leads-later p q s.effect to, new.0, also.0))
