-- Steps, the places to which they lead, and the diagrams of the last places.
use Rattle.sf_behaviour.proofs.Common.{◌≡◌, ℕ, zero, suc, ◌+◌, ◌<◌, List, [], ◌∷◌, ◌++◌, length, Some, refl, sym, ap, subst, ◌∙◌, arith, Contains, slice_get, slice_index, slice_set, length-map, length-set, same_Some, Insn, IsLawfulProgram, Tree, KeepsTrees, insns_of, AreSteps, Tells, TellFrom, return_of, input_by, IsDiagramOf, places_after, IsEffectOf, Known, IsKnowledge, Step, Effect, Sets, ◌⊎◌, slice_get-get_or, slice_get_within, get_or_from_slice_get, contains_cons, contains_nil, IsAt, IsStep, IsAfter, effect_progress, successors, below_in, successors_inside, IsNext, IsPlace, common_steps}
use Rattle.sf_behaviour.proofs.words.WordLemmas.{set-each, word-of-kept, word-of-same}
use Rattle.sf_behaviour.proofs.KnowledgeLemmas.{in-kept, input-word-kept, knowledge-kept, set-knowledge, source-kept}
use Rattle.sf_behaviour.proofs.TellLemmas.{tells-kept, tells-program, Follows, tells-step}

-- an element of a list with one more at its end
pub at-push : {B : Type 0} (xs : List B) (x y : B) (i : ℕ) → slice_get (xs ++ x ∷ []) i ≡ Some y
    → ((i < length xs) × (slice_get xs i ≡ Some y)) ⊎ ((i ≡ length xs) × (x ≡ y))
at-push xs x y i e =
    let within = slice_get_within (xs ++ x ∷ []) i y e in
    let here = get_or_from_slice_get (xs ++ x ∷ []) i y x e in
    grind (arith, common_steps, slice_get-get_or xs i x, within, here)

-- ---- places to which steps lead

-- a step leads to later places
pub leads-later : (at q : ℕ) (e : Effect) → Contains (places_after at e) q → at < q
leads-later at q e c = grind (arith, contains_cons, contains_nil)

-- ---- steps

-- the instruction of a step stands at its place
pub step-at : (steps : List Step) (place : ℕ) (step : Step) → slice_get steps place ≡ Some step
    → IsAt (insns_of steps) place step.insn
step-at [] place step e = absurd cc
step-at (s ∷ steps) zero step e = cc
step-at (s ∷ steps) (suc place) step e = step-at steps place step e

-- what is known behind a step that sets no register, and behind one that does
pub after-same : {ts : List Tree} {step : Step} {e : Effect} → IsStep ts step → step.effect ≡ e
    → IsAfter ts step.known e step.after
after-same h is = rw is at h.after

pub effect-is : {ts : List Tree} {step : Step} {e : Effect} → IsStep ts step → step.effect ≡ e → IsEffectOf step.insn e
effect-is h is = rw is at h.effect

pub after-knowledge : {ts : List Tree} {step : Step} → IsStep ts step → IsKnowledge ts step.after
after-knowledge {ts} {step} h = by step.effect refl
  where
    by : (e : Effect) → step.effect ≡ e → IsKnowledge ts step.after
    by (Sets r source) is =
        let set = after-same h is in
        rw set.is (set-knowledge ts step.known r set.word (effect-is h is).there.0 h.known (λ w e. (set.fixed w e).0))
    by e is = rw (after-same h is) h.known

after-kept : (ts us : List Tree) (k l : Known) (e : Effect) → KeepsTrees ts us → IsKnowledge ts k → IsAfter ts k e l
    → IsAfter us k e l
after-kept ts us k l (Sets r source) keeps knows h = record {
  word = h.word;
  is = h.is;
  fixed = λ w e. (
    input-word-kept keeps (h.fixed w e).0,
    word-of-same (word-of-kept keeps (h.fixed w e).1) (λ bits. sym (source-kept bits source keeps knows)),
  );
}
after-kept ts us k l e keeps knows h = h

pub step-kept : {ts us : List Tree} {step : Step} → KeepsTrees ts us → IsStep ts step → IsStep us step
step-kept {ts} {us} {step} keeps h = record {
  effect = h.effect;
  known = knowledge-kept keeps h.known;
  after = after-kept ts us step.known step.after step.effect keeps h.known h.after;
}

pub steps-kept : {ts us : List Tree} {steps : List Step} → KeepsTrees ts us → AreSteps ts steps → AreSteps us steps
steps-kept keeps h = record {
  each = λ place step at. step-kept keeps (h.each place step at);
  less = h.less;
  start = λ step r bits at there. in-kept bits r keeps (h.each 0 step at).known ∙ h.start step r bits at there;
}

-- ---- the diagrams of places

pub from-kept : {ts us : List Tree} {steps : List Step} {ids : List ℕ} {first : ℕ} → KeepsTrees ts us
    → AreSteps ts steps → TellFrom ts steps ids first → TellFrom us steps ids first
from-kept keeps are h = record {
  count = h.count;
  each = λ place step low there. tells-kept keeps
      (are.each place step there).known (h.each place step low there);
}

-- one place more; first is place + 1
pub from-more : (ts us : List Tree) (steps : List Step) (ids : List ℕ) (first place id : ℕ) (now : Step)
    → first ≡ place + 1 → KeepsTrees ts us → AreSteps ts steps → TellFrom ts steps ids first
    → slice_get steps place ≡ Some now → Tells (insns_of steps) place us now.known id
    → TellFrom us steps (slice_set ids place id) place
from-more ts us steps ids first place id now e keeps are h here new = record {
  count = length-set ids place id ∙ h.count;
  each = λ q step low there. set-each
      (λ (p x : ℕ). (s : Step) → slice_get steps p ≡ Some s → Tells (insns_of steps) p us s.known x) 0 ids place id q
      (omega (arith, h.count, slice_get_within steps place now here))
      (λ s at. subst (λ (t : Step). Tells (insns_of steps) place us t.known id) (same_Some now s (sym here ∙ at)) new)
      (λ ne s at. (from-kept keeps are h).each q s (omega arith) at) step there;
}

pub steps-some : (steps : List Step) (program : List Insn) → insns_of steps ≡ program → 0 < length program
    → 0 < length steps
steps-some steps program code some = omega (arith, ap length code, length-map steps (λ (s : Step). s.insn))

-- the diagram of the first place
pub first-tells : {ts : List Tree} (steps : List Step) {ids : List ℕ} (first : ℕ) {id : ℕ} → first ≡ 0
    → 0 < length steps → TellFrom ts steps ids first → id ≡ slice_index ids 0
    → (s : Step) × (slice_get steps 0 ≡ Some s) × Tells (insns_of steps) 0 ts s.known id
first-tells [] first e some h is = absurd (omega arith)
first-tells (s ∷ steps) first e some h is = (s, refl, rw is (h.each 0 s (omega arith) refl))

-- it has the number that the program returns
pub program-diagram : (program : List Insn) (ts : List Tree) (steps : List Step) (ids : List ℕ) (first id : ℕ)
    → first ≡ 0 → insns_of steps ≡ program → IsLawfulProgram program → AreSteps ts steps → TellFrom ts steps ids first
    → id ≡ slice_index ids 0 → IsDiagramOf ts id (λ bits. return_of program (input_by bits))
program-diagram program ts steps ids first id e code lawful are h is =
    let t = first-tells steps first e (steps-some steps program code lawful.some) h is in
    subst (λ (c : List Insn). IsDiagramOf ts id (λ bits. return_of c (input_by bits))) code (tells-program
    (subst (λ (c : List Insn). IsLawfulProgram c) (sym code) lawful) t.2
    (λ r bits there. are.start t.0 r bits t.1 there))

pub this-step : {ts : List Tree} {steps : List Step} {ids : List ℕ} {place : ℕ} {step : Step}
    → IsPlace ts steps ids place step → IsStep ts step
this-step {place} {step} h = h.are.each place step h.at

pub place-kept : {ts us : List Tree} {steps : List Step} {ids : List ℕ} {place : ℕ} {step : Step} → KeepsTrees ts us
    → IsPlace ts steps ids place step → IsPlace us steps ids place step
place-kept keeps h = record {
  lawful = h.lawful;
  are = steps-kept keeps h.are;
  inside = h.inside;
  at = h.at;
  behind = from-kept keeps h.are h.behind;
}

pub place-step : {ts us : List Tree} {steps : List Step} {ids : List ℕ} {place : ℕ} {step : Step} {e : Effect} {id : ℕ}
    → IsPlace ts steps ids place step → step.effect ≡ e
    → Follows (insns_of steps) place (λ d s. effect_progress d s e) us step.known id
    → Tells (insns_of steps) place us step.known id
place-step {steps} {place} {step} h is =
    tells-step (step-at steps place step h.at) (effect-is (this-step h) is)

-- a place to which the step of a place leads is there
pub next-inside : {ts : List Tree} {steps : List Step} {ids : List ℕ} {step : Step} {next : ℕ}
    → IsNext ts steps ids step next → next < length steps
next-inside {steps} {step} {next} h =
    let at = step-at steps h.place step h.is.at in
    let inside : next < length (insns_of steps)
    = below_in (length (insns_of steps)) (successors h.place step.insn) next
    (successors_inside (insns_of steps) h.place step.insn at (h.is.lawful.inside h.place step.insn at) h.is.lawful.ends)
    (subst (λ (ps : List ℕ). Contains ps next) (sym ((h.is.are.each h.place step h.is.at).effect.leads h.place))
    h.leads) in
    subst (λ (n : ℕ). next < n) (length-map steps (λ (s : Step). s.insn)) inside

-- the diagram of such a place
pub next-tells : {ts : List Tree} {steps : List Step} {ids : List ℕ} {step there : Step} {next id : ℕ}
    → IsNext ts steps ids step next → slice_get steps next ≡ Some there → id ≡ slice_index ids next
    → Tells (insns_of steps) next ts there.known id
next-tells {step} {there} {next} h at is =
    rw is (h.is.behind.each next there (omega (arith, leads-later h.place next step.effect h.leads)) at)

pub same-tells : {code : List Insn} {place : ℕ} {ts : List Tree} {k l : Known} {id : ℕ} → l ≡ k
    → Tells code place ts l id → Tells code place ts k id
same-tells same t = rw same at t
