use Rattle.sf_behaviour.proofs.Common.{◌+◌, [], ◌∷◌, arith, keeps_both, keeps_more, set_progress, source_number, contains_here, contains_there, refl}
use Rattle.sf_behaviour.proofs.words.WordLemmas.{number-small}
use Rattle.sf_behaviour.proofs.KnowledgeLemmas.{knowledge-kept}
use Rattle.sf_behaviour.proofs.steps.StepsLemmas.{place-kept, place-step, same-tells, this-step, after-knowledge, after-same, effect-is, step-kept}
use Rattle.sf_behaviour.proofs.TellLemmas.{chosen-diagram, follows-guard, follows-return, follows-set, follows-skip, follows-test, tells-kept}
use Rattle.sf_behaviour.proofs.places.diagram_of_place.Goals as goal

-- ---- a register is set

pub source_word-requires-clause-known : goal.source_word-requires-clause-known
source_word-requires-clause-known c =
    knowledge-kept c.in_ok-next-in-Sets.ensures.store.0.trees (this-step c.requires).known

pub replace-requires-clause-within : goal.replace-requires-clause-within
replace-requires-clause-within c =
    omega (arith, c.in_ok-next-in-Sets.ensures.tells.within, c.in_ok-by-in-Sets.ensures.store.0.trees.longer)

pub guarded_diagram-requires-clause-known : goal.guarded_diagram-requires-clause-known
guarded_diagram-requires-clause-known c =
    knowledge-kept (keeps_both c.in_ok-next-in-Sets.ensures.store.0.trees
    (keeps_both c.in_ok-by-in-Sets.ensures.store.0.trees c.in_ok-set-in-Sets.ensures.store.0.trees))
    (this-step c.requires).known

pub returns-in_ok-guarded_diagram-in-Sets-clause-tells : goal.returns-in_ok-guarded_diagram-in-Sets-clause-tells
returns-in_ok-guarded_diagram-in-Sets-clause-tells c =
    let kept = place-kept c.in_ok-next-in-Sets.ensures.store.0.trees c.requires in
    let is_step = this-step kept in
    let by = c.in_ok-by-in-Sets.ensures in
    let set = c.in_ok-set-in-Sets.ensures in
    let keeps = keeps_both by.store.0.trees set.store.0.trees in
    let guarded = c.in_ok-guarded_diagram-in-Sets.ensures in
    let source = c.in-Sets.source in
    place-step kept c.in-Sets.is (follows-guard _ _ source
    (λ d s. set_progress s c.in-Sets.register (source_number d s source)) guarded.store.0.trees
    (knowledge-kept keeps is_step.known) (follows-set _ c.args.place c.in-Sets.register source
    (effect-is is_step c.in-Sets.is).there.0 is_step.known keeps (after-same is_step c.in-Sets.is)
    c.in_ok-next-in-Sets.ensures.tells (λ bits. number-small bits by.word) (set.replaced _ by.word)) guarded.values)

-- ---- instructions are skipped

pub returns-in_ok-diagram_behind-in-Skips-clause-tells : goal.returns-in_ok-diagram_behind-in-Skips-clause-tells
returns-in_ok-diagram_behind-in-Skips-clause-tells c =
    place-step c.requires c.in-Skips.is (follows-skip c.args.place c.in-Skips.k
    (same-tells (after-same (this-step c.requires) c.in-Skips.is) c.in_ok-diagram_behind-in-Skips.ensures.tells))

-- ---- A is tested

pub diagram_behind-requires-in-Tests-2 : goal.diagram_behind-requires-in-Tests-2
diagram_behind-requires-in-Tests-2 c =
    let hit = c.args.place + 1 + c.in-Tests.on_true in
    let miss = c.args.place + 1 + c.in-Tests.on_false in
    record {
      place = c.args.place;
      is = place-kept c.in_ok-taken-in-Tests.ensures.store.0.trees c.requires;
      leads = rw c.in-Tests.is (contains_there hit (miss ∷ []) miss (contains_here miss [] miss refl));
    }

pub test_diagram-requires-clause-known : goal.test_diagram-requires-clause-known
test_diagram-requires-clause-known c =
    let kept = keeps_more _ _ _ c.in_ok-taken-in-Tests.ensures.store.0 c.in_ok-other-in-Tests.ensures.store.0 in
    knowledge-kept kept.trees (this-step c.requires).known

pub choose-requires-clause-taken : goal.choose-requires-clause-taken
choose-requires-clause-taken c = grind arith

pub returns-in_ok-tested-in-Tests-clause-tells : goal.returns-in_ok-tested-in-Tests-clause-tells
returns-in_ok-tested-in-Tests-clause-tells c =
    let first = c.in_ok-taken-in-Tests.ensures in
    let second = c.in_ok-other-in-Tests.ensures in
    let passed = c.in_ok-passed-in-Tests.ensures in
    let last = c.in_ok-tested-in-Tests.ensures in
    let both = (keeps_more _ _ _ first.store.0 second.store.0).trees in
    let is_step = this-step c.requires in
    let same = after-same is_step c.in-Tests.is in
    place-step c.requires c.in-Tests.is
    (follows-test _ c.args.place c.in-Tests.test c.in-Tests.operand c.in-Tests.on_true c.in-Tests.on_false
    (keeps_more _ _ _ passed.store.0 last.keeps).trees (knowledge-kept both is_step.known)
    (same-tells same (tells-kept second.store.0.trees
    (after-knowledge (step-kept first.store.0.trees is_step)) first.tells)) (same-tells same second.tells)
    (chosen-diagram _ _ _ _ _ c.in_ok-taken-in-Tests.taken _ _ passed.store.0.trees
    (omega (arith, first.tells.within, second.store.0.trees.longer)) second.tells.within passed.truth last.within
    last.chosen))

-- ---- a number is returned

pub returns-in_ok-source_diagram-in-Returns-clause-tells : goal.returns-in_ok-source_diagram-in-Returns-clause-tells
returns-in_ok-source_diagram-in-Returns-clause-tells c =
    let e = c.in_ok-source_diagram-in-Returns.ensures in
    place-step c.requires c.in-Returns.is
    (follows-return _ _ c.in-Returns.source e.store.0.trees (this-step c.requires).known e.values e.small)
