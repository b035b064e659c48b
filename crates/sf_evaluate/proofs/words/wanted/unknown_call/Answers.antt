use Rattle.sf_evaluate.proofs.Common.{◌∙◌, ap, not, is_known_call, list_all-map, Bor, Text, sym}
use Rattle.sf_evaluate.proofs.words.WordLemmas.{none_fails}
use Rattle.sf_evaluate.proofs.words.asking.AskingLemmas.{read_some}
use Rattle.sf_evaluate.proofs.words.wanted.unknown_call.Goals as goal

pub returns-in-Some : goal.returns-in-Some
returns-in-Some c =
    let names = c.deref.result.now in
    rw c.in-Some.is (rw c.deref.ensures.value at (
    ap not (c.map.ensures.variant ∙ read_some (λ (t : Bor (Bor Text)). t.now) c.unknown_among.result _
    c.unknown_among.ensures)
    ∙ none_fails (λ (t : Bor Text). is_known_call c.args.sets.now t.now) names
    ∙ sym (list_all-map (is_known_call c.args.sets.now) (λ (t : Bor Text). t.now) names)))
