use Rattle.sf_profile.proofs.Common.{◌≡◌, ◌∙◌, [], ◌∷◌, ◌++◌, List, ap, map, sym, view, CallSet, text_in}
use Rattle.sf_profile.proofs.read.ReadLemmas.{refused_sets}
use Rattle.sf_profile.proofs.read.read_sets.Goals as goal

pub returns-in-Err-clause-refused : goal.returns-in-Err-clause-refused
returns-in-Err-clause-refused c =
    let s = c.args.settings.now in
    let own : c.push.new.self.items ≡ s.machine ∷ [] =
    c.in_ok-push.ensures.items ∙ ap (λ (sets : List CallSet). sets ++ s.machine ∷ []) c.new-sets.ensures.items in
    rw c.at_key.ensures
    (refused_sets s (view c.args.value.now) c.in-Err.fault c.push.new.self.items
    (map text_in (map view c.items_at.result.now)) c.in-Err.ensures.refused own (ap (map text_in) c.items_at.ensures)
    (sym c.has_calls.ensures ∙ c.if-not-has_calls.false))
