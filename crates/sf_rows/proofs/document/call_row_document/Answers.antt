use Rattle.sf_rows.proofs.Common.{◌≡◌, [], ◌∷◌, ◌∙◌, ap, ap₂, map, rules, codes, string, view, fields, list_of, RowData, condition_document, with_answers}
use Rattle.sf_rows.proofs.document.call_row_document.Goals as goal

pub returns : goal.returns
returns c =
    let r = c.args.row.now in
    let made : view c.in_ok-fields.fields ≡ fields (
    (codes "call", string r.name)
    ∷ (codes "conditions", list_of (map condition_document r.row.conditions))
    ∷ (codes "set", string r.set) ∷ []) = search rules in
    let number : c.behind-row-2.inside.number ≡ r.row.number
    = ap (λ (x : RowData). x.number) (c.behind-row-2.view_is ∙ c.row-2.ensures) in
    c.object.ensures ∙ c.in_ok-shown.ensures ∙ ap₂ (with_answers c.args.subject) number made
