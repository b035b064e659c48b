use Rattle.sf_rows.proofs.Common.{◌≡◌, [], ◌∷◌, ◌∙◌, ap, ap₂, map, rules, codes, string, view, fields, list_of, RowData, row_names, condition_document, with_answers}
use Rattle.sf_rows.proofs.document.row_document.Goals as goal

pub returns : goal.returns
returns c =
    let row = c.args.row.now in
    let made : view c.in_ok-fields.fields ≡ fields (
    (codes "calls", list_of (map string (row_names c.args.sets.now row.conditions)))
    ∷ (codes "conditions", list_of (map condition_document row.conditions)) ∷ []) = search rules in
    let number : c.row.inside.number ≡ row.number = ap (λ (r : RowData). r.number) c.row.view_is in
    c.object.ensures ∙ c.in_ok-shown.ensures ∙ ap₂ (with_answers c.args.subject) number made
