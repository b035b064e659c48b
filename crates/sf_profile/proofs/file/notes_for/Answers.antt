use Rattle.sf_profile.proofs.Common.{◌≡◌, ◌/◌, ◌∙◌, ap, length, form, notes_text, plan_of}
use Rattle.sf_profile.proofs.MadeLemmas.{counted}
use Rattle.sf_profile.proofs.file.notes_for.Goals as goal

pub returns-clause-notes : goal.returns-clause-notes
returns-clause-notes c =
    let s = c.args.settings.now in
    let profile = c.args.profile.now in
    let made = c.in_ok-filter.ensures.made in
    let size : c.len.result / 8 ≡ length (form (plan_of s profile)) =
    ap (λ n. n / 8) (c.len.ensures ∙ c.in_ok-filter.filter.ok.0)
    ∙ counted (plan_of s profile) c.in_ok-filter.filter.items made.is_form in
    record {
      short = made.short;
      text = c.in_ok-text.ensures ∙ ap (notes_text s profile) size;
    }
