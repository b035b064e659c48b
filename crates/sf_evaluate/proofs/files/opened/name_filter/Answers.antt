use Rattle.sf_evaluate.proofs.Common.{arith, ◌≡◌, ◌∙◌, ◌-◌, List, ℕ, Bor, ap, refl, get_or_from_slice_get, slice_get_within}
use Rattle.sf_evaluate.proofs.files.opened.name_filter.Goals as goal

pub returns-in_ok-path-in-Some : goal.returns-in_ok-path-in-Some
returns-in_ok-path-in-Some c = record {
  none = λ zero. absurd (omega (arith, zero));
  one = λ place path is at.
      let here : c.args.number - 1 ≡ place = omega (arith, is) in
      let same : c.in-Some.path.now ≡ path = (rw here at c.in-Some.ensures.lookup.1)
      ∙ get_or_from_slice_get c.args.paths.now place path c.in-Some.path.now at in
      (_, refl, refl, c.in_ok-path-in-Some.ensures.ok ∙ ap (λ (p : Bor (List ℕ)). p.now) same);
}

pub returns-in-None : goal.returns-in-None
returns-in-None c = record {
  none = λ zero. refl;
  one = λ place path is at.
      absurd (omega (arith, is, slice_get_within c.args.paths.now place path at, c.in-None.ensures.lookup.3));
}
