-- A thief that joins its owner keeps the rule of the bench.
use Rattle.sf_crew.proofs.Common.{nat_tests, ◌≡◌, ◌≢◌, ℕ, ◌<◌, List, [], ◌∷◌, ◌++◌, length, set, ◌==◌, if◌then◌else◌, sym, refl, ap, ◌∙◌, subst, ⊎_elim, length-set, arith, some, get_elem?, All, All-append, All-nil, at_set, at_lt, Merges, Event, End, HandleView, handle_view, FitsEnd, view_of_both, Sits, BenchKept, spent_view}
use Rattle.sf_crew.proofs.Histories.{AllByHandlesBelow, IsMaker, not_here}
use Rattle.sf_crew.proofs.Totals.{set_each}

-- what lay at the place `from` lies at `to` now
abbrev rehomed : (ℕ → ℕ) → ℕ → ℕ → ℕ → ℕ
rehomed home from to i = if home i == from then to else home i

module _ {T : Type 0} where
  -- an end that lay elsewhere stays where it was
  at_same : (home : ℕ → ℕ) (from to port : ℕ) (es : List (End T)) → port ≢ from
      → All (λ (e : End T). home e.number ≡ port) es → All (λ (e : End T). rehomed home from to e.number ≡ port) es
  at_same home from to port es other at = λ k d there. let is = at k d there in grind (arith, nat_tests)

  -- the view of both has the ends of both, its own first
  both_sit : (home : ℕ → ℕ) (port other : ℕ) (h : List (Event T)) (n m : ℕ) (es fs : List (End T)) → 0 < length es
      → other ≢ port → Sits h home port (handle_view n es) → Sits h home other (handle_view m fs)
      → Sits h (rehomed home other port) port (handle_view n (es ++ fs))
  both_sit home port other h n m [] fs live ne a b = absurd (omega arith)
  both_sit home port other h n m (e ∷ es) fs live ne a b = record {
    fits = All-append (FitsEnd h) (e ∷ es) fs a.fits b.fits;
    at = All-append (λ (o : End T). rehomed home other port o.number ≡ port) (e ∷ es) fs
        (at_same home other port port (e ∷ es) (λ is. ne (sym is)) a.at)
        (λ k d there. let is = b.at k d there in grind (arith, nat_tests));
    own = (
      a.own.0,
      All-append (λ (o : End T). o.number ≢ port) es fs a.own.1
          (not_here home port other fs (ap home (sym a.own.0) ∙ a.at 0 e (omega arith)) ne b.at),
    );
  }

  pub merges : (port : ℕ) (v : HandleView T) (other : ℕ) (w : HandleView T) → 0 < length v.ends
      → Merges BenchKept port v other w (view_of_both v w) spent_view
  merges port v other w live items views k at ne there =
      let b : HandleView T = view_of_both v w in let vs : List (HandleView T) = set views port b in
      let long : length (set vs other spent_view) ≡ length views =
      length-set vs other spent_view ∙ length-set views port b in
      let homes : ℕ → ℕ = rehomed k.home other port in
      let others : get_elem? views other ≡ some w = ⊎_elim (λ (x : (other ≡ port) × (b ≡ w)). absurd (ne x.0))
      (λ (x : (other ≢ port) × (get_elem? views other ≡ some w)). x.1) (at_set views port other b w there) in
      let there_below : other < length views = at_lt views other w others in
      record {
        history = k.history;
        home = homes;
        lawful = k.lawful;
        left = k.left;
        ports = subst (λ n. AllByHandlesBelow n k.history) (sym long) k.ports;
        fresh = λ i le. let is : k.home i ≡ i = k.fresh i (omega arith) in grind (arith, nat_tests);
        each = set_each (Sits k.history homes) vs other spent_view
            (record {
              fits = All-nil (FitsEnd k.history);
              at = All-nil (λ (e : End T). homes e.number ≡ other);
              own = tt;
            })
            (λ j u apart here. set_each (λ i y. i ≢ other → Sits k.history homes i y) views port b
            (λ _. both_sit k.home port other k.history v.made w.made v.ends w.ends live ne (k.each port v at)
            (k.each other w others)) (λ i y _ lies elsewhere. let s = k.each i y lies in record {
              fits = s.fits;
              at = at_same k.home other port i y.ends elsewhere s.at;
              own = s.own;
            }) j u here apart);
        all_made = set_each (IsMaker (length (set vs other spent_view))) vs other spent_view
            (λ some_made. absurd (let none : (spent_view {T = T}).made ≡ 0 = refl in omega arith))
            (λ j u _ here. subst (λ n. IsMaker n j u) (sym long) (set_each (IsMaker (length views)) views port b
            (k.all_made port v at) (λ i y _ lies. k.all_made i y lies) j u here));
      }
