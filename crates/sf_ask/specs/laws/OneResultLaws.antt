-- What explorations of one stack that ended with nothing outstanding have in common.
use Rattle.std.proofs.Common.{◌≡◌, ℕ, List, [], length, Some, slice_get, sym, ◌∙◌, ap, subst}
use Rattle.std.proofs.lemmas.List.Sorted.{length_permutation}
use Rattle.std.proofs.lemmas.Option.{same_Some, slice_get_within, get_or_from_slice_get}
use Rattle.sf_ask.specs.Common.{IsPool, IsExecutionOne, Counts, RegionData, BookData, counts_of, Verdict, QuestionData, HaveOneOutcome, IsFringe, IsRegionOf}
use Rattle.sf_ask.specs.Judging.{HasVerdict, HasVerdictAt}
use Rattle.sf_ask.specs.OneResult.{HaveOneVerdict}

-- the pool of a region's piece is lawful
pub lawful_pool : IsExecutionOne → (s : BookData) → IsFringe s → (place : ℕ) (r : RegionData)
    → slice_get s.regions place ≡ Some r → IsPool r.piece.pool
lawful_pool tree s fringe place r there =
    let of : IsRegionOf s.stack r = subst (IsRegionOf s.stack) (get_or_from_slice_get s.regions place r r there)
    (fringe.settled place r (slice_get_within s.regions place r there)) in
    tree.pools r.piece of.0.reached

-- the region at a place has one verdict
pub one_verdict_at : IsExecutionOne → HaveOneVerdict → (s t : BookData) (q : QuestionData) → IsFringe s
    → s.regions ≡ t.regions → (place : ℕ) (v w : Verdict) → HasVerdictAt s place q v → HasVerdictAt t place q w → v ≡ w
one_verdict_at tree verdict s t q fringe same place v w a b =
    let region : a.region ≡ b.region = same_Some a.region b.region
    (sym a.there ∙ ap (λ (rs : List RegionData). slice_get rs place) same ∙ b.there) in
    verdict a.region q v w (lawful_pool tree s fringe place a.region a.there) a.verdict
    (subst (λ (r : RegionData). HasVerdict r q w) (sym region) b.verdict)

-- the counts are the same
pub same_counts : (b c : BookData) → HaveOneOutcome b c → b.outstanding ≡ [] → c.outstanding ≡ []
    → counts_of b ≡ counts_of c
same_counts b c one none none' =
    let left = ap length (none ∙ sym none') in
    let settled = ap length one.regions in
    let emptied = sym (length_permutation b.emptied c.emptied one.emptied) in
    λ j. let counts : Counts = record {
      left = left j;
      settled = settled j;
      emptied = emptied j;
      splits = one.splits j;
      commits = one.commits j;
    } in counts
