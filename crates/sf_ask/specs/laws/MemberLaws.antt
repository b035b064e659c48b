-- Where nothing is outstanding, each input is a member of some region.
use Rattle.std.proofs.Common.{◌≡◌, ℕ, zero, suc, ◌<◌, List, [], ◌∷◌, ◌++◌, map, length, Some, slice_get, sym, refl, ap, ◌∙◌}
use Rattle.std.proofs.lemmas.Option.{slice_get_within}
use Rattle.sf_ask.specs.Common.{Input, IsInput, PieceData, is_member, OutstandingData, RegionData, BookData, IsSettled, parts_of, LiesInOne}
use Rattle.sf_book.specs.laws.PartitionLaws.{lies_in_one}
use Rattle.sf_ask.specs.Verdicts.{IsMemberAt}

-- what stands at a place of the pieces of all regions is a region's piece
region_there : (rs : List RegionData) (place : ℕ) (p : PieceData)
    → slice_get (map (λ (r : RegionData). r.piece) rs) place ≡ Some p → (region : RegionData)
    × (slice_get rs place ≡ Some region) × (region.piece ≡ p)
region_there [] zero p e = absurd (cc)
region_there [] (suc n) p e = absurd (cc)
region_there (r ∷ rs) zero p e = (r, refl, cc)
region_there (r ∷ rs) (suc n) p e = region_there rs n p e

-- where nothing is outstanding, each input is a member of some region
pub in_some_region : (s : BookData) → IsSettled s → s.outstanding ≡ [] → (d : Input) → IsInput d → (r : ℕ)
    × (r < length s.regions) × IsMemberAt s r d
in_some_region s h none d input =
    let one : LiesInOne (parts_of s) d = lies_in_one s h.lawful d input in
    let rs : List PieceData = map (λ (r : RegionData). r.piece) s.regions in
    let same : parts_of s ≡ rs = ap (λ (es : List OutstandingData).
    map (λ (e : OutstandingData). e.piece) es ++ rs) none in
    let there = region_there s.regions one.place one.piece
    (ap (λ (ps : List PieceData). slice_get ps one.place) (sym same) ∙ one.there) in (
      one.place,
      slice_get_within s.regions one.place there.0 there.1,
      record {
        region = there.0;
        there = there.1;
        input = input;
        member = ap (λ (p : PieceData). is_member p d) there.2 ∙ one.member;
      },
    )
