-- The documents of regions, added one after the other.
use Rattle.sf_audit.proofs.Common.{◌≡◌, ℕ, ◌+◌, ◌<◌, List, [], ◌∷◌, ◌++◌, append_assoc, ◌∙◌, drop, map, slice_get, Some, length, drop_more, map-append, get_or_from_slice_get, slice_get_within, Data, view, Value, RegionData, region_document, region_documents}

-- one more region was added
pub one_more_region : (whole : List Data) (before after : List Value) (v : Value) (rs : List RegionData) (i : ℕ)
    (r : RegionData) → slice_get rs i ≡ Some r → after ≡ before ++ v ∷ [] → view v ≡ region_document (i + 1) r
    → map view before ++ region_documents (i + 1) (drop i rs) ≡ whole
    → map view after ++ region_documents (i + 1 + 1) (drop (i + 1) rs) ≡ whole
one_more_region whole before after v rs i r at added told so_far =
    let within : i < length rs = slice_get_within rs i r at in
    let here = get_or_from_slice_get rs i r r at in
    let opened = rw (drop_more rs i r within, here) at so_far in
    rw (added, map-append view before (v ∷ []), told)
    (append_assoc (map view before) (region_document (i + 1) r ∷ [])
    (region_documents (i + 1 + 1) (drop (i + 1) rs)) ∙ opened)
