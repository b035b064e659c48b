-- The lines of regions, added one after the other.
use Rattle.sf_audit.proofs.Common.{◌≡◌, ℕ, ◌+◌, ◌<◌, List, ◌++◌, append_assoc, ◌∙◌, drop, slice_get, Some, length, drop_more, get_or_from_slice_get, slice_get_within, RegionData, region_line, region_lines}

-- One more region was added.
pub one_more_region : (whole before after : List ℕ) (rs : List RegionData) (i : ℕ) (r : RegionData)
    → slice_get rs i ≡ Some r → after ≡ before ++ region_line (i + 1) r
    → before ++ region_lines (i + 1) (drop i rs) ≡ whole
    → after ++ region_lines (i + 1 + 1) (drop (i + 1) rs) ≡ whole
one_more_region whole before after rs i r at added so_far =
    let within : i < length rs = slice_get_within rs i r at in
    let here = get_or_from_slice_get rs i r r at in
    let opened = rw (drop_more rs i r within, here) at so_far in
    rw added (append_assoc before (region_line (i + 1) r) (region_lines (i + 1 + 1) (drop (i + 1) rs)) ∙ opened)
