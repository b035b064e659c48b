-- What a search for a member of a piece finds by the rules, where no question is asked.
use Rattle.std.specs.Prelude.{◌≡◌, Bool, true, false, Option, Some, None}
use Rattle.sf_ask.specs.Common.{Input, PieceData, is_member}
use Rattle.sf_ask.specs.Trying.{IsLeastInput}

-- the least input that the piece's facts leave is d, and `found` says whether d is a member
pub record IsLeastTried (p : PieceData) (d : Input) (found : Bool) : Type 0 where
  pub least : IsLeastInput p.facts d
  pub member : is_member p d ≡ found

-- the least input is found where it is a member; else nothing is found
abbrev pub FindsMember : PieceData → Option Input → Type 0
FindsMember p None = (d : Input) × IsLeastTried p d false
FindsMember p (Some d) = IsLeastTried p d true
