-- What the verdicts of a right sheet tell.
use Rattle.std.proofs.Common.{◌≡◌, ℕ, true, List, Option, Some, None}
use Rattle.sf_ask.specs.Common.{BookData, Verdict, Clear, Hit, Doubt, QuestionData}
use Rattle.sf_ask.specs.Sheets.{is_hit, HasHit, IsRightWhereGiven}

-- a verdict that is given and is a hit
pub hit-given : (s : BookData) (questions : List QuestionData) (place q : ℕ) (given : Option Verdict)
    → IsRightWhereGiven s questions place q given → is_hit given ≡ true → HasHit s questions place q
hit-given s questions place q None right hit = cc
hit-given s questions place q (Some Clear) right hit = cc
hit-given s questions place q (Some (Hit d)) right hit = (d, right)
hit-given s questions place q (Some Doubt) right hit = cc
