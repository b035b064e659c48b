-- What the rules promise, said of the rules alone: a region has one verdict, and a question one reply.
use Rattle.std.specs.Prelude.{◌≡◌, []}
use Rattle.sf_ask.specs.Common.{IsPool, RegionData, BookData, IsSettled, IsFringe, Verdict, Reply, QuestionData}
use Rattle.sf_ask.specs.Judging.{HasVerdict, HasReply}

-- a region has one verdict on each question
abbrev pub HaveOneVerdict : Type 0
HaveOneVerdict = (r : RegionData) (q : QuestionData) (v w : Verdict) → IsPool r.piece.pool → HasVerdict r q v
    → HasVerdict r q w → v ≡ w

-- An exploration that ended with nothing outstanding: it is the fringe of the whole execution tree of its stack.
pub record IsWholeFringe (s : BookData) : Type 0 where
  pub settled : IsSettled s
  pub fringe : IsFringe s
  pub none_left : s.outstanding ≡ []

-- two explorations of one stack that both ended with nothing outstanding have the same reply to each question
abbrev pub HaveOneReply : Type 0
HaveOneReply = (s t : BookData) (q : QuestionData) (x y : Reply) → IsWholeFringe s → IsWholeFringe t
    → s.stack ≡ t.stack → HasReply s q x → HasReply t q y → x ≡ y
