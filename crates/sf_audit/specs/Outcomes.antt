-- What an audit found.
use Rattle.std.specs.Prelude.{◌≡◌, List, length}
use Rattle.sf_audit.specs.Common.{BookData, QuestionData, Reply}

-- how the exploration ended, the questions, and a reply to each
pub record Found : Type 0 where
  pub settled : BookData
  pub questions : List QuestionData
  pub replies : List Reply

-- each question has a reply
pub record IsAnswered (o : Found) : Type 0 where
  pub each : length o.questions ≡ length o.replies
