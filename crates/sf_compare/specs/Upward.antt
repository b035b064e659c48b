-- Sets of actions of which a comparison says something.
use Rattle.std.specs.Prelude.{◌≡◌, ℕ, ◌≤◌, true}
use Rattle.sf_diagram.specs.Operations.{reach_by}
use Rattle.sf_run.specs.Answers.{action_of}
use Rattle.sf_question.specs.declared.actions.ActionSet.{ActionSet}
use Rattle.sf_question.specs.Actions.{has_action}

-- With each of its actions, the set has all actions that let a call get as far or further. Actions go by their numbers
-- here.
abbrev pub IsUpward : ActionSet → Type 0
IsUpward set =
    (number other : ℕ) → has_action set (action_of number) ≡ true → reach_by number ≤ reach_by other
    → has_action set (action_of other) ≡ true
