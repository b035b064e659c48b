-- How two answers to one input are related.
use Rattle.std.specs.Prelude.{◌≡◌, ◌≢◌, ℕ, ◌<◌}
use Rattle.sf_relations.specs.Common.{Action, Errno, Answer, action_number, reach_by, Relation, Looser, Tighter, Different, Pretended}

-- how far an action lets a call get: 2, it is carried out; 1, another process decides; 0, it is refused
abbrev pub reach_of : Action → ℕ
reach_of action = reach_by (action_number action)

-- ERRNO with data 0: the call isn't made, and its caller gets 0
abbrev pub zero_error : Answer
zero_error = record { action = Errno; info = 0 }

-- Two answers have a relation. Looser: by the second the call gets further. Tighter: by the second it gets less far.
-- Different: the answers differ, in the action or in its data. Pretended: they differ, and the second is ERRNO 0.
abbrev pub AreRelated : Relation → Answer → Answer → Type 0
AreRelated Looser before after = reach_of before.action < reach_of after.action
AreRelated Tighter before after = reach_of after.action < reach_of before.action
AreRelated Different before after = before ≢ after
AreRelated Pretended before after = (before ≢ after) × (after ≡ zero_error)
