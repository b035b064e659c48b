-- Exit statuses of the program.
use Rattle.std.specs.Prelude.{ℕ, List, Option, Some, None, nat_lt, not, count_by, if◌then◌else◌}
use Rattle.sf_command.specs.Common.{ExpectedData, does_hold, has_unexpected, Found, is_unsettled, is_spare, Example}

-- The status of an audit: 2 where the control doesn't hold; else 1 where some question is allowed whose name isn't an
-- accepted one; else 2 where some question is unsettled; else 0.
abbrev pub audit_status : ExpectedData → Found → ℕ
audit_status expected found =
    if not (does_hold expected.held) then 2 else
    if has_unexpected expected.accepted found.questions found.replies then 1 else
    if nat_lt 0 (count_by is_unsettled found.replies) then 2 else
    0

-- the status of what was found of a relation: 0 where no input has it, 1 where one has
abbrev pub finding_status : Option Example → ℕ
finding_status None = 0
finding_status (Some example) = 1

-- the status of what is found of filters: 1 where some is spare, 0 where all are needed
abbrev pub needs_status : List (Option Example) → ℕ
needs_status findings = if nat_lt 0 (count_by is_spare findings) then 1 else 0
