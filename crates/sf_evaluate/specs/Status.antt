-- Exit statuses of faults.
use Rattle.std.specs.Prelude.{ℕ, ◌==◌, nat_lt, if◌then◌else◌}

-- The status of a fault by its number: 2 where there would be too many nodes or rows of decision diagrams, which has
-- the number 32; 3 where what was given is refused; 5 where reading, writing or memory fails.
abbrev pub fault_status : ℕ → ℕ
fault_status number =
    if number == 32 then 2 else
    if nat_lt number 50 then 3 else
    5
