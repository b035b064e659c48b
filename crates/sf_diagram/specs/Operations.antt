-- What operations make of two numbers. Four of them take return values of filters, by seccomp(2).
use Rattle.std.specs.Prelude.{ℕ, ◌+◌, ◌*◌, ◌%◌, ◌^◌, ◌==◌, ◌||◌, nat_lt, bit_and, if◌then◌else◌}
use Rattle.sf_diagram.specs.declared.operation.Operation.{Operation}
use Rattle.sf_diagram.specs.declared.operation.Operation.TheVariants.{Fold, Looser, Tighter, Different, Pretended, Pair, NextBit}

-- the action of a return value: SECCOMP_RET_ACTION_FULL
abbrev pub action_bits : ℕ → ℕ
action_bits value = bit_and value 0xffff0000

-- Ranks order words as signed numbers: those from 2 ^ 31 on are negative, and come first.
abbrev pub rank : ℕ → ℕ
rank n = (n + 2 ^ 31) % 2 ^ 32

-- of two return values the one that counts: the older one where its action has the lower rank, else the newer one
abbrev pub folded_of : ℕ → ℕ → ℕ
folded_of newer older = if nat_lt (rank (action_bits older)) (rank (action_bits newer)) then older else newer

-- How far an action lets a call get. 2: it is carried out (SECCOMP_RET_ALLOW, SECCOMP_RET_LOG); 1: another process
-- decides (SECCOMP_RET_TRACE, SECCOMP_RET_USER_NOTIF); 0: it is refused.
abbrev pub reach_by : ℕ → ℕ
reach_by action =
    if (action == 0x7fff0000) || (action == 0x7ffc0000) then 2 else
    if (action == 0x7ff00000) || (action == 0x7fc00000) then 1 else
    0

-- 1 where the call gets further by the second return value than by the first, else 0
abbrev pub looser_of : ℕ → ℕ → ℕ
looser_of before after = if nat_lt (reach_by (action_bits before)) (reach_by (action_bits after)) then 1 else 0

-- 1 where the second return value is ERRNO with data 0 and the first is another one, else 0
abbrev pub pretended_of : ℕ → ℕ → ℕ
pretended_of before after = if before == after then 0 else if after == 0x00050000 then 1 else 0

-- 0 for two equal numbers, and else the two as one number, of which each has half of the bits
abbrev pub pair_of : ℕ → ℕ → ℕ
pair_of first second = if first == second then 0 else first % 2 ^ 32 * 2 ^ 32 + second % 2 ^ 32

-- the number that an operation makes of two
abbrev pub merged_of : Operation → ℕ → ℕ → ℕ
merged_of Fold newer older = folded_of newer older
merged_of Looser before after = looser_of before after
merged_of Tighter before after = looser_of after before
merged_of Different first second = if first == second then 0 else 1
merged_of Pretended before after = pretended_of before after
merged_of Pair first second = pair_of first second
merged_of NextBit first second = (2 * first + second) % 2 ^ 64
