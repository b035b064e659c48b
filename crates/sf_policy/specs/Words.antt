-- What the value of a word says: which numbers the word has in a question.
use Rattle.std.specs.Prelude.{ℕ, ℤ, pos, negsuc, ◌-◌, ◌^◌, Bool, false, ◌&&◌, codes, Option, Some, None, nat_lt, nat_le, if◌then◌else◌}
use Rattle.sf_policy.specs.Common.{Data, integer, array, table, Items, no_items, item, Members, get_member, as_integer, is_inside_mask, Version, One, Two, WordEntry}
use Rattle.sf_policy.specs.Keys.{mask_keys, has_only}
use Rattle.sf_policy.specs.Trees.{number_at, number_or}

-- the greatest number of 32 bits
abbrev pub most : ℤ
most = pos (2 ^ 32 - 1)

-- only a range: no bit is under a mask
abbrev pub only_between : ℤ → ℤ → WordEntry
only_between low high = record { low = low; high = high; mask = pos 0; value = pos 0 }

-- what an absent word says
abbrev pub any_number : WordEntry
any_number = only_between (pos 0) most

-- the range of two ends, where both are whole numbers
abbrev pub entry_between : Option ℤ → Option ℤ → Option WordEntry
entry_between (Some low) (Some high) = Some (only_between low high)
entry_between _ _ = None

-- an array of exactly two whole numbers
abbrev pub entry_of_array : Items → Option WordEntry
entry_of_array (item low (item high no_items)) = entry_between (as_integer low) (as_integer high)
entry_of_array _ = None

-- a mask, a value and a range, where all four numbers could be read
abbrev pub word_entry_of_parts : Option ℤ → Option ℤ → Option ℤ → Option ℤ → Option WordEntry
word_entry_of_parts (Some mask) (Some value) (Some low) (Some high) =
    Some (record { low = low; high = high; mask = mask; value = value })
word_entry_of_parts _ _ _ _ = None

-- a table with a mask, a value and, where they are named, the ends of a range
abbrev pub entry_of_table : Members → Option WordEntry
entry_of_table ms =
    if has_only mask_keys ms
    then word_entry_of_parts (number_at (codes "mask") ms) (number_at (codes "value") ms)
    (number_or (pos 0) (get_member (codes "low") ms)) (number_or most (get_member (codes "high") ms))
    else None

-- what a table says in a file of this version: only version 2 has such tables
abbrev pub entry_of_versioned : Version → Members → Option WordEntry
entry_of_versioned One ms = None
entry_of_versioned Two ms = entry_of_table ms

-- what a word's value says; nothing where it is of another kind
abbrev pub entry_of : Version → Data → Option WordEntry
entry_of version (integer z) = Some (only_between z z)
entry_of version (array ds) = entry_of_array ds
entry_of version (table ms) = entry_of_versioned version ms
entry_of version _ = None

-- what stands at a word's key
abbrev pub entry_at : Version → Option Data → Option WordEntry
entry_at version None = Some any_number
entry_at version (Some d) = entry_of version d

-- a number of 32 bits
abbrev pub is_word : ℤ → Bool
is_word (pos n) = nat_lt n (2 ^ 32)
is_word (negsuc n) = false

-- the number that isn't below 0
abbrev pub number_or_zero : ℤ → ℕ
number_or_zero (pos n) = n
number_or_zero (negsuc n) = 0

-- the ends between which a question lets the word lie
abbrev pub range_of : WordEntry → ℕ × ℕ
range_of w = (number_or_zero w.low, number_or_zero w.high)

-- the bits that a question looks at in the word, and what they have to be
abbrev pub mask_of : WordEntry → ℕ × ℕ
mask_of w = (number_or_zero w.mask, number_or_zero w.value)

-- all numbers of the entry are of 32 bits
abbrev pub has_words : WordEntry → Bool
has_words w = is_word w.low && is_word w.high && is_word w.mask && is_word w.value

-- all numbers of the entry are of 32 bits, and the low end isn't above the high end
abbrev pub has_range : WordEntry → Bool
has_range w = has_words w && nat_le (number_or_zero w.low) (number_or_zero w.high)

-- the entry's value has no bit outside its mask
abbrev pub has_mask : WordEntry → Bool
has_mask w = is_inside_mask (mask_of w)
