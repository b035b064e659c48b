-- What a TOML tree means as a file of names: named sets of calls, each with its architecture, and what is looked up in
-- them.
use Rattle.std.specs.Prelude.{◌≡◌, ℕ, ℤ, pos, negsuc, ◌^◌, ◌+◌, ◌-◌, ◌==◌, ◌&&◌, ◌||◌, nat_le, nat_lt, Bool, true, false, List, [], ◌∷◌, ◌++◌, codes, find, length, if◌then◌else◌, Option, Some, None, option_map, unwrap_or, Result, Ok, Err}
use Rattle.std.specs.Fmt.{digits, format_spec, padded_integral}
use Rattle.std.specs.List.{flat_map, list_all, list_any}
use Rattle.std.specs.List.Sorted.{IsNonDecreasingBy, IsPermutation, IsStableByKey}
use Rattle.std.specs.Ordering.{nat_cmp}
use Rattle.std.specs.Str.{bytes_eq}
use Rattle.toml.specs.Data.{Data, integer, table, Members, no_members, member, get_member}
use Rattle.sf_names.specs.declared.fault.Fault.{Fault}
use Rattle.sf_names.specs.declared.fault.Fault.TheVariants as faults

-- a call: its number and its name
pub record CallData : Type 0 where
  pub number : ℕ
  pub name : List ℕ

-- a set of calls: its name, the number of its architecture, and its calls
pub record NamesData : Type 0 where
  pub set : List ℕ
  pub arch : ℕ
  pub calls : List CallData

-- ---- what is looked up

-- the call has this name
abbrev pub has_name : List ℕ → CallData → Bool
has_name name c = bytes_eq c.name name

-- the number of the first call with this name
abbrev pub number_of_call : NamesData → List ℕ → Option ℕ
number_of_call n name = option_map (λ (c : CallData). c.number) (find (has_name name) n.calls)

-- the set has this name
abbrev pub has_set : List ℕ → NamesData → Bool
has_set set n = bytes_eq n.set set

-- ---- refusals

-- a fault other than refused memory is the one that is due
abbrev pub Fails : {X : Type 0} → Fault → Result X Fault → Type 0
Fails faults.Memory due = Unit {0}
Fails fault due = due ≡ Err fault

-- what a function answered, seen by `view`, is what is due, unless memory is refused
abbrev pub Gives : {X Y : Type 0} → (X → Y) → Result X Fault → Result Y Fault → Type 0
Gives view (Ok x) due = due ≡ Ok (view x)
Gives view (Err fault) due = Fails fault due

-- ---- the calls of a set

-- the number, where it is one of 32 bits
abbrev pub word_in : ℤ → Option ℕ
word_in (pos n) = if nat_lt n (2 ^ 32) then Some n else None
word_in (negsuc n) = None

-- the number of a table's keys
abbrev pub key_count : Members → ℕ
key_count no_members = 0
key_count (member key d rest) = 1 + key_count rest

-- a key that the table of a set may have
abbrev pub is_names_key : List ℕ → Bool
is_names_key key = bytes_eq key (codes "arch") || bytes_eq key (codes "calls")

-- each key of the table is one that the table of a set may have
abbrev pub has_names_keys : Members → Bool
has_names_keys no_members = true
has_names_keys (member key d rest) = is_names_key key && has_names_keys rest

-- a letter, a digit or `_`
abbrev pub is_name_byte : ℕ → Bool
is_name_byte b = ((nat_le 48 b && nat_le b 57) || (nat_le 65 b && nat_le b 90)) || ((nat_le 97 b && nat_le b 122)
    || (b == 95))

-- the name of a call, or of a set, has 1 to 64 letters, digits and `_`
abbrev pub is_call_name : List ℕ → Bool
is_call_name name = nat_le 1 (length name) && nat_le (length name) 64 && list_all is_name_byte name

-- the call of a name and its number, which has 32 bits
abbrev pub call_where_word : List ℕ → Option ℕ → Result CallData Fault
call_where_word name (Some n) = Ok (record { number = n; name = name })
call_where_word name None = Err faults.Range

-- the call of a name and its value, which is a whole number
abbrev pub call_of_value : List ℕ → Data → Result CallData Fault
call_of_value name (integer z) = call_where_word name (word_in z)
call_of_value name _ = Err faults.Key

-- the call of a key and its value, or what is wrong with it: the key, or its value's kind; then the number
abbrev pub call_of : List ℕ → Data → Result CallData Fault
call_of name d = if is_call_name name then call_of_value name d else Err faults.Key

-- a call before the others, or the first refusal among them
abbrev pub call_cons : Result CallData Fault → Result (List CallData) Fault → Result (List CallData) Fault
call_cons (Ok c) (Ok cs) = Ok (c ∷ cs)
call_cons (Ok c) (Err fault) = Err fault
call_cons (Err fault) _ = Err fault

-- the calls of a table, in the order of its keys, or the first refusal among them
abbrev pub calls_of : Members → Result (List CallData) Fault
calls_of no_members = Ok []
calls_of (member name d rest) = call_cons (call_of name d) (calls_of rest)

-- the calls of a table, which has at most 1,024
abbrev pub few_calls_of : Members → Result (List CallData) Fault
few_calls_of ms = if nat_lt 1024 (key_count ms) then Err faults.Count else calls_of ms

-- the calls of a value, which is a table
abbrev pub calls_of_value : Data → Result (List CallData) Fault
calls_of_value (table ms) = few_calls_of ms
calls_of_value _ = Err faults.Key

-- the calls at the key `calls`, which must be there
abbrev pub calls_at : Option Data → Result (List CallData) Fault
calls_at (Some d) = calls_of_value d
calls_at None = Err faults.Key

-- the number of an architecture, which has 32 bits
abbrev pub arch_where_word : Option ℕ → Result ℕ Fault
arch_where_word (Some n) = Ok n
arch_where_word None = Err faults.Range

-- the number of an architecture, which is a whole number
abbrev pub arch_of_value : Data → Result ℕ Fault
arch_of_value (integer z) = arch_where_word (word_in z)
arch_of_value _ = Err faults.Key

-- the number at the key `arch`, which must be there
abbrev pub arch_at : Option Data → Result ℕ Fault
arch_at (Some d) = arch_of_value d
arch_at None = Err faults.Key

-- ---- the sets of a file

-- a set of this name, its architecture and its calls, or the first refusal of the two
abbrev pub set_of_parts : List ℕ → Result ℕ Fault → Result (List CallData) Fault → Result NamesData Fault
set_of_parts set (Ok arch) (Ok calls) = Ok (record { set = set; arch = arch; calls = calls })
set_of_parts set (Ok arch) (Err fault) = Err fault
set_of_parts set (Err fault) _ = Err fault

-- the set of this name that a table has, whose keys are all known; the calls in the order of their keys
abbrev pub set_from : List ℕ → Members → Result NamesData Fault
set_from set ms = set_of_parts set (arch_at (get_member (codes "arch") ms)) (calls_at (get_member (codes "calls") ms))

-- The set of this name that a table has, or its first refusal: an unknown key, its architecture, and then its calls.
abbrev pub set_of_table : List ℕ → Members → Result NamesData Fault
set_of_table set ms = if has_names_keys ms then set_from set ms else Err faults.Key

-- the set of this name that a value has, which is a table
abbrev pub set_of_value : List ℕ → Data → Result NamesData Fault
set_of_value set (table ms) = set_of_table set ms
set_of_value set _ = Err faults.Key

-- the set of a key and its value, or what is wrong with it: the key, or its value
abbrev pub set_of_key : List ℕ → Data → Result NamesData Fault
set_of_key set d = if is_call_name set then set_of_value set d else Err faults.Key

-- a set before the others, or the first refusal among them
abbrev pub set_cons : Result NamesData Fault → Result (List NamesData) Fault → Result (List NamesData) Fault
set_cons (Ok n) (Ok ns) = Ok (n ∷ ns)
set_cons (Ok n) (Err fault) = Err fault
set_cons (Err fault) _ = Err fault

-- the sets of a table, in the order of its keys, or the first refusal among them
abbrev pub sets_of_table : Members → Result (List NamesData) Fault
sets_of_table no_members = Ok []
sets_of_table (member set d rest) = set_cons (set_of_key set d) (sets_of_table rest)

-- a number below those of x32, which have bit 30 set
abbrev pub is_low_call : CallData → Bool
is_low_call c = nat_lt c.number (2 ^ 30)

-- The name of the set of these calls, where the architecture is one of those that have a name. Of the two of x86-64 it
-- is that of 64-bit calls where there is a number of these.
abbrev pub known_set : ℕ → List CallData → Option (List ℕ)
known_set arch calls =
    if arch == 0xc000003e then Some (if list_any is_low_call calls then codes "x86_64" else codes "x32")
    else if arch == 0x40000003 then Some (codes "i386")
    else if arch == 0xc00000b7 then Some (codes "aarch64")
    else if arch == 0x40000028 then Some (codes "arm")
    else None

-- the usual name of the set of these calls: for another architecture `0x` and its number with eight hexadecimal digits
abbrev pub usual_set : ℕ → List CallData → List ℕ
usual_set arch calls =
    unwrap_or (known_set arch calls)
    (codes "0x" ++ padded_integral (format_spec 32 0 4 8 (2 ^ 64 - 1)) false [] (digits 16 true arch))

-- the set, with its usual name
abbrev pub with_usual_set : Result NamesData Fault → Result NamesData Fault
with_usual_set (Ok n) = Ok (record { set = usual_set n.arch n.calls; arch = n.arch; calls = n.calls })
with_usual_set (Err fault) = Err fault

-- the set of a file that is one set
abbrev pub only_set : Members → Result NamesData Fault
only_set ms = with_usual_set (set_from [] ms)

-- a set alone
abbrev pub list_of_one_set : Result NamesData Fault → Result (List NamesData) Fault
list_of_one_set n = set_cons n (Ok [])

-- The sets of a file, or its first refusal. A file whose top has only keys of a set is one set; another one has a set
-- at each key, at most 64.
abbrev pub sets_of_file : Members → Result (List NamesData) Fault
sets_of_file ms =
    if has_names_keys ms then list_of_one_set (only_set ms)
    else if nat_lt 64 (key_count ms) then Err faults.Count
    else sets_of_table ms

-- these calls, by their numbers: those with one number keep their order
pub record AreByNumber (file calls : List CallData) : Type 0 where
  pub same : IsPermutation file calls
  pub order : IsNonDecreasingBy (λ (c : CallData). c.number) calls
  pub stable : IsStableByKey (λ (c : CallData). c.number) nat_cmp file calls

-- this set, with the calls by their numbers
pub record IsOrdered (file names : NamesData) : Type 0 where
  pub set : names.set ≡ file.set
  pub arch : names.arch ≡ file.arch
  pub calls : AreByNumber file.calls names.calls

-- these sets, one by one, with the calls of each by their numbers
abbrev pub HaveOrderedCalls : List NamesData → List NamesData → Type 0
HaveOrderedCalls [] [] = Unit {0}
HaveOrderedCalls (file ∷ files) (names ∷ more) = IsOrdered file names × HaveOrderedCalls files more
HaveOrderedCalls _ _ = ⊥

-- What a function answered is the set that is due, with the calls by their numbers, unless memory is refused.
abbrev pub GivesSet : Result NamesData Fault → Result NamesData Fault → Type 0
GivesSet (Ok names) due = (file : NamesData) × (due ≡ Ok file) × IsOrdered file names
GivesSet (Err fault) due = Fails fault due

-- What a function answered, seen by `view`, are the sets that are due, with the calls of each by their numbers, unless
-- memory is refused.
abbrev pub GivesNames : {X : Type 0} → (X → List NamesData) → Result X Fault → Result (List NamesData) Fault → Type 0
GivesNames view (Ok x) due = (files : List NamesData) × (due ≡ Ok files) × HaveOrderedCalls files (view x)
GivesNames view (Err fault) due = Fails fault due

-- ---- names as text

-- the name of a call, if its number is one of these
abbrev pub name_between : ℕ → ℕ → CallData → List (List ℕ)
name_between first last c = if nat_le first c.number && nat_le c.number last then c.name ∷ [] else []

-- the names of the calls of one set whose numbers are among these, if it is a set of the architecture
abbrev pub names_in : ℕ → ℕ → ℕ → NamesData → List (List ℕ)
names_in arch first last n = if n.arch == arch then flat_map (name_between first last) n.calls else []

-- the names of the calls of an architecture whose numbers are among these, set after set
abbrev pub names_between : List NamesData → ℕ → ℕ → ℕ → List (List ℕ)
names_between names arch first last = flat_map (names_in arch first last) names

-- how many names were told, when one more comes: the ninth is told by `..`, and no further one is
abbrev pub count_more : ℕ → ℕ
count_more count = if nat_lt count 9 then count + 1 else count

-- how many names were told
abbrev pub count_after : ℕ → List (List ℕ) → ℕ
count_after count [] = count
count_after count (name ∷ names) = count_after (count_more count) names

-- what is written of a name, where so many were told before it
abbrev pub next_name_words : ℕ → List ℕ → List ℕ
next_name_words count name =
    if count == 0 then codes " # " ++ name
    else if nat_lt count 8 then 44 ∷ name
    else if count == 8 then codes ",.." else []

-- names with commas between them, after ` # `, where so many were told before: at most eight, and then `..`
abbrev pub names_words : ℕ → List (List ℕ) → List ℕ
names_words count [] = []
names_words count (name ∷ names) = next_name_words count name ++ names_words (count_more count) names
