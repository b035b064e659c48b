-- No tree is refused as `Syntax`.
use Rattle.sf_names.proofs.Common.{◌≡◌, ℕ, nat_lt, Bool, true, false, List, [], codes, Option, Some, None, Result, Ok, Err, refl, ap, sym, ◌∙◌, if◌then◌else◌, false≢true, Data, integer, table, Members, no_members, member, get_member, Fault, CallData, GivesNames, NamesData, arch_at, arch_where_word, call_cons, call_of_value, call_where_word, calls_at, calls_of, has_names_keys, is_call_name, key_count, sets_of_file, set_cons, set_from, set_of_parts, set_of_value, sets_of_table, with_usual_set, word_in}
use Rattle.sf_names.specs.declared.fault.Fault.TheVariants as faults

-- the refusal is `Syntax`
abbrev pub is_syntax : {X : Type 0} → Result X Fault → Bool
is_syntax (Ok x) = false
is_syntax (Err faults.Syntax) = true
is_syntax (Err fault) = false

choice : {X : Type 0} (b : Bool) (x y : Result X Fault) → is_syntax x ≡ false → is_syntax y ≡ false
    → is_syntax (if b then x else y) ≡ false
choice true x y p q = p
choice false x y p q = q

where_word : (name : List ℕ) (n : Option ℕ) → is_syntax (call_where_word name n) ≡ false
where_word name (Some n) = refl
where_word name None = refl

of_value : (name : List ℕ) (d : Data) → is_syntax (call_of_value name d) ≡ false
of_value name (integer z) = where_word name (word_in z)
of_value name _ = refl

in_front : (c : Result CallData Fault) (cs : Result (List CallData) Fault) → is_syntax c ≡ false
    → is_syntax cs ≡ false → is_syntax (call_cons c cs) ≡ false
in_front (Ok c) (Ok cs) p q = refl
in_front (Ok c) (Err fault) p q = q
in_front (Err fault) cs p q = p

of_members : (ms : Members) → is_syntax (calls_of ms) ≡ false
of_members no_members = refl
of_members (member name d rest) = in_front _ _ (choice (is_call_name name) _ _ (of_value name d) refl) (of_members rest)

of_calls : (o : Option Data) → is_syntax (calls_at o) ≡ false
of_calls (Some (table ms)) = choice (nat_lt 1024 (key_count ms)) _ _ refl (of_members ms)
of_calls _ = refl

of_word : (n : Option ℕ) → is_syntax (arch_where_word n) ≡ false
of_word (Some n) = refl
of_word None = refl

of_arch : (o : Option Data) → is_syntax (arch_at o) ≡ false
of_arch (Some (integer z)) = of_word (word_in z)
of_arch _ = refl

of_parts : (set : List ℕ) (arch : Result ℕ Fault) (calls : Result (List CallData) Fault) → is_syntax arch ≡ false
    → is_syntax calls ≡ false → is_syntax (set_of_parts set arch calls) ≡ false
of_parts set (Ok arch) (Ok calls) p q = refl
of_parts set (Ok arch) (Err fault) p q = q
of_parts set (Err fault) calls p q = p

from_table : (set : List ℕ) (ms : Members) → is_syntax (set_from set ms) ≡ false
from_table set ms = of_parts set _ _ (of_arch (get_member (codes "arch") ms)) (of_calls (get_member (codes "calls") ms))

set_in : (set : List ℕ) (d : Data) → is_syntax (set_of_value set d) ≡ false
set_in set (table ms) = choice (has_names_keys ms) _ _ (from_table set ms) refl
set_in set _ = refl

before_sets : (n : Result NamesData Fault) (ns : Result (List NamesData) Fault) → is_syntax n ≡ false
    → is_syntax ns ≡ false → is_syntax (set_cons n ns) ≡ false
before_sets (Ok n) (Ok ns) p q = refl
before_sets (Ok n) (Err fault) p q = q
before_sets (Err fault) ns p q = p

of_sets : (ms : Members) → is_syntax (sets_of_table ms) ≡ false
of_sets no_members = refl
of_sets (member set d rest) = before_sets _ _ (choice (is_call_name set) _ _ (set_in set d) refl) (of_sets rest)

named : (n : Result NamesData Fault) → is_syntax n ≡ false → is_syntax (with_usual_set n) ≡ false
named (Ok n) p = refl
named (Err fault) p = p

of_tree : (ms : Members) → is_syntax (sets_of_file ms) ≡ false
of_tree ms = choice (has_names_keys ms) _ _ (before_sets _ (Ok []) (named _ (from_table [] ms)) refl)
    (choice (nat_lt 64 (key_count ms)) _ _ refl (of_sets ms))

-- a function that gives the sets of a tree never answers `Syntax`
pub no_syntax : {X : Type 0} (view : X → List NamesData) (r : Result X Fault) (ms : Members)
    → GivesNames view r (sets_of_file ms) → r ≡ Err faults.Syntax → ⊥
no_syntax view r ms gives e = false≢true (sym (of_tree ms) ∙ ap (λ l. is_syntax l) (rw e at gives))
