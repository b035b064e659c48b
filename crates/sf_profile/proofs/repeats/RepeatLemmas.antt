-- Parts of a value that was read can be written and read back.
use Rattle.sf_profile.proofs.Common.{◌≡◌, inl, inr, ℕ, ◌+◌, ◌<◌, ◌≤◌, Bool, true, false, cond, List, length, get_or, drop, Option, Some, None, codes, Global, sym, ap, ◌∙◌, subst, arith, IfOk, IfSome, IsSomeAnd, if◌then◌else◌, MatchBool, bytes_eq, drop_more, Json, Items, item, Members, no_members, member, document, get, get_member, later_or, HasUniqueKeys, depth, members_depth, HasNumbers, MembersHaveNumbers, value_view, items_view, Fault, unless_null, last_at, profile_below, items_where, last_rules, IsReadBack, AreReadBack, IsFaultOfRepeat}
use Rattle.std.proofs.Common.{option_and_then}
use Rattle.std.specs.Prelude.{Result}
use Rattle.json.specs.declared.value.Value.{Value}
use Rattle.sf_profile.specs.declared.fault.Fault.TheVariants as faults

later : (a b : Option Json) → IfSome a IsReadBack → IfSome b IsReadBack → IfSome (later_or a b) IsReadBack
later None b x y = y
later (Some j) b x y = x

one : (b : Bool) (j : Json) → IsReadBack j → IfSome (cond b (Some j) None) IsReadBack
one true j h = h
one false j h = tt

of_members : (name : List ℕ) (ms : Members) → MembersHaveNumbers ms → members_depth ms ≤ 128
    → IfSome (get_member name ms) IsReadBack
of_members name no_members n d = tt
of_members name (member k j ms) n d =
    later (get_member name ms) (cond (bytes_eq k name) (Some j) None) (of_members name ms n.1 (omega arith))
    (one (bytes_eq k name) j (n.0, omega arith))

of_object : (name : List ℕ) (j : Json) → IsReadBack j → IfSome (get name j) IsReadBack
of_object name j h = grind (arith, of_members)

unless : (b : Bool) (j : Json) → IsReadBack j → IfSome (if b then None else Some j) IsReadBack
unless true j h = tt
unless false j h = h

of_unless_null : (o : Option Json) → IfSome o IsReadBack → IfSome (unless_null o) IsReadBack
of_unless_null o h = grind arith

of_last : (key : List ℕ) (j : Json) → IsReadBack j → IfSome (last_at key j) IsReadBack
of_last key j h = of_unless_null (get key j) (of_object key j h)

of_profile : (o : Option Json) (whole : Json) → IfSome o IsReadBack → IsReadBack whole
    → IfSome (profile_below o whole) IsReadBack
of_profile o whole h w = grind (arith, of_last)

of_rules : (o : Option Json) → IfSome o IsReadBack → IfSome (option_and_then (last_at (codes "syscalls")) o) IsReadBack
of_rules o h = grind (arith, of_last)

of_items : (o : Option Json) → IfSome o IsReadBack → AreReadBack (items_where o)
of_items o h = grind arith

-- the rules of a value that was read
pub rules_read_back : (whole : Json) → HasNumbers whole → depth whole ≤ 128 → AreReadBack (last_rules whole)
rules_read_back whole n d =
    of_items _ (of_rules _ (of_profile (last_at (codes "linux") whole) whole
    (of_last (codes "linux") whole (n, d)) (n, d)))

-- ---- which rule has a key twice

-- what is told of a value that was written is told of the value
pub told_of_value : {E : Type 0} (text written : List ℕ) (j : Json) (r : Result Bool E) → text ≡ written
    → document written ≡ Some j
    → IfOk r (λ b. MatchBool b (IsSomeAnd (document text) (λ whole. ¬ HasUniqueKeys whole))
    (IsSomeAnd (document text) HasUniqueKeys))
    → IfOk r (λ b. MatchBool b (¬ HasUniqueKeys j) (HasUniqueKeys j))
told_of_value text written j r same w h =
    subst (λ o. IfOk r (λ b. MatchBool b (IsSomeAnd o (λ whole. ¬ HasUniqueKeys whole)) (IsSomeAnd o HasUniqueKeys)))
    (ap document same ∙ w) h

-- the items from the place i on
abbrev pub from : List (Value Global) → ℕ → Items
from vs i = items_view (drop i vs)

-- one item is read back, and so are the later ones
pub read_back_here : (vs : List (Value Global)) (i : ℕ) (v : Value Global) → i < length vs → AreReadBack (from vs i)
    → IsReadBack (value_view (get_or vs i v)) × AreReadBack (from vs (i + 1))
read_back_here vs i v h r =
    let parts : AreReadBack (item (value_view (get_or vs i v)) (from vs (i + 1))) =
    subst (λ ws. AreReadBack (items_view ws)) (drop_more vs i v h) r in
    ((parts.0.0, omega arith), (parts.0.1, omega arith))

-- one item has no key twice
pub fault_later : (vs : List (Value Global)) (i n : ℕ) (v : Value Global) (fault : Fault) → i < length vs
    → HasUniqueKeys (value_view (get_or vs i v)) → IsFaultOfRepeat (n + 1) (from vs (i + 1)) fault
    → IsFaultOfRepeat n (from vs i) fault
fault_later vs i n v fault h u later =
    subst (λ ws. IsFaultOfRepeat n (items_view ws) fault) (sym (drop_more vs i v h)) (inr (u, later))

-- one item has a key twice
pub fault_here : (vs : List (Value Global)) (i n : ℕ) (v : Value Global) (fault : Fault) → i < length vs
    → ¬ HasUniqueKeys (value_view (get_or vs i v)) → fault ≡ faults.RuleKey n → IsFaultOfRepeat n (from vs i) fault
fault_here vs i n v fault h r e =
    subst (λ ws. IsFaultOfRepeat n (items_view ws) fault) (sym (drop_more vs i v h)) (inl (r, e))

-- the fault of a text is that of its document
pub fault_of_text : {E : Type 0} (text : List ℕ) (whole : Json) (r : Result Fault E) → document text ≡ Some whole
    → IfOk r (λ e. IsFaultOfRepeat 1 (last_rules whole) e)
    → IfOk r (λ e. IsSomeAnd (document text) (λ w. IsFaultOfRepeat 1 (last_rules w) e))
fault_of_text text whole r is h =
    subst (λ o. IfOk r (λ e. IsSomeAnd o (λ w. IsFaultOfRepeat 1 (last_rules w) e))) (sym is) h
