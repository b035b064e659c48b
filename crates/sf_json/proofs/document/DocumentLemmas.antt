-- Values without a float.
use Rattle.sf_json.proofs.Common.{◌≡◌, ℕ, List, [], ◌∷◌, ◌++◌, BTreeMap, Global, String, false, rules, nat_cmp, match_ordering, slice_cmp, Ordering, Less, Equal, Greater, or_parts, Data, Members, no_members, member, object, put, items_view, members_view, view, has_float, items_have_float, members_have_float, Object, Value, the_lemmas}

-- one more value without a float behind values without one
pub no_float_behind : (vs : List Value) (v : Value) → items_have_float (items_view vs) ≡ false
    → has_float (view v) ≡ false → items_have_float (items_view (vs ++ v ∷ [])) ≡ false
no_float_behind [] v h k = rw k
no_float_behind (w ∷ ws) v h k =
    let p = or_parts (has_float (view w)) _ h in rw (p.0, no_float_behind ws v p.1 k)

-- either of three without a float
of_three : (o : Ordering) (a b c : Members) → members_have_float a ≡ false → members_have_float b ≡ false
    → members_have_float c ≡ false → members_have_float (match_ordering o a b c) ≡ false
of_three Less a b c ha hb hc = ha
of_three Equal a b c ha hb hc = hb
of_three Greater a b c ha hb hc = hc

-- one more value without a float among members without one
pub no_float_among : (k : List ℕ) (d : Data) (ms : Members) → members_have_float ms ≡ false
    → has_float d ≡ false → members_have_float (put k d ms) ≡ false
no_float_among k d no_members h e = rw e
no_float_among k d (member l f ms) h e =
    let p = or_parts (has_float f) (members_have_float ms) h in
    of_three (slice_cmp nat_cmp k l) _ _ _ (rw (e, p.0, p.1)) (rw (e, p.1)) (rw (p.0, no_float_among k d ms p.1 e))

view_of_object : (m : BTreeMap (String Global) Value) → view (Object m) ≡ object (members_view m.entries)
view_of_object m = search (rules, the_lemmas)

-- an object without a float has none among its members
pub no_float_within : (v : Value) (m : BTreeMap (String Global) Value) → v ≡ Object m → has_float (view v) ≡ false
    → members_have_float (members_view m.entries) ≡ false
no_float_within v m is none = rw (is, view_of_object m) at none
