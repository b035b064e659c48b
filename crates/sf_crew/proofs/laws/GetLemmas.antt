-- Which handle of a bench got which item.
use Rattle.sf_crew.proofs.Common.{gets, slice_get_cases, ◌≡◌, ◌≢◌, ℕ, zero, suc, ◌+◌, ◌<◌, ◌≤◌, List, [], ◌∷◌, ◌++◌, All, Any, length, Some, is_some, inl, inr, IsSome, slice_get, sym, refl, ap, ◌∙◌, subst, append_assoc, arith, get_or, All-nil, All-cons, All-tail, slice_get-get_or, slice_get_within, get_or_from_slice_get, Event, Put, Got, End, HandleView, handle_of, put_items, getters, got_count, IsLawfulFrom, IsLawfulHistory, FitsEnd, HasHistory, IsWhole, common_steps, None, true, getter, IsSharedOut, IsAllKnown}
use Rattle.sf_crew.proofs.Histories.{NotBy, puts_append, getters_append, lawful_le}
use Rattle.sf_crew.proofs.WholeBenches.{fits_at, joined_end, pinned}

-- a place of the first of two lists
slice_get_left : {X : Type 0} (a b : List X) (n : ℕ) → n < length a → slice_get (a ++ b) n ≡ slice_get a n
slice_get_left a b n lt = grind (arith, common_steps, gets)

-- and the place behind it
slice_get_next : {X : Type 0} (a : List X) (x : X) (b : List X) → slice_get (a ++ x ∷ b) (length a) ≡ Some x
slice_get_next [] x b = refl
slice_get_next (y ∷ a) x b = slice_get_next a x b

-- a place with an element is below the length
some_within : {X : Type 0} (l : List X) (n : ℕ) → is_some (slice_get l n) ≡ true → n < length l
some_within l n e = grind (arith, common_steps, gets)

module _ {T : Type 0} where
  -- what holds of the handle of each step holds of each getter
  getters_are : (P : ℕ → Type 0) (h : List (Event T)) → All (λ (s : Event T). P (handle_of s)) h → All P (getters h)
  getters_are P [] all = All-nil P
  getters_are P (Put x ∷ h) all = getters_are P h (All-tail (λ (s : Event T). P (handle_of s)) (Put x) h all)
  getters_are P (Got i ∷ h) all = All-cons P i (getters h) (all 0 (Got i) (omega arith))
      (getters_are P h (All-tail (λ (s : Event T). P (handle_of s)) (Got i) h all))

  getter_is : (P : ℕ → Type 0) (h : List (Event T)) (k i : ℕ) → All (λ (s : Event T). P (handle_of s)) h
      → getter h k ≡ Some i → P i
  getter_is P h k i all e = subst P (get_or_from_slice_get (getters h) k i i e)
      (getters_are P h all k i (slice_get_within (getters h) k i e))

  -- what a handle got, it got by its own last step or before
  getter_own : (a b : List (Event T)) (k n : ℕ) → NotBy n b → getter (a ++ b) k ≡ Some n → getter a k ≡ Some n
  getter_own [] b k n not e = absurd (getter_is (λ j. j ≢ n) b k n not e refl)
  getter_own (Put x ∷ a) b k n not e = getter_own a b k n not e
  getter_own (Got j ∷ a) b zero n not e = e
  getter_own (Got j ∷ a) b (suc k) n not e = getter_own a b k n not e

  -- at a lawful get something is left
  left_at : (p g : ℕ) (a b : List (Event T)) (i : ℕ) → IsLawfulFrom p g (a ++ Got i ∷ b)
      → g + got_count a < p + length (put_items a)
  left_at p g [] b i l = let lt = l.0 in omega arith
  left_at p g (Put x ∷ a) b i l = let lt = left_at (p + 1) g a b i l in omega arith
  left_at p g (Got j ∷ a) b i l = let lt = left_at p (g + 1) a b i l.1 in omega arith

  own_get : (h : List (Event T)) (e : End T) → FitsEnd h e → (k : ℕ) → getter h k ≡ Some e.number
      → getter e.events k ≡ Some e.number
  own_get h e f k got = getter_own e.events f.0 k e.number f.2 (sym (ap (λ (l : List (Event T)). getter l k) f.1) ∙ got)

  got_le : (h : List (Event T)) → IsLawfulHistory h → got_count h ≤ length (put_items h)
  got_le h lawful = let le = lawful_le 0 0 h (omega arith) lawful in omega arith

  pub shared_out : (v : HandleView T) (h : List (Event T)) → HasHistory v h → IsSharedOut v h
  shared_out v h has = record {
    beginning = got_le h has.lawful;
    places = λ k. (
      (λ (lt : k < got_count h). ap is_some (slice_get-get_or (getters h) k 0 lt)),
      (λ (is : IsSome (getter h k)). some_within (getters h) k is),
    );
    known = λ n d there k i got. let f = has.ends n d there in let a : List ℕ = getters (get_or v.ends n d).events in
        ap (λ (l : List (Event T)). getter l k) f.1
        ∙ ap (λ (l : List ℕ). slice_get l k) (getters_append (get_or v.ends n d).events f.0)
        ∙ slice_get_left a (getters f.0) k (slice_get_within a k i got) ∙ got;
    own = λ n d there. own_get h (get_or v.ends n d) (has.ends n d there);
    items = λ n d there a b i is. let f = has.ends n d there in
        let whole : h ≡ a ++ Got i ∷ (b ++ f.0) =
        f.1 ∙ ap (λ (l : List (Event T)). l ++ f.0) is ∙ append_assoc a (Got i ∷ b) f.0 in
        let left = left_at 0 0 a (b ++ f.0) i (subst (λ (l : List (Event T)). IsLawfulHistory l) whole has.lawful) in (
          ap (λ (l : List (Event T)). getter l (got_count a)) whole
              ∙ ap (λ (l : List ℕ). slice_get l (got_count a)) (getters_append a (Got i ∷ (b ++ f.0)))
              ∙ slice_get_next (getters a) i (getters (b ++ f.0)),
          ap (λ (l : List (Event T)). slice_get (put_items l) (got_count a)) whole
              ∙ ap (λ (l : List T). slice_get l (got_count a)) (puts_append a (Got i ∷ (b ++ f.0)))
              ∙ slice_get_left (put_items a) (put_items (Got i ∷ (b ++ f.0))) (got_count a) (omega arith),
        );
  }

  -- the end of a handle that is joined knows what the handle got
  one_got : (v : HandleView T) (h : List (Event T)) → IsWhole v → HasHistory v h → (k : ℕ) → k < got_count h
      → Any (λ (e : End T). getter e.events k ≡ Some e.number) v.ends
  one_got v h whole has k lt =
      let i : ℕ = get_or (getters h) k 0 in let got = slice_get-get_or (getters h) k 0 lt in
      let made : i < v.made = getter_is (λ j. j < v.made) h k i (has.made whole.0) got in
      let j = joined_end v.ends i (whole.1 i made) in (search (arith, fits_at, own_get))

  pub all_known : (v : HandleView T) (h : List (Event T)) → IsWhole v → HasHistory v h → IsAllKnown v h
  all_known v h whole has = record {
    only = λ g fits. pinned v g h whole fits has;
    getters = λ k lt. one_got v h whole has k lt;
    all = λ none. let le = got_le h has.lawful in
        let end : None ≡ slice_get (put_items h) (got_count h) = none h has in
        elim (slice_get_cases (put_items h) (got_count h)).1 [
          | inl c ↦ (let there = c.2 in absurd (cc))
          | inr p ↦ (let past = p.0 in omega arith)
        ];
  }
