-- Where all handles are joined there is just one history.
use Rattle.sf_crew.proofs.Common.{◌≡◌, ◌≢◌, ℕ, zero, suc, ◌+◌, ◌<◌, ◌⊎◌, List, [], ◌∷◌, ◌++◌, Any, Contains, length, Option, Some, None, MatchOption, sym, refl, ap, ◌∙◌, subst, inl, inr, ⊎_elim, append_assoc, append-nil, length-append, arith, nil_from_length, same_from_push, All-pop, slice_get_past, Event, End, HandleView, handle_of, put_items, got_count, first_left, FitsEnd, HasHistory, numbers_of, AllGot, IsWhole, IsKnownFirst, GetsAll, last_of_some}

module _ {T : Type 0} where
  -- a list is empty or has a last element
  abbrev HasLast : List (Event T) → Type 0
  HasLast h = (a : List (Event T)) × (s : Event T) × (h ≡ a ++ s ∷ [])

  last_of : (h : List (Event T)) → (h ≡ []) ⊎ HasLast h
  last_of [] = inl refl
  last_of (e ∷ h) = inr (last_of_some (e ∷ h) (omega arith))

  -- the end of a handle that is joined
  pub joined_end : (es : List (End T)) (i : ℕ) → Contains (numbers_of es) i → Any (λ (e : End T). e.number ≡ i) es
  joined_end [] i there = absurd (let lt = there.1 in omega arith)
  joined_end (x ∷ es) i (zero, lt, is) = (0, x, omega arith, refl, is)
  joined_end (x ∷ es) i (suc k, lt, is) =
      let r = joined_end es i (k, omega arith, is) in (suc r.0, r.1, (let within = r.2 in omega arith), r.3, r.4)

  -- an end that is joined fits each history that fits all ends
  pub fits_at : (v : HandleView T) (h : List (Event T)) (P : End T → Type 0) (j : Any P v.ends) → HasHistory v h
      → FitsEnd h j.1
  fits_at v h P j has = subst (λ (e : End T). FitsEnd h e) j.3 (has.ends j.0 j.1 j.2)

  -- the end whose handle made the last step knows the whole history
  knows_all : (a : List (Event T)) (s : Event T) (e : End T) → handle_of s ≡ e.number → FitsEnd (a ++ s ∷ []) e
      → a ++ s ∷ [] ≡ e.events
  knows_all a s e by f = ⊎_elim
      (λ (x : f.0 ≡ []). f.1 ∙ ap (λ (l : List (Event T)). e.events ++ l) x ∙ append-nil e.events) (λ (x : HasLast f.0).
      let whole : a ++ s ∷ [] ≡ (e.events ++ x.0) ++ x.1 ∷ [] =
      f.1 ∙ ap (λ (l : List (Event T)). e.events ++ l) x.2 ∙ sym (append_assoc e.events x.0 (x.1 ∷ [])) in
      let same : s ≡ x.1 = (same_from_push a (e.events ++ x.0) s x.1 whole).1 in
      let other : handle_of x.1 ≢ e.number =
      (All-pop (λ (y : Event T). handle_of y ≢ e.number) f.0 x.0 (Some x.1) x.2 f.2).1 in
      absurd (other (ap (λ (y : Event T). handle_of y) (sym same) ∙ by))) (last_of f.0)

  -- each history that fits all ends begins each other such history
  begins : (v : HandleView T) (h k : List (Event T)) → IsWhole v → HasHistory v h → HasHistory v k
      → (rest : List (Event T)) × (k ≡ h ++ rest)
  begins v h k whole p q = ⊎_elim (λ (x : h ≡ []). (k, ap (λ (l : List (Event T)). l ++ k) (sym x))) (λ (x : HasLast h).
      let lt : handle_of x.1 < v.made =
      (All-pop (λ (y : Event T). handle_of y < v.made) h x.0 (Some x.1) x.2 (p.made whole.0)).1 in
      let j = joined_end v.ends (handle_of x.1) (whole.1 (handle_of x.1) lt) in
      let ph : FitsEnd h j.1 = fits_at v h (λ (e : End T). e.number ≡ handle_of x.1) j p in
      let qk : FitsEnd k j.1 = fits_at v k (λ (e : End T). e.number ≡ handle_of x.1) j q in
      let all : x.0 ++ x.1 ∷ [] ≡ j.1.events = knows_all x.0 x.1 j.1 (sym j.4)
      (subst (λ (l : List (Event T)). FitsEnd l j.1) x.2 ph) in
      (qk.0, qk.1 ∙ ap (λ (l : List (Event T)). l ++ qk.0) (sym all ∙ sym x.2))) (last_of h)

  -- where all handles are joined, all that is known fits one history only
  pub pinned : (v : HandleView T) (h k : List (Event T)) → IsWhole v → HasHistory v h → HasHistory v k → h ≡ k
  pinned v h k whole p q =
      let a = begins v h k whole p q in let b = begins v k h whole q p in
      let la : length k ≡ length h + length a.0 = ap (λ (l : List (Event T)). length l) a.1 ∙ length-append h a.0 in
      let lb : length h ≡ length k + length b.0 = ap (λ (l : List (Event T)). length l) b.1 ∙ length-append k b.0 in
      let none : a.0 ≡ [] = nil_from_length a.0 (omega arith) in
      sym (a.1 ∙ ap (λ (l : List (Event T)). h ++ l) none ∙ append-nil h)

  -- what a take finds where all handles are joined
  pub known_first : (v w : HandleView T) (found : Option T) → IsWhole v
      → MatchOption found ((w ≡ v) × AllGot v) (λ x. GetsAll v (x ∷ []) w) → IsKnownFirst v found
  known_first v w None whole h k fits =
      let all = h.1 in let same : all.0 ≡ k = pinned v all.0 k whole all.1 fits in let full = all.2 in
      sym (slice_get_past (put_items all.0) (got_count all.0) (omega arith)) ∙ ap first_left same
  known_first v w (Some x) whole h k fits = let g = h x refl in
      let same : g.0 ≡ k = pinned v g.0 k whole g.1 fits in sym g.2 ∙ ap first_left same
