-- Each step of a handle keeps the rule of the bench.
use Rattle.sf_crew.proofs.Common.{◌≡◌, ◌≢◌, ℕ, zero, suc, ◌+◌, ◌-◌, ◌<◌, ◌≤◌, min, List, [], ◌∷◌, ◌++◌, All, get_or, length, drop, set, slice_get, Option, Some, None, MatchOption, Result, Ok, Err, MatchResult, sym, refl, ap, ◌∙◌, subst, append_assoc, append-nil, length-append, length-drop, length-set, arith, some, some-ne-none, get_elem?, length-map, drop-append-le, All-nil, All-cons, All-push, All-tail, at_lt, Pushes, Takes, Finds, FindsFew, Forks, Learns, MatchSteal, Steal, Event, Put, Got, End, HandleView, handle_view, new_view, handle_of, put_items, getters, got_count, handle_end, IsLawfulFrom, IsLawfulHistory, FitsEnd, HasHistory, own_number, with_own, view_after, AllGot, numbers_of, KeepsHandles, Sits, BenchKept, PutsAll, GetsAll, WereLeft, owner_with_thief, new_thief_view, common_steps, Success, Retry}
use Rattle.sf_crew.proofs.Totals.{set_each, snoc_each}
use Rattle.crossbeam_deque.specs.declared.steal.Steal.TheVariants.{Empty}

module _ {T : Type 0} where
  -- no step of these was made by the handle i
  abbrev pub NotBy : ℕ → List (Event T) → Type 0
  NotBy i es = All (λ (e : Event T). handle_of e ≢ i) es

  -- all steps are by handles below n
  abbrev pub AllByHandlesBelow : ℕ → List (Event T) → Type 0
  AllByHandlesBelow n es = All (λ (e : Event T). handle_of e < n) es

  pub puts_append : (a b : List (Event T)) → put_items (a ++ b) ≡ put_items a ++ put_items b
  puts_append [] b = refl
  puts_append (Put x ∷ a) b = ap (λ (l : List T). x ∷ l) (puts_append a b)
  puts_append (Got i ∷ a) b = puts_append a b

  pub getters_append : (a b : List (Event T)) → getters (a ++ b) ≡ getters a ++ getters b
  getters_append [] b = refl
  getters_append (Put x ∷ a) b = getters_append a b
  getters_append (Got i ∷ a) b = ap (λ (l : List ℕ). i ∷ l) (getters_append a b)

  -- a lawful history goes on lawfully by what is lawful after it
  lawful_append : (p g : ℕ) (a b : List (Event T)) → IsLawfulFrom p g a
      → ((q k : ℕ) → q ≡ p + length (put_items a) → k ≡ g + got_count a → IsLawfulFrom q k b)
      → IsLawfulFrom p g (a ++ b)
  lawful_append p g [] b l next = next p g (omega arith) (omega arith)
  lawful_append p g (Put y ∷ a) b l next =
      lawful_append (p + 1) g a b l (λ q k e f. next q k (omega arith) (omega arith))
  lawful_append p g (Got i ∷ a) b l next =
      (l.0, lawful_append p (g + 1) a b l.1 (λ q k e f. next q k (omega arith) (omega arith)))

  pub lawful_le : (p g : ℕ) (h : List (Event T)) → g ≤ p → IsLawfulFrom p g h
      → g + got_count h ≤ p + length (put_items h)
  lawful_le p g [] le l = omega arith
  lawful_le p g (Put y ∷ h) le l = let r = lawful_le (p + 1) g h (omega arith) l in omega arith
  lawful_le p g (Got i ∷ h) le l = let lt = l.0 in let r = lawful_le p (g + 1) h (omega arith) l.1 in omega arith

  dropped : (l : List T) (n : ℕ) (x : T) (xs : List T) → drop n l ≡ x ∷ xs → (slice_get l n ≡ Some x)
      × (drop (suc n) l ≡ xs) × (n < length l)
  dropped [] zero x xs e = absurd (cc)
  dropped [] (suc n) x xs e = absurd (cc)
  dropped (y ∷ l) zero x xs e = (ap (λ (z : T). Some z) (cc), cc, omega arith)
  dropped (y ∷ l) (suc n) x xs e = let r = dropped l n x xs e in (r.0, r.1, (let lt = r.2 in omega arith))

  -- only the owner, at the place 0, has made handles, and it has made n
  abbrev pub IsMaker : ℕ → ℕ → HandleView T → Type 0
  IsMaker n port v = 0 < v.made → (port ≡ 0) × (v.made ≡ n)

  -- ---- one more event

  -- ends that lie elsewhere are of other handles than the one whose own end lies here
  pub not_here : (home : ℕ → ℕ) (port other : ℕ) (es : List (End T)) → home port ≡ port → other ≢ port
      → All (λ (o : End T). home o.number ≡ other) es → All (λ (o : End T). o.number ≢ port) es
  not_here home port other es here ne at = λ k d there same. ne (sym (at k d there) ∙ ap home same ∙ here)

  -- ends still fit when another handle makes a step
  fit_others : (port : ℕ) (h : List (Event T)) (s : Event T) (es : List (End T)) → handle_of s ≡ port
      → All (λ (o : End T). o.number ≢ port) es → All (FitsEnd h) es → All (FitsEnd (h ++ s ∷ [])) es
  fit_others port h s es is apart fit = λ k d there. let e : End T = get_or es k d in let f = fit k d there in (
    f.0 ++ s ∷ [],
    ap (λ (l : List (Event T)). l ++ s ∷ []) f.1 ∙ append_assoc e.events f.0 (s ∷ []),
    All-push (λ (y : Event T). handle_of y ≢ e.number) f.0 s f.2 (λ same. apart k d there (sym same ∙ is)),
  )

  -- the view of the handle that makes the step
  own_sits : (home : ℕ → ℕ) (port : ℕ) (h : List (Event T)) (s : Event T) (n : ℕ) (es : List (End T))
      → handle_of s ≡ port
      → Sits h home port (handle_view n es) → Sits (h ++ s ∷ []) home port (handle_view n (with_own es (h ++ s ∷ [])))
  own_sits home port h s n [] is sits = record { fits = λ k d there. absurd (omega arith); at = sits.at; own = tt }
  own_sits home port h s n (e ∷ es) is sits = record {
    fits = All-cons (FitsEnd (h ++ s ∷ [])) (handle_end e.number (h ++ s ∷ [])) es
        ([], sym (append-nil (h ++ s ∷ [])), All-nil (λ (y : Event T). handle_of y ≢ e.number))
        (fit_others port h s es is sits.own.1 (All-tail (FitsEnd h) e es sits.fits));
    at = All-cons (λ (o : End T). home o.number ≡ port) (handle_end e.number (h ++ s ∷ [])) es
        (sits.at 0 e (omega arith)) (All-tail (λ (o : End T). home o.number ≡ port) e es sits.at);
    own = sits.own;
  }

  -- the view of a handle that has made no step
  new_sits : (home : ℕ → ℕ) (port : ℕ) (h : List (Event T)) (i n : ℕ) → i ≡ port → home i ≡ port → NotBy i h
      → Sits h home port (new_view i n)
  new_sits home port h i n own at none = (search (arith, All-nil, All-cons))

  -- one more event, of this handle
  grown : (items rest : List T) (views : List (HandleView T)) (port : ℕ) (v : HandleView T) (e : Event T)
      (k : BenchKept items views)
      → get_elem? views port ≡ some v → handle_of e ≡ port → k.home port ≡ port → IsLawfulHistory (k.history ++ e ∷ [])
      → rest ≡ drop (got_count (k.history ++ e ∷ [])) (put_items (k.history ++ e ∷ []))
      → BenchKept rest (set views port (view_after v (k.history ++ e ∷ [])))
  grown items rest views port v e k at mine mineat lawful left =
      let h : List (Event T) = k.history ++ e ∷ [] in let w : HandleView T = view_after v h in
      let long : length (set views port w) ≡ length views = length-set views port w in record {
        history = h;
        home = k.home;
        lawful = lawful;
        left = left;
        ports = subst (λ n. AllByHandlesBelow n h) (sym long)
            (All-push (λ (y : Event T). handle_of y < length views) k.history e k.ports
            (let lt = at_lt views port v at in omega arith));
        fresh = λ i le. k.fresh i (omega arith);
        each = set_each (Sits h k.home) views port w
            (own_sits k.home port k.history e v.made v.ends mine (k.each port v at))
            (λ j u other there. let f = k.each j u there in record {
              fits = fit_others port k.history e u.ends mine (not_here k.home port j u.ends mineat other f.at) f.fits;
              at = f.at;
              own = f.own;
            });
        all_made = subst (λ n. (j : ℕ) (u : HandleView T) → get_elem? (set views port w) j ≡ some u → IsMaker n j u)
            (sym long) (set_each (IsMaker (length views)) views port w (k.all_made port v at)
            (λ j u _ there. k.all_made j u there));
      }

  -- a handle's own end has the number of the handle, and lies in its view
  own_at : (home : ℕ → ℕ) (port : ℕ) (h : List (Event T)) (n : ℕ) (es : List (End T)) → 0 < length es
      → Sits h home port (handle_view n es) → (own_number es ≡ port) × (home port ≡ port)
  own_at home port h n [] live sits = absurd (omega arith)
  own_at home port h n (e ∷ es) live sits = (sits.own.0, ap home (sym sits.own.0) ∙ sits.at 0 e (omega arith))

  pub moment : (items : List T) (views : List (HandleView T)) (port : ℕ) (v : HandleView T) (k : BenchKept items views)
      (at : get_elem? views port ≡ some v) → HasHistory v k.history
  moment items views port v k at = grind (arith, common_steps)

  pub pushes : (port : ℕ) (v : HandleView T) (x : T) → port ≡ 0 → 0 < length v.ends
      → Pushes BenchKept port v (x ∷ []) (PutsAll v (x ∷ []))
  pushes port v x zeroth live items views k at =
      let h : List (Event T) = k.history in let le = lawful_le 0 0 h (omega arith) k.lawful in
      let own = own_at k.home port h v.made v.ends live (k.each port v at) in (
        view_after v (h ++ Put x ∷ []),
        grown items (items ++ x ∷ []) views port v (Put x) k at (sym zeroth) own.1
            (lawful_append 0 0 h (Put x ∷ []) k.lawful (λ _ _ _ _. tt))
            (grind (arith, common_steps, k.left, puts_append, getters_append, append-nil, drop-append-le)),
        λ y e. let same : x ≡ y = cc (e) in (
          h,
          moment items views port v k at,
          ap (λ (z : T). view_after v (h ++ Put z ∷ [])) same,
        ),
      )

  pub takes : (port : ℕ) (v : HandleView T) → 0 < length v.ends → Takes BenchKept port v 1 (GetsAll v)
  takes port v live [] items views some_one one k at = absurd (omega arith)
  takes port v live (x ∷ []) items views some_one one k at =
      let h : List (Event T) = k.history in let d = dropped (put_items h) (got_count h) x items (sym k.left) in
      let own = own_at k.home port h v.made v.ends live (k.each port v at) in (
        view_after v (h ++ Got port ∷ []),
        grown (x ∷ items) items views port v (Got port) k at refl own.1
            (lawful_append 0 0 h (Got port ∷ []) k.lawful (λ q n e f. (let lt = d.2 in omega arith, tt)))
            (grind (arith, common_steps, d.1, puts_append, getters_append, append-nil, length-append)),
        λ y e. let same : x ≡ y = cc (e) in (
          h,
          moment (x ∷ items) views port v k at,
          d.0 ∙ ap (λ (z : T). Some z) same,
          ap (λ j. view_after v (h ++ Got j ∷ [])) (sym own.0),
        ),
      )
  takes port v live (x ∷ y ∷ xs) items views some_one one k at = absurd (omega arith)

  all_got : (port : ℕ) (v : HandleView T) (items : List T) (views : List (HandleView T)) → length items ≡ 0
      → BenchKept items views → get_elem? views port ≡ some v → AllGot v
  all_got port v items views none k at =
      let h : List (Event T) = k.history in let le = lawful_le 0 0 h (omega arith) k.lawful in
      let e : length items ≡ length (put_items h) - got_count h = ap (λ (l : List T). length l) k.left
      ∙ length-drop (got_count h) (put_items h) in
      (h, moment items views port v k at, omega arith)

  pub finds : (port : ℕ) (v : HandleView T) → Finds BenchKept port v (AllGot v)
  finds port v views k at = all_got port v [] views refl k at

  pub finds_few : (flavor port : ℕ) (v : HandleView T) → flavor ≡ 0
      → FindsFew BenchKept (min flavor 1) port v (AllGot v)
  finds_few flavor port v fifo items views few k at = all_got port v items views (omega arith) k at

  pub learns : (port : ℕ) (v : HandleView T) → Learns BenchKept port v (WereLeft v)
  learns port v items views k at = (k.history, moment items views port v k at, k.left)

  -- ---- a new thief

  pub forks : (port : ℕ) (v : HandleView T) → 0 < v.made
      → Forks BenchKept port v (owner_with_thief v) (new_thief_view v)
  forks port v owns items views k at =
      let l : HandleView T = owner_with_thief v in let r : HandleView T = new_thief_view v in
      let vs : List (HandleView T) = set views port l in
      let h : List (Event T) = k.history in
      let long : length vs ≡ length views = length-set views port l in
      let more : length (vs ++ r ∷ []) ≡ length views + 1 = (length-append vs (r ∷ [])) ∙ omega arith in
      let mine = k.each port v at in let m = k.all_made port v at owns in
      let made : v.made ≡ length views = m.1 in record {
        history = h;
        home = k.home;
        lawful = k.lawful;
        left = k.left;
        ports = λ i d there. let lt : handle_of (get_or h i d) < length views = k.ports i d there in omega arith;
        fresh = λ i le. k.fresh i (omega arith);
        each = snoc_each (Sits h k.home) vs r (set_each (Sits h k.home) views port l
            (record { fits = mine.fits; at = mine.at; own = mine.own }) (λ j u other there. k.each j u there))
            (new_sits k.home (length vs) h v.made 0 (made ∙ sym long) (k.fresh v.made (omega arith) ∙ made ∙ sym long)
            (λ i d there is. let lt : handle_of (get_or h i d) < length views = k.ports i d there in omega arith));
        all_made = snoc_each (IsMaker (length (vs ++ r ∷ []))) vs r
            (set_each (IsMaker (length (vs ++ r ∷ []))) views port l
            (λ _. let is : l.made ≡ v.made + 1 = refl in (m.0, omega arith))
            (λ j u other there some_made. absurd (other ((k.all_made j u there some_made).0 ∙ sym m.0))))
            (λ some_made. absurd (let none : r.made ≡ 0 = refl in omega arith));
      }

  -- ---- what the bodies need

  pub opened : BenchKept {T = T} [] (new_view 0 1 ∷ [])
  opened = record {
    history = [];
    home = λ i. i;
    lawful = tt;
    left = refl;
    ports = All-nil (λ (e : Event T). handle_of e < 1);
    fresh = λ i le. refl;
    each = snoc_each (Sits [] (λ i. i)) [] (new_view 0 1) (λ j u there. absurd (some-ne-none u (sym there)))
        (new_sits (λ i. i) 0 [] 0 1 refl refl (All-nil (λ (e : Event T). handle_of e ≢ 0)));
    all_made = grind (arith, common_steps, snoc_each);
  }

  numbers_own : (es : List (End T)) (h : List (Event T)) → numbers_of (with_own es h) ≡ numbers_of es
  numbers_own [] h = refl
  numbers_own (e ∷ es) h = refl

  keeps_after : (v w : HandleView T) (h : List (Event T)) → w ≡ view_after v h → KeepsHandles v w
  keeps_after v w h is = grind (arith, common_steps, numbers_own)

  keeps_same : (v w : HandleView T) → w ≡ v → KeepsHandles v w
  keeps_same v w is = grind (arith, common_steps)

  -- a put, a take and a steal keep the handles, whatever becomes of them
  pub put_keeps : (v w : HandleView T) (x : T) (X A B C : Type 0) (done : Result X T)
      → MatchResult done (λ _. PutsAll v (x ∷ []) w × A) (λ y. (y ≡ x) × (w ≡ v) × B × C) → KeepsHandles v w
  put_keeps v w x X A B C (Ok _) h = let p = h.0 x refl in keeps_after v w (p.0 ++ Put x ∷ []) p.2
  put_keeps v w x X A B C (Err y) h = keeps_same v w h.1

  pub take_keeps : (v w : HandleView T) (found : Option T)
      → MatchOption found ((w ≡ v) × AllGot v) (λ x. GetsAll v (x ∷ []) w) → KeepsHandles v w
  take_keeps v w None h = keeps_same v w h.0
  take_keeps v w (Some x) h = let g = h x refl in keeps_after v w (g.0 ++ Got (own_number v.ends) ∷ []) g.3

  pub steal_keeps : (v w : HandleView T) (P : Type 0) (found : Steal T)
      → MatchSteal found ((w ≡ v) × AllGot v) ((w ≡ v) × P) (λ x. GetsAll v (x ∷ []) w) → KeepsHandles v w
  steal_keeps v w P Empty h = keeps_same v w h.0
  steal_keeps v w P Retry h = keeps_same v w h.0
  steal_keeps v w P (Success x) h = let g = h x refl in
      keeps_after v w (g.0 ++ Got (own_number v.ends) ∷ []) g.3

  -- a view that has an end keeps one
  pub live_kept : (v w : HandleView T) → 0 < length v.ends → KeepsHandles v w → 0 < length w.ends
  live_kept v w live keeps = grind (arith, common_steps, length-map)

  -- where a steal came too late, that is all that became of it
  pub steal_late : (w v : HandleView T) (P : Type 0) (found : Steal T)
      → MatchSteal found ((w ≡ v) × AllGot v) ((w ≡ v) × P) (λ x. GetsAll v (x ∷ []) w) → found ≡ Retry → P
  steal_late w v P Empty h is = absurd (cc)
  steal_late w v P Retry h is = h.1
  steal_late w v P (Success x) h is = absurd (cc)
