-- Pieces on lease through a turn.
use Rattle.sf_crew.proofs.Common.{common_steps, ◌≡◌, ℕ, ◌<◌, ◌==◌, Bool, true, false, true≢false, not, cond, List, [], ◌∷◌, ◌++◌, length, map, Option, Some, None, MatchOption, MatchBool, eq-eqb, refl, ◌∙◌, ap, arith, inl, eqb-true, nat_tests, arc_value, All-head, All-tail, All-append, All-cons, All-nil, All-map, All-weaker, PieceData, StepData, WorkData, Split, Settled, Empty, OutstandingData, BookData, IsLawfulBook, IsOutstanding, Lease, IsExhausted, IsFree, MayWork, TakesTurn, outstanding_at, with_lease_at, with_lease, without, CommitsAs, Leases, MayCommit, Refuses, Fault, Foreign, Stale, Spent, Memory, all_at, leased_at}
use Rattle.std.specs.List.{All}

-- where something is outstanding, a book is exhausted where its commits are spent, and only there
pub exhausted_by_commits : (s : BookData) → (length s.outstanding ≡ 0 → ⊥)
    → MatchBool (s.commits == s.budget) (IsExhausted s) (¬ IsExhausted s)
exhausted_by_commits s some = grind (arith, common_steps, true≢false, eq-eqb, eqb-true)

abbrev Free : OutstandingData → Type 0
Free e = e.leased ≡ false

pub none_left : (es : List OutstandingData) → IsFree es → All (λ e. e.leased ≡ true) es → es ≡ []
none_left [] h k = refl
none_left (e ∷ es) h k = grind (arith, common_steps, All-head)

marked_free : (i : ℕ) (e : OutstandingData) → e.leased ≡ false → (with_lease_at i false e).leased ≡ false
marked_free i e h = elim (e.id == i) as (λ b. cond b false e.leased ≡ false) [ true ↦ refl | false ↦ h ]

left_free : (id : ℕ) (es : List OutstandingData) → IsFree es → IsFree (without id (map (with_lease_at id true) es))
left_free id [] h = All-nil Free
left_free id (e ∷ es) h =
    grind (arith, common_steps, not, cond, All-head, All-tail, All-cons, Free, left_free id es (All-tail Free e es h))

-- ---- a lease of the first piece, where none was on lease

leased_there : (es : List OutstandingData) (id : ℕ) (p : PieceData)
    → outstanding_at id es ≡ Some (record { id = id; piece = p; leased = false })
    → outstanding_at id (map (with_lease_at id true) es) ≡ Some (record { id = id; piece = p; leased = true })
leased_there es id p at =
    let same : (id == id) ≡ true = grind (arith, nat_tests) in
    leased_at es id (record { id = id; piece = p; leased = false }) at
    ∙ ap (λ (b : Bool). Some (record { id = id; piece = p; leased = cond b true false })) same

may_work : (b c : BookData) (x : Lease) → IsFree b.outstanding → b.commits < b.budget
    → Leases b x.id (arc_value x.piece) c → MayWork c x
may_work b c x h room l = grind (arith, common_steps, leased_there, left_free)

-- the piece that is leased is of the book's stack
pub leased_of : (b c : BookData) (x : Lease) → IsLawfulBook b → Leases b x.id (arc_value x.piece) c
    → (arc_value x.piece).stack ≡ b.stack
leased_of b c x h l =
    let e : OutstandingData = record { id = x.id; piece = arc_value x.piece; leased = false } in
    let o : IsOutstanding b.stack e = all_at (IsOutstanding b.stack) b.outstanding x.id e h.outstanding l.there in
    o.of

-- the piece that was leased may be worked within the budget; where there is none, nothing is outstanding
pub leased_or_end : (b c : BookData) (l : Option Lease) → IsFree b.outstanding → b.commits < b.budget
    → MatchOption l ((c ≡ b) × All (λ e. e.leased ≡ true) b.outstanding) (λ x. Leases b x.id (arc_value x.piece) c)
    → MatchOption l (IsExhausted c) (λ x. MayWork c x)
leased_or_end b c None free room h = rw h.0 (inl (none_left b.outstanding free h.1))
leased_or_end b c (Some x) free room h = may_work b c x free room h

-- ---- a commit of the leased piece's work

-- the work is of the book's stack, and of the piece under the lease's id
pub may_commit : (b : BookData) (x : Lease) (w : WorkData) → IsLawfulBook b → MayWork b x
    → w.piece ≡ arc_value x.piece → MayCommit b x.id w
may_commit b x w h m is =
    let e : OutstandingData = record { id = x.id; piece = arc_value x.piece; leased = true } in
    let o : IsOutstanding b.stack e = all_at (IsOutstanding b.stack) b.outstanding x.id e h.outstanding m.there in
    (search arith)

-- a commit that may be made within the budget is refused nothing but memory
pub only_memory : (b : BookData) (id : ℕ) (w : WorkData) (f : Fault) → MayCommit b id w → b.commits < b.budget
    → Refuses b id w f → f ≡ Memory
only_memory b id w Foreign m room h = absurd (h m.same_stack)
only_memory b id w Stale m room h = grind (arith, common_steps)
only_memory b id w Spent m room h = absurd (let spent = h.1 in omega arith)
only_memory b id w Memory m room h = refl

-- ---- a turn, at whose end the children of a split are given back

-- given back under its id, a piece is on lease no more
given_back : (e : OutstandingData) → (with_lease_at e.id false e).leased ≡ false
given_back e = let same : (e.id == e.id) ≡ true = grind (arith, nat_tests) in rw same refl

-- both children are given back
children_free : (es : List OutstandingData) (i j : ℕ) (f t : PieceData) → IsFree es
    → IsFree (map (with_lease_at j false) (map (with_lease_at i false)
    (es ++ record { id = i; piece = f; leased = true } ∷ record { id = j; piece = t; leased = true } ∷ [])))
children_free es i j f t free =
    let F : OutstandingData = record { id = i; piece = f; leased = true } in
    let T : OutstandingData = record { id = j; piece = t; leased = true } in
    let Q : OutstandingData → Type 0 = λ e. Free (with_lease_at j false (with_lease_at i false e)) in
    All-map Free (with_lease_at j false) (map (with_lease_at i false) (es ++ F ∷ T ∷ []))
    (All-map (λ (e : OutstandingData). Free (with_lease_at j false e)) (with_lease_at i false) (es ++ F ∷ T ∷ [])
    (All-append Q es (F ∷ T ∷ [])
    (All-weaker Free Q (λ e h. marked_free j (with_lease_at i false e) (marked_free i e h)) es free)
    (All-cons Q F (T ∷ []) (marked_free j (with_lease_at i false F) (given_back F))
    (All-cons Q T [] (given_back (with_lease_at i false T)) (All-nil Q)))))

pub split_turn : (b c : BookData) (x : Lease) (i j : ℕ) (p : PieceData) (n : List Bool) (s : StepData) → MayWork b x
    → CommitsAs b x.id p n s (Some (i, j)) c
    → TakesTurn b (record c { outstanding = map (with_lease_at j false) (map (with_lease_at i false) c.outstanding) })
split_turn b c x i j p n (Split f t) m k =
    rw k.1 (record { commits = refl; free = children_free (without x.id b.outstanding) i j f t m.others })
split_turn b c x i j p n (Settled a) m k = absurd k
split_turn b c x i j p n Empty m k = absurd k

pub other_turn : (b c : BookData) (x : Lease) (p : PieceData) (n : List Bool) (s : StepData) → MayWork b x
    → CommitsAs b x.id p n s None c → TakesTurn b c
other_turn b c x p n (Split f t) m k = absurd k
other_turn b c x p n (Settled a) m k = rw k (record { commits = refl; free = m.others })
other_turn b c x p n Empty m k = rw k (record { commits = refl; free = m.others })

pub recalled_free : (es : List OutstandingData) → IsFree (map (with_lease false) es)
recalled_free es = All-map Free (with_lease false) es (λ k d l. refl)
