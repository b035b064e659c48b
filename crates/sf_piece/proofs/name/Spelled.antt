-- Names by their runs of false: what is added to one, and how two compare.
use Rattle.sf_piece.proofs.Common.{common_steps, ◌≡◌, ℕ, zero, suc, ◌+◌, ◌<◌, ◌≤◌, Bool, true, false, List, [], ◌∷◌, ◌++◌, length, length-append, replicate, refl, sym, ap, ◌∙◌, arith, append_assoc, take, get_or, Ordering, Reverse, Less, bool_cmp, nat_cmp, ordering_then, slice_cmp, nat_tests, take_more, length-replicate, replicate-append-replicate, spelled}
use Rattle.std.specs.declared.cmp.Ordering.TheVariants.{Equal, Greater}

-- ---- what is added

-- one run more
pub run_more : (runs : List (Reverse ℕ)) (run : Reverse ℕ) → spelled (runs ++ run ∷ []) 0
    ≡ spelled runs run.0 ++ true ∷ []
run_more [] run = refl
run_more (m ∷ runs) run = grind (arith, common_steps, replicate, append_assoc, run_more runs run)

-- so many falses more
pub falses_more : (runs : List (Reverse ℕ)) (m n : ℕ) → spelled runs (m + n) ≡ spelled runs m ++ replicate n false
falses_more [] m n = sym (replicate-append-replicate m n false)
falses_more (k ∷ runs) m n = grind (arith, common_steps, replicate, append_assoc, falses_more runs m n)

-- a name's runs, and then the falses at its end
pub with_rest : (runs : List (Reverse ℕ)) (n : ℕ) → spelled runs n ≡ spelled runs 0 ++ replicate n false
with_rest runs n = let e : n ≡ 0 + n = omega arith in ap (λ k. spelled runs k) e ∙ falses_more runs 0 n

-- values with the run at a place more
pub with_run : (runs : List (Reverse ℕ)) (i : ℕ) (run : Reverse ℕ) (xs ys : List Bool) → i < length runs
    → ys ≡ xs ++ spelled (take i runs) 0
    → (ys ++ replicate (get_or runs i run).0 false) ++ true ∷ [] ≡ xs ++ spelled (take (i + 1) runs) 0
with_run runs i run xs ys l so_far = grind (arith, common_steps, take_more, run_more, with_rest, append_assoc)

-- the falses at a name's end are some of its truth values
pub rest_within : (runs : List (Reverse ℕ)) (n : ℕ) → n ≤ length (spelled runs n)
rest_within [] n = omega (arith, length-replicate n false)
rest_within (m ∷ runs) n = grind (arith, common_steps, length-append, replicate, rest_within runs n)

-- ---- how two compare

abbrev cmp : List Bool → List Bool → Ordering
cmp xs ys = slice_cmp bool_cmp xs ys

at_less : (m n : ℕ) → m < n → nat_cmp m n ≡ Less
at_less m n h = grind (arith, nat_tests)

at_greater : (m n : ℕ) → n < m → nat_cmp m n ≡ Greater
at_greater m n h = grind (arith, nat_tests)

-- the one whose true comes first is behind the other
by_falses : (m n : ℕ) (xs ys : List Bool)
    → cmp (replicate m false ++ true ∷ xs) (replicate n false ++ true ∷ ys) ≡ ordering_then (nat_cmp n m) (cmp xs ys)
by_falses zero zero xs ys = refl
by_falses zero (suc n) xs ys = rw (at_greater (suc n) 0 (omega arith)) refl
by_falses (suc m) zero xs ys = rw (at_less 0 (suc m) (omega arith)) refl
by_falses (suc m) (suc n) xs ys = grind (arith, common_steps, nat_tests, by_falses m n xs ys)

-- falses without a true are before what has one
falses_before : (m n : ℕ) (ys : List Bool) → cmp (replicate m false) (replicate n false ++ true ∷ ys) ≡ Less
falses_before zero zero ys = refl
falses_before zero (suc n) ys = refl
falses_before (suc m) zero ys = refl
falses_before (suc m) (suc n) ys = falses_before m n ys

falses_behind : (m n : ℕ) (xs : List Bool) → cmp (replicate m false ++ true ∷ xs) (replicate n false) ≡ Greater
falses_behind zero zero xs = refl
falses_behind (suc m) zero xs = refl
falses_behind zero (suc n) xs = refl
falses_behind (suc m) (suc n) xs = falses_behind m n xs

falses_both : (m n : ℕ) → cmp (replicate m false) (replicate n false) ≡ nat_cmp m n
falses_both zero zero = refl
falses_both zero (suc n) = sym (at_less 0 (suc n) (omega arith))
falses_both (suc m) zero = sym (at_greater (suc m) 0 (omega arith))
falses_both (suc m) (suc n) = grind (arith, common_steps, nat_tests, falses_both m n)

-- the first run that differs decides, and else what is behind the runs of one of them
pub by_runs : (ls rs : List (Reverse ℕ)) (m n : ℕ)
    → cmp (spelled ls m) (spelled rs n)
    ≡ ordering_then (slice_cmp (λ l r. nat_cmp r.0 l.0) ls rs) (nat_cmp m n)
by_runs [] [] m n = falses_both m n
by_runs [] (r ∷ rs) m n = falses_before m r.0 (spelled rs n)
by_runs (l ∷ ls) [] m n = falses_behind l.0 n (spelled ls m)
by_runs (l ∷ ls) (r ∷ rs) m n =
    by_falses l.0 r.0 (spelled ls m) (spelled rs n)
    ∙ ap (λ o. ordering_then (nat_cmp r.0 l.0) o) (by_runs ls rs m n)
    ∙ then_twice (nat_cmp r.0 l.0) (slice_cmp (λ l r. nat_cmp r.0 l.0) ls rs) (nat_cmp m n)
  where
    then_twice : (a b c : Ordering) → ordering_then a (ordering_then b c) ≡ ordering_then (ordering_then a b) c
    then_twice Less b c = refl
    then_twice Equal b c = refl
    then_twice Greater b c = refl
