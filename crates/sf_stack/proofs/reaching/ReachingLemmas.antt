-- Which instructions paths come to, through a pass over the program.
use Rattle.sf_stack.proofs.Common.{common_steps, ◌≡◌, ◌⊎◌, inl, inr, ℕ, suc, ◌+◌, ◌<◌, Bool, true, false, List, [], ◌∷◌, ◌++◌, length, take, drop, get_or, set, refl, sym, ◌∙◌, arith, Contains, cases_eq, append-nil, take_all, get_or-set_same, get_or-set_other, length-set, drop_of_length-le, same_Some, slice_get-get_or, slice_get_within, Insn, successors, AllBelow, IsAt, IsLawfulProgram, IsPath, Leads, contains_cons, contains_nil, successor_after, successors_inside, AreReached, IsOnSomePath, with_found}

-- the instruction at a place was found
abbrev pub IsFound : List Bool → ℕ → Type 0
IsFound found at = get_or found at false ≡ true

-- ---- places that are set

length-with_found : (qs : List ℕ) (found : List Bool) → length (with_found qs found) ≡ length found
length-with_found [] found = refl
length-with_found (q ∷ qs) found = length-with_found qs (set found q true) ∙ length-set found q true

-- a place that is set, or was set, is set
set_at : (found : List Bool) (q k : ℕ) → q < length found → IsFound found k → IsFound (set found q true) k
set_at found q k inside h = grind (arith, common_steps, cases_eq, get_or-set_same, get_or-set_other)

-- what was set stays so
set_kept : (qs : List ℕ) (found : List Bool) (k : ℕ) → AllBelow (length found) qs → IsFound found k
    → IsFound (with_found qs found) k
set_kept [] found k inside h = h
set_kept (q ∷ qs) found k inside h =
    set_kept qs (set found q true) k (rw (length-set found q true) inside.1) (set_at found q k inside.0 h)

-- each of the places is set
set_there : (qs : List ℕ) (found : List Bool) (k : ℕ) → AllBelow (length found) qs → Contains qs k
    → IsFound (with_found qs found) k
set_there [] found k inside c = absurd (contains_nil k c)
set_there (q ∷ qs) found k inside c =
    let rest : AllBelow (length (set found q true)) qs = rw (length-set found q true) inside.1 in
    elim (contains_cons q qs k c) [
      | inl same ↦ set_kept qs (set found q true) k rest
          (rw (← same) (get_or-set_same found q true false inside.0))
      | inr later ↦ set_there qs (set found q true) k rest later
    ]

-- nothing else is
set_only : (qs : List ℕ) (found : List Bool) (k : ℕ) → IsFound (with_found qs found) k
    → IsFound found k ⊎ Contains qs k
set_only [] found k h = inl h
set_only (q ∷ qs) found k h = elim (set_only qs (set found q true) k h) [
  | inl before ↦ elim (cases_eq k q) [
    | inl same ↦ inr (0, omega arith, sym same)
    | inr other ↦ inl (sym (get_or-set_other found q k true false other) ∙ before)
  ]
  | inr (n, within, e) ↦ inr (suc n, omega arith, e)
]

-- ---- a pass over the program

-- What was found before the instruction at a place is passed: each one is right, and whatever one of them before that
-- place leads to was found.
pub record Passes (code : List Insn) (place : ℕ) (found : List Bool) : Type 0 where
  pub size : length found ≡ length code
  pub first : IsFound found 0
  pub right : (at : ℕ) → IsFound found at → IsOnSomePath code at
  pub passed : (at next : ℕ) → at < place → IsFound found at → Leads code at next → IsFound found next

-- an instruction that wasn't found is passed over
pub pass_over : (code : List Insn) (place : ℕ) (found : List Bool) → Passes code place found
    → get_or found place false ≡ false → Passes code (place + 1) found
pass_over code place found p off = record {
  size = p.size;
  first = p.first;
  right = p.right;
  passed = λ at next lt on leads. elim (cases_eq at place) [
    | inl same ↦ (let here = rw same at on in absurd (cc))
    | inr other ↦ p.passed at next (omega arith) on leads
  ];
}

-- from one that was found more are found
pub pass_on : (code : List Insn) (place : ℕ) (i : Insn) (old new : List Bool) → Passes code place old
    → IsFound old place → IsAt code place i → AllBelow (length old) (successors place i)
    → new ≡ with_found (successors place i) old → Passes code (place + 1) new
pass_on code place i old new p on here inside is =
    let next = successors place i in
    rw is (record {
      size = length-with_found next old ∙ p.size;
      first = set_kept next old 0 inside p.first;
      right = λ at h. elim (set_only next old at h) [
        | inl before ↦ p.right at before
        | inr led ↦ (let path = p.right place on in (place ∷ path.0, ((i, here, led), path.1)))
      ];
      passed = λ at q lt h leads. elim (cases_eq at place) [
        | inl same ↦ (let found = rw same at leads in
            let one : found.0 ≡ i = same_Some found.0 i (sym found.1 ∙ here) in
            set_there next old q inside (rw one at found.2))
        | inr other ↦ elim (set_only next old at h) [
          | inl before ↦ set_kept next old q inside (p.passed at q (omega arith) before leads)
          | inr led ↦ (let after = successor_after place i at led in absurd (omega arith))
        ]
      ];
    })

-- at the end just the instructions are found to which paths come
pub pass_ends : (code : List Insn) (found : List Bool) → Passes code (length code) found → AreReached code found
pass_ends code found p = record { count = p.size; reached = λ at. (p.right at, λ r. along at r.0 r.1) }
  where
    along : (at : ℕ) (earlier : List ℕ) → IsPath code (at ∷ earlier) → IsFound found at
    along at [] e = rw e p.first
    along at (before ∷ earlier) path =
        p.passed before at (slice_get_within code before path.0.0 path.0.1) (along before earlier path.1) path.0

-- what is read at a place of a lawful program stands there, and leads only to places of the program
pub read_there : (program code : List Insn) (place : ℕ) (d : Insn) → code ≡ program → IsLawfulProgram program
    → place < length code → IsAt code place (get_or code place d)
    × AllBelow (length code) (successors place (get_or code place d))
read_there program code place d same lawful within =
    grind (arith, common_steps, get_or, slice_get-get_or, successors_inside)

-- a list that was written back whole
pub written_whole : (n : ℕ) (new old : List Bool) → length new ≡ length old → n ≡ length old
    → take n (new ++ drop (length new) old) ≡ new
written_whole n new old same all = grind (arith, common_steps, drop, append-nil, take_all, drop_of_length-le)
