-- The pieces of an execution tree stay small. Each small step adds at most two nodes to a pool, and leaves less to do.
use Rattle.sf_piece.proofs.Common.{common_steps, length-append, ◌≡◌, ℕ, zero, suc, ◌+◌, ◌*◌, ◌^◌, ◌<◌, ◌≤◌, Bool, false, List, [], ◌∷◌, length, replicate, refl, sym, ap, subst, ◌∙◌, inl, inr, arith, if◌then◌else◌, nat_tests, length-replicate, slice_get_within, Insn, IsLawfulStack, route_is_short, Cond, SymbolicMachine, PieceData, IsTrulyNamed, with_machine, MovesTo, HasQuery, AfterTruthValue, with_sense, IsSide, code_at, IsAtHand, MakesOf, GoesOn, GoesOnFor, IsFirst, IsBelow, IsInTree, IsSmall, IsLawfulPiece, behind_chain, work_left}
use Rattle.std.specs.Prelude.{Some}
use Rattle.sf_piece.proofs.AtHand.{short_program}
use Rattle.sf_piece.proofs.Named.{computes_word, query_more, side_of}

-- ---- what is left to do

-- the instruction at hand is in its program
at_hand_small : (p : PieceData) (i : Insn) → IsLawfulStack p.stack → IsAtHand p i → p.machine.place < 4096
at_hand_small p i lawful at =
    let short : length (code_at p) ≤ 4096 = short_program p.stack p.machine.program lawful at.0 in
    omega (arith, short, slice_get_within (code_at p) p.machine.place i at.1)

moves_left : (p : PieceData) (i : Insn) (m : SymbolicMachine) → p.machine.program < length p.stack
    → p.machine.place < 4096 → MovesTo p.machine i m → work_left (with_machine p m) ≤ work_left p
moves_left p i m running small to = grind (arith, common_steps)

query_falls : (p r : PieceData) (i : Insn) (asked : PieceData × Cond) (b : Bool) (m : SymbolicMachine)
    → r.machine ≡ p.machine → p.machine.program < length p.stack → p.machine.place < 4096 → HasQuery p i (Some asked)
    → AfterTruthValue r i b m → work_left (with_machine p m) < work_left p
query_falls p r i asked b m same running small asks after = grind (arith, common_steps, nat_tests)

-- ---- the tree

-- Of the pieces of one stack: there are no more conditions than truth values, and what is left to do bounds the nodes
-- that may still come.
record IsCounted (stack : List (List Insn)) (p : PieceData) : Type 0 where
  stack_is : p.stack ≡ stack
  conditions : length p.conditions ≤ length p.name
  pool : length p.pool + 2 * work_left p ≤ 2 ^ 27

module _ (stack : List (List Insn)) (lawful : IsLawfulStack stack) where
  goes_counted : (p q : PieceData) → IsCounted stack p → GoesOn p q → IsCounted stack q
  goes_counted p q c (i, at, makes) = by makes
    where
      small : p.machine.place < 4096
      small = at_hand_small p i (subst IsLawfulStack (sym c.stack_is) lawful) at

      by : MakesOf p i q → IsCounted stack q
      by (inl (m, moves, same)) =
          let left = moves_left p i m at.0 small moves in
          subst (IsCounted stack) (sym same) (record {
            stack_is = c.stack_is;
            conditions = c.conditions;
            pool = omega (arith, left, c.pool);
          })
      by (inr (inl made)) =
          let w = computes_word p q i made in
          record {
            stack_is = w.stack ∙ c.stack_is;
            conditions = omega (arith, ap length w.conditions, ap length w.name, c.conditions);
            pool = omega (arith, small, ap length w.stack, w.pool, w.program, w.place, w.taken, c.pool);
          }
      by (inr (inr (asked, b, asks, only, named))) =
          let left = query_falls p p i asked b q.machine refl at.0 small asks named.machine in
          subst (IsCounted stack) (sym named.rest) (record {
            stack_is = c.stack_is;
            conditions = omega (arith, length-append p.name (b ∷ []), c.conditions);
            pool = omega (arith, left, c.pool);
          })

  goes_on_counted : (n : ℕ) (p q : PieceData) → IsCounted stack p → GoesOnFor n p q → IsCounted stack q
  goes_on_counted zero p q c h = subst (IsCounted stack) (sym h) c
  goes_on_counted (suc n) p q c h = goes_on_counted n h.0 q (goes_counted p h.0 c h.1) h.2

  side_counted : (p side : PieceData) (i : Insn) (asked : PieceData × Cond) (b : Bool) → IsCounted stack p
      → IsAtHand p i → HasQuery p i (Some asked) → IsSide asked i b side → IsCounted stack side
  side_counted p side i asked b c at asks h =
      let small = at_hand_small p i (subst IsLawfulStack (sym c.stack_is) lawful) at in
      let more = query_more p i asked asks in
      let machine : asked.0.machine ≡ p.machine = ap (λ (r : PieceData). r.machine) more.rest in
      let left = query_falls p asked.0 i asked b side.machine machine at.0 small asks h.machine in
      let of : side.stack ≡ p.stack = ap (λ (r : PieceData). r.stack) h.rest ∙ ap (λ (r : PieceData). r.stack) more.rest
      in
      record {
        stack_is = of ∙ c.stack_is;
        conditions = omega (
          arith,
          ap (λ (r : PieceData). length r.conditions) h.rest,
          ap (λ (r : PieceData). length r.name) h.rest,
          length-append asked.0.conditions (with_sense asked.1 b ∷ []),
          length-append asked.0.name (b ∷ []),
          ap (λ (r : PieceData). length r.conditions) more.rest,
          ap (λ (r : PieceData). length r.name) more.rest,
          c.conditions,
        );
        pool = omega (
          arith,
          ap length of,
          ap (λ (r : PieceData). length r.pool) h.rest,
          more.pool,
          left,
          c.pool,
        );
      }

  below_counted : (sides : List Bool) (r p : PieceData) → IsCounted stack r → IsBelow sides r p → IsCounted stack p
  below_counted [] r p c h = subst (IsCounted stack) (sym h) c
  below_counted (b ∷ bs) r p c (f, t, (n, q, goes, ends), below) =
      let s = ends.0 in
      below_counted bs (if b then t else f) p (side_counted q (if b then t else f) s.0 s.1 b
      (goes_on_counted n r q c goes) s.2 s.3 (side_of q f t s b)) below

  first_counted : (p : PieceData) → IsFirst stack p → IsCounted stack p
  first_counted p h = grind (arith, common_steps)

-- each piece of the tree of a lawful stack is small, and so is what it becomes
pub small_piece : (p q : PieceData) (n : ℕ) → IsLawfulStack p.stack → IsInTree p → GoesOnFor n p q → IsTrulyNamed q
    → IsSmall q
small_piece p q n lawful reached goes named =
    let start = below_counted p.stack lawful reached.sides reached.first p
    (first_counted p.stack lawful reached.first reached.starts) reached.below in
    let c = goes_on_counted p.stack lawful n p q start goes in
    record {
      name = route_is_short q.stack q.name (subst IsLawfulStack (sym c.stack_is) lawful) named.route;
      conditions = c.conditions;
      pool = omega (arith, c.pool);
    }

-- the name of a lawful piece is short
pub short_name : (p : PieceData) → IsLawfulPiece p → length p.name ≤ 32768 + 32 * 64
short_name p h = route_is_short p.stack p.name h.run.lawful h.named.route

-- so is its name with the falses of a chain
pub chain_fits : (p : PieceData) (n place : ℕ) → IsLawfulPiece (behind_chain p n place)
    → length p.name + n ≤ 32768 + 32 * 64
chain_fits p n place h =
    omega (
      arith,
      short_name (behind_chain p n place) h,
      length-append p.name (replicate n false),
      length-replicate n false,
    )
