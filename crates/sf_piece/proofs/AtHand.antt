-- The instruction at hand, the end, and the first piece.
use Rattle.sf_piece.proofs.Common.{common_steps, ◌≡◌, ℕ, zero, suc, ◌+◌, ◌-◌, ◌*◌, ◌<◌, ◌≤◌, ◌^◌, Bool, true, false, List, [], ◌∷◌, ◌++◌, length, map, reverse, get_or, Some, None, slice_get, refl, sym, ap, subst, ◌∙◌, arith, append-nil, length-drop, option_map, get_or-reverse, length-reverse, same_Some, slice_get-get_or, pow-le-pow_right, get_or_default, Input, IsInput, Insn, IsAt, IsLawfulStack, start, IsAnswer, answer_none, IsWholeRoute, load_is_set, newest_first, Node, NodeId, value_of, FactsView, Covers, Agrees, first_machine, PieceData, is_member, IsRightAnswer, concrete_state, number_from, StandsAt, IsPiece, HasAtHand, Const, node_at, started, value-constant, IsFirst, code_at}
use Rattle.std.proofs.Common.{Option}
use Rattle.sf_piece.proofs.Moves.{drop_cons, runs_whole, route_whole, starts_in, none_taken}
use Rattle.sf_piece.proofs.Kept.{some_input, none_set, pre_short}

unmap : (f : NodeId → ℕ) (ws : List (Option NodeId)) (k n : ℕ) → slice_get (map (option_map f) ws) k ≡ Some (Some n)
    → (w : NodeId) × (slice_get ws k ≡ Some (Some w))
unmap f [] k n e = absurd cc
unmap f (None ∷ ws) zero n e = let g : None ≡ Some n = same_Some None (Some n) e in absurd cc
unmap f (Some w ∷ ws) zero n e = (w, refl)
unmap f (w ∷ ws) (suc k) n e = unmap f ws k n e

number_small : (n : ℕ) (bs : List Bool) → number_from n bs < (n + 1) * 2 ^ length bs
number_small n [] = omega arith
number_small n (true ∷ bs) =
    let pow : 2 ^ suc (length bs) ≡ 2 * 2 ^ length bs = omega arith in
    rw pow (omega (arith, number_small (2 * n + 1) bs))
number_small n (false ∷ bs) =
    let pow : 2 ^ suc (length bs) ≡ 2 * 2 ^ length bs = omega arith in
    rw pow (omega (arith, number_small (2 * n + 0) bs))

pub pow_le : (k m : ℕ) → k ≤ m → 2 ^ k ≤ 2 ^ m
pow_le k m h = pow-le-pow_right {n = 2} (omega arith) h

-- how many programs are left
left_count : (p : PieceData) (rest : List (List Insn)) (base pre : List Bool) → StandsAt p rest base pre
    → length rest ≡ length p.stack - p.machine.program
left_count p rest base pre s = grind (arith, common_steps, length-drop, length-reverse)

-- where a program is left, the piece stands in the one that the stack has there
stands_in : (p : PieceData) (rest : List (List Insn)) (base pre : List Bool) → StandsAt p rest base pre
    → p.machine.program < length p.stack → (later : List (List Insn)) × StandsAt p (code_at p ∷ later) base pre
stands_in p [] base pre s running = absurd (let none = left_count p [] base pre s in omega arith)
stands_in p (code ∷ later) base pre s running =
    let first = (drop_cons p.machine.program (reverse p.stack) code later s.rest_is).0 in
    let is : code ≡ code_at p = search (arith, first, get_or-reverse) in
    (later, subst (λ (c : List Insn). StandsAt p (c ∷ later) base pre) is s)

pub at_hand : (p : PieceData) (i : Insn) → IsPiece p → p.machine.program < length p.stack
    → IsAt (code_at p) p.machine.place i → HasAtHand p i
at_hand p i h running at =
    let in_code = stands_in p h.rest h.base h.pre h.stands running in
    let s = in_code.1 in
    let safe = s.inside.safe some_input in
    let short = pre_short (code_at p) p.machine.place p.machine.taken h.pre s.inside.pending in
    record {
      code = code_at p;
      later = in_code.0;
      base = h.base;
      pre = h.pre;
      stands = s;
      at = at;
      here = (running, at);
      lawful = h.lawful;
      running = running;
      small = omega (arith, safe.inside, s.laws.0.short);
      in_range = s.laws.0.in_range p.machine.place i at;
      nodes = h.nodes;
      zero = λ d. value-constant p.pool d p.machine.zero.0 0 h.pool h.nodes.zero h.constant;
      set = λ k loads.
          let w = load_is_set (code_at p) (concrete_state p.pool p.machine some_input) i k s.laws.0 safe at loads in
          unmap (λ n. value_of p.pool some_input n.0) p.machine.scratch k w.0 w.1;
      taken = short.0;
      value = search (arith, number_small, pow_le);
    }

-- the place is in the program
pub place_inside : (p : PieceData) → IsPiece p → p.machine.program < length p.stack
    → p.machine.place < length (code_at p)
place_inside p h running = ((stands_in p h.rest h.base h.pre h.stands running).1.inside.safe some_input).inside

pub at_end : (p : PieceData) → IsPiece p → length p.stack ≤ p.machine.program → IsRightAnswer p p.name p.machine.so_far
at_end p h over = by h.rest h.stands
  where
    by : (rest : List (List Insn)) → StandsAt p rest h.base h.pre → IsRightAnswer p p.name p.machine.so_far
    by (code ∷ later) s = absurd (let some = left_count p (code ∷ later) h.base h.pre s in omega arith)
    by [] s =
        let name : p.name ≡ h.base ++ [] = s.name_is ∙ ap (λ (l : List Bool). h.base ++ l) s.inside in
        record {
          route = subst (IsWholeRoute p.stack) (sym name) (s.route [] refl);
          begins = ([], sym (append-nil p.name));
          trace = λ d inp member. ((s.runs d inp member).ends [] [] (refl, refl)).0 ∙ sym name;
          answers = λ d inp member.
              let all = ((s.runs d inp member).ends [] [] (refl, refl)).1 in
              subst (λ (l : List ℕ). IsAnswer l p.machine.so_far) (sym (all.1 ∙ append-nil all.0)) all.2;
        }

-- ---- the first piece

abbrev pub first_piece : List (List Insn) → List Node → NodeId → FactsView → PieceData
first_piece stack pool zero_id fs = record {
  stack = stack;
  name = [];
  pool = pool;
  conditions = [];
  machine = first_machine zero_id;
  facts = fs;
}

pub first_is : (stack : List (List Insn)) (pool : List Node) (zero_id : NodeId) (fs : FactsView) → IsLawfulStack stack
    → IsFirst stack (first_piece stack pool zero_id fs) → Covers fs pool
    → ((d : Input) → IsInput d → Agrees fs pool d) → IsPiece (first_piece stack pool zero_id fs)
unfolding is_member
first_is stack pool zero_id fs lawful first covers known = record {
  lawful = lawful;
  pool = first.pool;
  bounded = tt;
  nodes = record { a = within; x = within; zero = within; scratch = λ k w e. absurd (none_set 16 k w e) };
  constant = constant;
  carried = started first.pool first.facts refl;
  covers = covers;
  known = λ d inp member. known d inp;
  members = λ d inp. refl;
  rest = reverse stack;
  base = [];
  pre = [];
  stands = search (arith, at_start, newest_first, starts_in, route_whole, runs_whole, answer_none, none_taken);
}
  where
    within : zero_id.0 < length pool
    within = omega (arith, first.place, first.count)

    constant : node_at pool zero_id.0 ≡ Const 0
    constant = ap (λ (k : ℕ). node_at pool k) first.place ∙ first.zero

    at_start : (d : Input) → concrete_state pool (first_machine zero_id) d ≡ start
    at_start d = rw (value-constant pool d zero_id.0 0 first.pool within constant) refl

-- the program that the code lends
pub at_program : (stack lent : List (List Insn)) (n : ℕ) (p : List Insn) → lent ≡ stack → n < length lent
    → p ≡ get_or lent (length lent - 1 - n) p → p ≡ get_or stack (length stack - 1 - n) []
at_program stack lent n p same lt here = grind (arith, common_steps, get_or_default)

-- a program of a lawful stack isn't long
pub short_program : (stack : List (List Insn)) (n : ℕ) → IsLawfulStack stack → n < length stack
    → length (get_or stack (length stack - 1 - n) []) ≤ 4096
short_program stack n h lt = grind (arith, common_steps, slice_get-get_or)
