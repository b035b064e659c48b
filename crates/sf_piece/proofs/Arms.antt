-- The instructions that meet nothing, one by one.
use Rattle.sf_piece.proofs.Common.{common_steps, arith, ◌≡◌, ℕ, zero, suc, ◌+◌, ◌<◌, List, [], ◌∷◌, length, map, Some, slice_get, refl, sym, ap, ◌∙◌, inl, option_map, slice_set, length-map, same_Some, Input, Insn, LoadScratch, LoadXScratch, StoreA, StoreX, goes, insn_progress, Node, NodeId, value_of, SymbolicMachine, on, updated, PieceData, concrete_state, AreNodesBelow, GoesTo, GoesBy, Sets, IsPushed, HasAtHand, slice_get-map, Register, A, Load}
use Rattle.std.proofs.Common.{Option}
use Rattle.sf_piece.specs.declared.machine.Register.TheVariants.{X}
use Rattle.sf_piece.proofs.Kept.{some_input}

-- the machine at a place of the same program, with these words
abbrev moved : SymbolicMachine → ℕ → NodeId → NodeId → List (Option NodeId) → SymbolicMachine
moved m place a x scratch = record m { place = place; a = a; x = x; scratch = scratch; taken = 0; value = 0 }

goes_to : (p : PieceData) (i : Insn) (place : ℕ) (a x : NodeId) (scratch : List (Option NodeId))
    → a.0 < length p.pool → x.0 < length p.pool → p.machine.zero.0 < length p.pool
    → ((k : ℕ) (w : NodeId) → slice_get scratch k ≡ Some (Some w) → w.0 < length p.pool)
    → GoesBy p i (moved p.machine place a x scratch) → GoesTo p i (moved p.machine place a x scratch)
goes_to p i place a x scratch a_below x_below zero_below scratch_below run = grind (arith, common_steps)

pub set_goes : (p : PieceData) (i : Insn) (to : Register) (node : Node) (q : PieceData) (id : NodeId)
    → IsPushed p node q id → Sets p i to node → GoesTo q i (updated q.machine (Load to id))
set_goes p i A node q id h sets = search (arith, goes_to)
set_goes p i X node q id h sets = search (arith, goes_to)

-- ---- moves

pub sixteen_scratch_words : (p : PieceData) (i : Insn) → HasAtHand p i → length p.machine.scratch ≡ 16
sixteen_scratch_words p i s =
    sym (length-map p.machine.scratch (option_map (λ (n : NodeId). value_of p.pool some_input n.0)))
    ∙ (s.stands.inside.safe some_input).sixteen

map_at : (f : NodeId → ℕ) (ws : List (Option NodeId)) (k : ℕ) (w : NodeId) → slice_get ws k ≡ Some (Some w)
    → slice_get (map (option_map f) ws) k ≡ Some (Some (f w))
map_at f ws k w e = slice_get-map (option_map f) ws k ∙ ap (option_map (option_map f)) e

map_set : (f : NodeId → ℕ) (ws : List (Option NodeId)) (k : ℕ) (w : NodeId)
    → map (option_map f) (slice_set ws k (Some w)) ≡ slice_set (map (option_map f) ws) k (Some (f w))
map_set f [] k w = refl
map_set f (o ∷ ws) zero w = refl
map_set f (o ∷ ws) (suc k) w = ap (λ (l : List (Option ℕ)). option_map f o ∷ l) (map_set f ws k w)

pub set_below : (n : ℕ) (ws : List (Option NodeId)) (j : ℕ) (v : NodeId)
    → ((k : ℕ) (w : NodeId) → slice_get ws k ≡ Some (Some w) → w.0 < n) → v.0 < n → (k : ℕ) (w : NodeId)
    → slice_get (slice_set ws j (Some v)) k ≡ Some (Some w) → w.0 < n
set_below n [] j v h l k w e = absurd cc
set_below n (o ∷ ws) zero v h l zero w e = grind (arith, common_steps, same_Some)
set_below n (o ∷ ws) zero v h l (suc k) w e = h (suc k) w e
set_below n (o ∷ ws) (suc j) v h l zero w e = h zero w e
set_below n (o ∷ ws) (suc j) v h l (suc k) w e = set_below n ws j v (λ i x y. h (suc i) x y) l k w e

pub load_goes : (p : PieceData) (k : ℕ) (w : NodeId) → AreNodesBelow (length p.pool) p.machine
    → slice_get p.machine.scratch k ≡ Some (Some w) → GoesTo p (LoadScratch k) (record (on p.machine) { a = w })
load_goes p k w b at = goes_to p (LoadScratch k) (p.machine.place + 1) w p.machine.x p.machine.scratch
    (b.scratch k w at) b.x b.zero b.scratch
    (inl (λ d. rw (map_at (λ n. value_of p.pool d n.0) p.machine.scratch k w at) refl))

pub load_x_goes : (p : PieceData) (k : ℕ) (w : NodeId) → AreNodesBelow (length p.pool) p.machine
    → slice_get p.machine.scratch k ≡ Some (Some w) → GoesTo p (LoadXScratch k) (record (on p.machine) { x = w })
load_x_goes p k w b at = goes_to p (LoadXScratch k) (p.machine.place + 1) p.machine.a w p.machine.scratch
    b.a (b.scratch k w at) b.zero b.scratch
    (inl (λ d. rw (map_at (λ n. value_of p.pool d n.0) p.machine.scratch k w at) refl))

-- an instruction that stores the value of a node
stored_goes : (p : PieceData) (i : Insn) (k : ℕ) (v : NodeId) → AreNodesBelow (length p.pool) p.machine
    → v.0 < length p.pool
    → ((d : Input) → insn_progress d (concrete_state p.pool p.machine d) i
    ≡ goes [] (record (concrete_state p.pool p.machine d) {
      place = p.machine.place + 1;
      scratch = slice_set (concrete_state p.pool p.machine d).scratch k (Some (value_of p.pool d v.0));
    })) → GoesTo p i (record (on p.machine) { scratch = slice_set p.machine.scratch k (Some v) })
stored_goes p i k v b below steps = goes_to p i (p.machine.place + 1) p.machine.a p.machine.x
    (slice_set p.machine.scratch k (Some v)) b.a b.x b.zero
    (set_below (length p.pool) p.machine.scratch k v b.scratch below)
    (inl (λ d. steps d ∙ ap (λ (l : List (Option ℕ)).
    goes [] (record (concrete_state p.pool p.machine d) { place = p.machine.place + 1; scratch = l }))
    (sym (map_set (λ n. value_of p.pool d n.0) p.machine.scratch k v))))

pub store_goes : (p : PieceData) (k : ℕ) → AreNodesBelow (length p.pool) p.machine
    → GoesTo p (StoreA k) (record (on p.machine) { scratch = slice_set p.machine.scratch k (Some p.machine.a) })
store_goes p k b = stored_goes p (StoreA k) k p.machine.a b b.a (λ d. refl)

pub store_x_goes : (p : PieceData) (k : ℕ) → AreNodesBelow (length p.pool) p.machine
    → GoesTo p (StoreX k) (record (on p.machine) { scratch = slice_set p.machine.scratch k (Some p.machine.x) })
store_x_goes p k b = stored_goes p (StoreX k) k p.machine.x b b.x (λ d. refl)
