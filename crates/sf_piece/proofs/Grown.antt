-- Pieces whose pools have grown.
use Rattle.sf_piece.proofs.Common.{common_steps, ◌≡◌, ℕ, ◌<◌, ◌≤◌, Bool, List, [], ◌∷◌, ◌++◌, length, refl, sym, subst, ◌∙◌, arith, length-append, AllByRecursion, Input, Insn, IsReachable, Node, NodeId, Cond, Const, node_at, IsPool, value_of, values_of, node_value, IsCondBelow, FactsView, TakesIn, SymbolicMachine, PieceData, is_member, InProgram, AreNodesBelow, StandsAt, IsPiece, IsLawfulPiece, HasGrown, IsPushed, GrowsBy, get_or_append_left, Covers, Extends, IsNodeAt, IsPutIn, None, Some, State, ap, cases_lt, concrete_state, folded_node, inl, inr, is_met, length_push, list_all, option_map, suc, zero, map, value-older, ◌≢◌}
use Rattle.sf_dom.specs.SoundRules as sound
use Rattle.sf_piece.proofs.AtHand.{at_hand}
use Rattle.std.proofs.Common.{Option}
use Rattle.std.specs.Prelude.{slice_get}

-- ---- what a pool shows as it grows

scratch_same : (ws : List (Option NodeId)) (f g : NodeId → ℕ)
    → ((k : ℕ) (w : NodeId) → slice_get ws k ≡ Some (Some w) → f w ≡ g w)
    → map (option_map f) ws ≡ map (option_map g) ws
scratch_same [] f g h = refl
scratch_same (None ∷ ws) f g h = ap (λ (l : List (Option ℕ)). None ∷ l) (scratch_same ws f g (λ k w e. h (suc k) w e))
scratch_same (Some w ∷ ws) f g h =
    let rest : map (option_map f) ws ≡ map (option_map g) ws = scratch_same ws f g (λ k w e. h (suc k) w e) in
    let here : f w ≡ g w = h zero w refl in
    ap (λ (n : ℕ). Some n ∷ map (option_map f) ws) here ∙ ap (λ (l : List (Option ℕ)). Some (g w) ∷ l) rest

abbrev state : ℕ → ℕ → ℕ → List (Option ℕ) → State
state place a x scratch = record { place = place; a = a; x = x; scratch = scratch }

state_is : {p a a' x x' : ℕ} {s s' : List (Option ℕ)} → a ≡ a' → x ≡ x' → s ≡ s' → state p a x s ≡ state p a' x' s'
state_is e f g = cc

valued_grown : (pool added : List Node) (m : SymbolicMachine) (d : Input) → AreNodesBelow (length pool) m
    → concrete_state (pool ++ added) m d ≡ concrete_state pool m d
valued_grown pool added m d b =
    state_is (value-older pool added d m.a.0 b.a) (value-older pool added d m.x.0 b.x)
    (scratch_same m.scratch (λ n. value_of (pool ++ added) d n.0) (λ n. value_of pool d n.0)
    (λ k w e. value-older pool added d w.0 (b.scratch k w e)))

met_grown : (pool added : List Node) (d : Input) (c : Cond) → IsCondBelow (length pool) c
    → is_met (pool ++ added) d c ≡ is_met pool d c
met_grown pool added d c b = grind (arith, common_steps, value-older)

all_grown : (pool added : List Node) (d : Input) (cs : List Cond) → AllByRecursion (IsCondBelow (length pool)) cs
    → list_all (is_met (pool ++ added) d) cs ≡ list_all (is_met pool d) cs
all_grown pool added d [] b = refl
all_grown pool added d (c ∷ cs) b = grind (arith, common_steps, met_grown, all_grown pool added d cs b.1)

-- what a pool does when a node is pushed
pub put_in : (old new : List Node) (node : Node) (id : NodeId) → id.0 < length new
    → node_at new id.0 ≡ folded_node old node → Extends old new
    → ((i : ℕ) → i < length old → node_at old i ≡ folded_node old node → new ≡ old)
    → (((i : ℕ) → i < length old → node_at old i ≢ folded_node old node) → new ≡ old ++ folded_node old node ∷ [])
    → IsPutIn old node new id
put_in old new node id within kept extends again added = elim (cases_lt id.0 (length old)) [
  | inl l ↦
      let here : node_at old id.0 ≡ folded_node old node =
      sym (get_or_append_left old extends.0 (Const 0) id.0 l) ∙ ap (λ (ns : List Node). node_at ns id.0) (sym extends.1)
      ∙ kept in
      inl ((l, here), again id.0 l here)
  | inr g ↦
      let none : (other : NodeId) → ¬ IsNodeAt old (folded_node old node) other
      = λ other s. omega (arith, g, within, ap length (again other.0 s.0 s.1)) in
      let more : new ≡ old ++ folded_node old node ∷ []
      = added (λ i l e. omega (arith, g, within, ap length (again i l e))) in
      inr (none, omega (arith, g, within, ap length more, length_push old (folded_node old node)), more)
]

-- facts of a pool know no more nodes than a pool that goes on from it has
pub few_known : (f : FactsView) (old new : List Node) → Covers f old → Extends old new
    → length f.known ≤ length new
few_known f old new h x = omega (arith, h.count, ap length x.1, length-append old x.0)

-- ---- a grown piece

abbrev pub grown : PieceData → List Node → FactsView → PieceData
grown p added fs = record p { pool = p.pool ++ added; facts = fs }

below_le : (n m : ℕ) (cs : List Cond) → n ≤ m → AllByRecursion (IsCondBelow n) cs → AllByRecursion (IsCondBelow m) cs
below_le n m [] h b = tt
below_le n m (c ∷ cs) h b = ((omega (arith, b.0.0), omega (arith, b.0.1)), below_le n m cs h b.1)

pub nodes_le : (n m : ℕ) (k : SymbolicMachine) → n ≤ m → AreNodesBelow n k → AreNodesBelow m k
nodes_le n m k h b = grind (arith, common_steps)

pub members_grown : (p : PieceData) (added : List Node) (fs : FactsView) (d : Input)
    → AllByRecursion (IsCondBelow (length p.pool)) p.conditions → is_member (grown p added fs) d ≡ is_member p d
unfolding is_member
members_grown p added fs d b = all_grown p.pool added d p.conditions b

in_grown : (p : PieceData) (added : List Node) (rest : List (List Insn)) (pre : List Bool)
    → AreNodesBelow (length p.pool) p.machine → InProgram rest p.pool p.machine pre
    → InProgram rest (p.pool ++ added) p.machine pre
in_grown p added [] pre b h = h
in_grown p added (code ∷ later) pre b h = record {
  safe = λ d.
      subst (IsReachable code) (sym (valued_grown p.pool added p.machine d b)) (h.safe d);
  pending = h.pending;
}

pub stands_grown : (p : PieceData) (added : List Node) (fs : FactsView) (rest : List (List Insn)) (base pre : List Bool)
    → AllByRecursion (IsCondBelow (length p.pool)) p.conditions → AreNodesBelow (length p.pool) p.machine
    → StandsAt p rest base pre → StandsAt (grown p added fs) rest base pre
stands_grown p added fs rest base pre bounded b s = search (arith, in_grown, members_grown, valued_grown)

length_le : (p : PieceData) (added : List Node) → length p.pool ≤ length (p.pool ++ added)
length_le p added = omega (arith, length-append p.pool added)

pub grown_piece : (p : PieceData) (added : List Node) (fs : FactsView) → IsPiece p → IsPool (p.pool ++ added)
    → TakesIn p.facts fs p.pool (p.pool ++ added) → GrowsBy p.facts fs (p.pool ++ added) → IsPiece (grown p added fs)
grown_piece p added fs h pool takes grows = record {
  lawful = h.lawful;
  pool = pool;
  bounded = below_le (length p.pool) (length (p.pool ++ added)) p.conditions (length_le p added) h.bounded;
  nodes = nodes_le (length p.pool) (length (p.pool ++ added)) p.machine (length_le p added) h.nodes;
  constant = get_or_append_left p.pool added (Const 0) p.machine.zero.0 h.nodes.zero ∙ h.constant;
  carried = sound.grown p.facts p.pool h.carried pool (added, refl) grows;
  covers = takes.covers;
  known = λ d inp member. takes.keeps d inp (h.known d inp (sym (members_grown p added fs d h.bounded) ∙ member));
  members = λ d inp. members_grown p added fs d h.bounded ∙ h.members d inp;
  rest = h.rest;
  base = h.base;
  pre = h.pre;
  stands = stands_grown p added fs h.rest h.base h.pre h.bounded h.nodes h.stands;
}

pub has_grown : (p : PieceData) (added : List Node) (fs : FactsView) → IsPiece p → IsLawfulPiece (grown p added fs)
    → HasGrown p (grown p added fs)
has_grown p added fs h lawful = record {
  same = refl;
  members = λ d. members_grown p added fs d h.bounded;
  state = λ d. valued_grown p.pool added p.machine d h.nodes;
  standing = λ i s. at_hand (grown p added fs) i lawful.run s.here.0 s.here.1;
  nodes = lawful.run.nodes;
}

pub pushed : (p : PieceData) (added : List Node) (fs : FactsView) (node : Node) (id : NodeId) → IsPiece p
    → IsLawfulPiece (grown p added fs) → id.0 < length (p.pool ++ added)
    → ((d : Input) → value_of (p.pool ++ added) d id.0 ≡ node_value d (values_of p.pool d) node)
    → ((c : ℕ) → node ≡ Const c → node_at (p.pool ++ added) id.0 ≡ Const c) → IsPushed p node (grown p added fs) id
pushed p added fs node id h lawful within value constant = search (arith, has_grown)
