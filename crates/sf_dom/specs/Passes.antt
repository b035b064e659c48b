-- Forward passes, when one changes nothing, and how newer nodes are taken in.
use Rattle.std.specs.Prelude.{◌≡◌, ℕ, zero, suc, ◌+◌, ◌-◌, ◌<◌, ◌≤◌, ◌⊎◌, Bool, true, false, ◌&&◌, if◌then◌else◌, List, [], ◌∷◌, ◌++◌, length, take, slice_index, Option, MatchOption}
use Rattle.sf_dom.specs.Common.{node_at, Node, Const, Word, Bin, Neg, Known}
use Rattle.sf_dom.specs.Known.{IsNarrower, is_decided}
use Rattle.sf_dom.specs.Reading.{known_at}
use Rattle.sf_dom.specs.Rules.{met, forward_node, IsClosed, IsClosedAt, IsReduction, HasNoReduction}

-- what a forward pass leaves of the node at a place: what was known of it, met with what follows from its operands as
-- the pass left them, and reduced
abbrev pub IsPassedAt : List Known → List Known → List ℕ → List Node → ℕ → Type 0
IsPassedAt old new ex ns i =
    IsReduction ex i (met (known_at old i) (forward_node new (node_at ns i))) (known_at new i)

-- a forward pass over all nodes
pub record IsPass (old new : List Known) (ex : List ℕ) (ns : List Node) : Type 0 where
  pub count : length new ≡ length ns
  pub each : (i : ℕ) → i < length ns → IsPassedAt old new ex ns i

-- A forward pass fails at a node: what was known of it contradicts what follows from its operands as the pass left
-- them. All nodes before it have been passed.
pub record PassFails (old : List Known) (ex : List ℕ) (ns : List Node) : Type 0 where
  pub new : List Known
  pub place : ℕ
  pub within : place < length ns
  pub before : (k : ℕ) → k < place → IsPassedAt old new ex ns k
  pub none : HasNoReduction ex place (met (known_at old place) (forward_node new (node_at ns place)))

-- what a forward pass gives: what is known of all nodes after it, or nothing where it fails
abbrev pub PassGives : List Known → List ℕ → List Node → Option (List Known) → Type 0
PassGives old ex ns r = MatchOption r (PassFails old ex ns) (λ new. IsPass old new ex ns)

-- all that follows for the node at a place from its operands is known of it
abbrev pub IsStill : List Known → List Node → ℕ → Type 0
IsStill ks ns i = IsNarrower (forward_node ks (node_at ns i)) (known_at ks i)

-- Newer nodes are taken in: of each of them what follows from its operands, reduced. The older nodes stay as they are.
pub record AreTakenIn (old new : List Known) (ex : List ℕ) (ns : List Node) : Type 0 where
  pub count : length new ≡ length ns
  pub kept : take (length old) new ≡ old
  pub each : (i : ℕ) → length old ≤ i → i < length ns
      → IsReduction ex i (forward_node new (node_at ns i)) (known_at new i)

-- once the newer nodes before it are taken in, what follows for a newer node from its operands contradicts itself
pub record TakingInFails (old : List Known) (ex : List ℕ) (ns : List Node) : Type 0 where
  pub new : List Known
  pub place : ℕ
  pub newer : length old ≤ place
  pub within : place < length ns
  pub kept : take (length old) new ≡ old
  pub before : (i : ℕ) → length old ≤ i → i < place
      → IsReduction ex i (forward_node new (node_at ns i)) (known_at new i)
  pub none : HasNoReduction ex place (forward_node new (node_at ns place))

-- what it gives to take in newer nodes: what is known of all nodes then, or nothing where one fails
abbrev pub TakingInGives : List Known → List ℕ → List Node → Option (List Known) → Type 0
TakingInGives old ex ns r = MatchOption r (TakingInFails old ex ns) (λ new. AreTakenIn old new ex ns)

-- nothing more follows for the node at a place, neither by itself nor from its operands
pub record IsAtRest (ks : List Known) (ex : List ℕ) (ns : List Node) (i : ℕ) : Type 0 where
  pub closed : IsClosedAt ex i (known_at ks i)
  pub still : IsStill ks ns i

-- something is known of each node of a pool, and nothing more follows from it by itself
pub record AreClosed (ks : List Known) (ns : List Node) : Type 0 where
  pub count : length ks ≡ length ns
  pub each : (i : ℕ) → i < length ns → IsClosed (known_at ks i)

-- whether a node is a constant, or an operation on operands that have only one number each
abbrev pub are_all_decided : List Known → Node → Bool
are_all_decided ks (Const c) = true
are_all_decided ks (Word i) = false
are_all_decided ks (Bin op a b) = is_decided (known_at ks a.0) && is_decided (known_at ks b.0)
are_all_decided ks (Neg a) = is_decided (known_at ks a.0)

-- the places of the variables with those of the next nodes from a place on, so many of them: a node that is taken in is
-- a variable, unless it and all its operands have only one number each
abbrev pub variables_to : List ℕ → List Known → List Node → ℕ → ℕ → List ℕ
variables_to places ks ns from zero = places
variables_to places ks ns from (suc n) =
    if are_all_decided ks (node_at ns (from + n)) && is_decided (known_at ks (from + n))
    then variables_to places ks ns from n else variables_to places ks ns from n ++ (from + n) ∷ []

-- the places of the variables, once the newer nodes of a pool are taken in
abbrev pub variables_after : List ℕ → List Known → List Known → List Node → List ℕ
variables_after places old new ns = variables_to places new ns (length old) (length ns - length old)

-- no forward pass makes more known of the node at a place: its operands have only one number each, and all that follows
-- from them is known of it
pub record IsFixedAt (ks : List Known) (ns : List Node) (i : ℕ) : Type 0 where
  pub operands : are_all_decided ks (node_at ns i) ≡ true
  pub still : IsStill ks ns i

-- a place is among those of the variables
abbrev pub IsVariableAt : List ℕ → ℕ → Type 0
IsVariableAt places i = (j : ℕ) × (j < length places) × (slice_index places j ≡ i)

-- each node is a variable, or no forward pass makes more known of it
abbrev pub AreFixed : List ℕ → List Known → List Node → Type 0
AreFixed places ks ns = (i : ℕ) → i < length ns → IsVariableAt places i ⊎ IsFixedAt ks ns i
