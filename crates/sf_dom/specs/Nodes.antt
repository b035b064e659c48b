-- How what is known of the nodes of a pool is kept, and of which nodes more can become known.
use Rattle.std.specs.Prelude.{◌≡◌, ℕ, ◌-◌, ◌<◌, ◌≤◌, ◌⊎◌, List, length, map, slice_index, slice_index_or}
use Rattle.sf_dom.specs.Common.{Known, Variable, Slot, Number}
use Rattle.sf_dom.specs.declared.slots.Slot.TheVariants.{Variable as VariableAt}
use Rattle.sf_dom.specs.Known.{IsDecided, known_of}
use Rattle.sf_dom.specs.Facts.{known_at}
use Rattle.sf_dom.specs.Variables.{variable_at}

-- what is known of each node, and the places of the variables; a variable is a node that had more than one number when
-- it came
pub record NodesView : Type 0 where
  pub known : List Known
  pub variables : List ℕ

-- The places of the variables rise, and are places of nodes. Each other node is past the words of the input, and has
-- only one number.
pub record IsLaidOut (n : NodesView) : Type 0 where
  pub within : (j : ℕ) → j < length n.variables → slice_index n.variables j < length n.known
  pub rising : (j k : ℕ) → j < k → k < length n.variables → slice_index n.variables j < slice_index n.variables k
  pub rest : (i : ℕ) → i < length n.known → ((j : ℕ) × (j < length n.variables) × (slice_index n.variables j ≡ i))
      ⊎ ((16 ≤ i) × IsDecided (known_at n.known i))

-- what is known of the node of a slot: if the slot has a number, that in full, and else what stands among the variables
abbrev pub slot_known : List Variable → Slot → Known
slot_known os (Number c) = known_of c c (4294967295 - c) c
slot_known os (VariableAt r) = (variable_at os r).known

-- what is known of each node, by its slot
abbrev pub known_by : List Variable → List Slot → List Known
known_by os slots = map (slot_known os) slots

-- where in the pool the variables stand
abbrev pub places_of : List Variable → List ℕ
places_of os = map (λ o. o.place) os

-- the slot of the node at a place
abbrev pub slot_at : List Slot → ℕ → Slot
slot_at slots i = slice_index_or slots i (Number 0)

-- Where a slot refers to a variable, the variable's place is the slot's; and the slot at a variable's place refers to
-- it. The places of the variables rise, and no word of the input is kept as a number.
pub record AreKept (slots : List Slot) (os : List Variable) : Type 0 where
  pub variables : (i r : ℕ) → i < length slots → slot_at slots i ≡ VariableAt r → (r < length os)
      × (slice_index (places_of os) r ≡ i)
  pub within : (r : ℕ) → r < length os → slice_index (places_of os) r < length slots
  pub rising : (j k : ℕ) → j < k → k < length os → slice_index (places_of os) j < slice_index (places_of os) k
  pub told : (r : ℕ) → r < length os → slot_at slots (slice_index (places_of os) r) ≡ VariableAt r
  pub numbers : (i c : ℕ) → i < length slots → slot_at slots i ≡ Number c → 16 ≤ i
