-- The trees of which rows are: of the answers of a stack, and of what changes from one stack to another.
use Rattle.std.specs.Prelude.{◌≡◌, ◌≢◌, ℕ, ◌<◌, ◌^◌, ◌==◌, ◌&&◌, Bool, List, Option, Some, None, if◌then◌else◌}
use Rattle.sf_rows.specs.Common.{list_any, Insn, Answer, returns_of, IsAnswer, Tree, Bits, value, IsOrderedTree, IsReducedTree, IsOrderedFrom, merged_of, pair_of, input_by, answer_with, EndsBefore, word_number, CallData, NamesData, operation_of, AreRelated, Relation}

-- each variable of a tree is one of an input's words, which are the words 18 to 33
pub record IsInputTree (t : Tree) : Type 0 where
  pub begins : IsOrderedFrom 576 t
  pub ends : EndsBefore 1088 t

-- the ordered reduced tree with these values: there is only one
pub record IsTreeOf (f : Bits → ℕ) (t : Tree) : Type 0 where
  pub ordered : IsOrderedTree t
  pub reduced : IsReducedTree t
  pub values : (bits : Bits) → value t bits ≡ f bits

-- the tree of the answers of a stack: on each input its value is the number of the stack's answer
pub record IsAnswersTree (programs : List (List Insn)) (t : Tree) : Type 0 where
  pub ordered : IsOrderedTree t
  pub reduced : IsReducedTree t
  pub small : (bits : Bits) → value t bits < 2 ^ 32
  pub answers : (bits : Bits) → IsAnswer (returns_of programs (input_by bits)) (answer_with (value t bits))

-- What changes on an input, from the number of the old stack's answer to that of the new one's: 0, where the two are
-- the same, or haven't the relation that is asked for; else both as one number.
abbrev pub change_number : Option Relation → (before after : ℕ) → ℕ
change_number None before after = pair_of before after
change_number (Some relation) before after =
    if merged_of (operation_of relation) before after == 0 then 0 else pair_of before after

-- The answers to an input are asked for: they differ, or where a relation is asked for have it.
abbrev pub AreAskedFor : Option Relation → (before after : Answer) → Type 0
AreAskedFor None before after = before ≢ after
AreAskedFor (Some relation) before after = AreRelated relation before after

-- a call has this number
abbrev pub is_call_number : ℕ → CallData → Bool
is_call_number number c = c.number == number

-- the call with this number of an architecture has a name: some set of the architecture has a call with it
abbrev pub is_named_call : List NamesData → (arch number : ℕ) → Bool
is_named_call sets arch number = list_any (λ (n : NamesData). (n.arch == arch)
    && list_any (is_call_number number) n.calls) sets

-- what a tree says of the inputs of calls without a name; the inputs of named calls have the number that no row shows
abbrev pub unnamed_number : List NamesData → ℕ → Tree → Bits → ℕ
unnamed_number sets hidden t bits =
    if is_named_call sets (word_number 18 bits) (word_number 19 bits) then hidden else value t bits
