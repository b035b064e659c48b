-- What words ask for, and the names that they need.
use Rattle.sf_command.proofs.Common.{◌≡◌, ◌⊎◌, true, false, inl, inr, List, Option, Fault, Memory, UnknownName, NamesData, AreNamed, LacksName, numbers_fit, Row, Text, OnCalls, RefusesEval, are_known, calls_asked}
use Rattle.sf_stack.specs.declared.fault.Fault.TheVariants.{Input as InputFault}

-- where no input is asked for, though it is spelled, a name is unknown
pub asked_why : (holds : Text → Option Text) (rows : List Row) (names : List NamesData) (e : Fault)
    → AreNamed holds rows names → numbers_fit rows ≡ true
    → ((e ≡ InputFault) × (numbers_fit rows ≡ false)) ⊎ ((e ≡ UnknownName) × LacksName rows names)
    → RefusesEval holds rows e
asked_why holds rows names e named spelled (inl input) = inl input
asked_why holds rows names e named spelled (inr (unknown, lacks)) = inr (inl (unknown, spelled, (names, named, lacks)))

-- a call that is asked for by its name is one of no set, or memory ran out
pub calls_refused : (holds : Text → Option Text) (rows : List Row) (sets : List NamesData) (fault : Fault) (P : Type 0)
    → AreNamed holds rows sets
    → (fault ≡ Memory) ⊎ ((fault ≡ UnknownName) × (are_known sets (calls_asked rows) ≡ false))
    → OnCalls holds rows fault P
calls_refused holds rows sets fault P named (inl memory) = inl (named.paths, named.named, inr (inl memory))
calls_refused holds rows sets fault P named (inr (unknown, none)) = inr (inl (unknown, (sets, named, none)))
