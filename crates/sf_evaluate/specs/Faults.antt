-- The faults with which the program ends, and their numbers.
use Rattle.std.specs.Prelude.{◌≡◌, ℕ}
use Rattle.sf_stack.specs.Faults.{fault_number as other_number}
use Rattle.sf_stack.specs.declared.fault.Fault.{Fault as OtherFault}
use Rattle.sf_evaluate.specs.Common.{Memory, Profile, Other}
use Rattle.sf_profile.specs.Faults.{fault_number as profile_number}
use Rattle.sf_profile.specs.declared.fault.Fault.{Fault as ProfileFault}
use Rattle.sf_profile.specs.declared.fault.Fault.TheVariants as profile_faults
use Rattle.sf_evaluate.specs.declared.fault.Fault.{Fault}

-- why the program refuses a profile: for its refusal, or because memory was refused
abbrev pub of_profile : ProfileFault → Fault
of_profile profile_faults.Memory = Other Memory
of_profile refusal = Profile refusal

-- the fault isn't that of a profile, and this holds of it
abbrev pub IsOther : (OtherFault → Type 0) → Fault → Type 0
IsOther P fault = (other : OtherFault) × (fault ≡ Other other) × P other

-- the number of each refusal, and of refused memory
abbrev pub fault_number : Fault → ℕ
fault_number (Profile refusal) = profile_number refusal
fault_number (Other fault) = other_number fault
