-- What `profile` reads, writes and refuses.
use Rattle.sf_evaluate.proofs.Common.{◌≡◌, ◌⊎◌, ◌∙◌, inl, inr, ap, refl, subst, codes, Bool, List, Option, Bor, false, Row, Text, one_of, IsSwitch, text_of, NamesData, Memory, Settings, Other, IsOther, of_profile, AreKnownBytes, AreNamesRead, RefusesNaming, HasOtherSet, IsReadFor, RefusesProfile, RefusesProfileOf, WritesOf, WritesProfile, have_sets}
use Rattle.sf_profile.specs.declared.fault.Fault.{Fault as ProfileFault}
use Rattle.sf_profile.specs.declared.fault.Fault.TheVariants.{Set as UnknownSet}
use Rattle.sf_stack.specs.declared.fault.Fault.TheVariants as faults
use Rattle.sf_evaluate.specs.declared.fault.Fault.{Fault}

-- a set of names is refused, or memory ran out
pub calling_why : (holds : Text → Option Text) (paths : List (Bor Text)) (names : List NamesData) (e : ProfileFault)
    → AreNamesRead holds paths names → (e ≡ Memory) ⊎ ((e ≡ UnknownSet) × (have_sets names ≡ false))
    → IsOther (RefusesNaming holds paths) (of_profile e) ⊎ HasOtherSet holds paths (of_profile e)
calling_why holds paths names e read (inl memory) = inl (faults.Memory, ap of_profile memory, inr (inl refl))
calling_why holds paths names e read (inr (is_set, other)) =
    inr (record { names = names; read = read; other = other; is_set = ap of_profile is_set })

module _ (before after : Text → Option Text) (rows : List Row) (s : Settings) (path bytes seen : Text) where
  -- the bytes of the profile are those of the file that the words name
  known_before : ((p : Text) → after p ≡ before p) → path ≡ text_of (codes "profile") rows
      → AreKnownBytes (after path) bytes → AreKnownBytes (before (text_of (codes "profile") rows)) bytes
  known_before same is known = subst (λ (k : Option Text). AreKnownBytes k bytes) (same path ∙ ap before is) known

  -- a profile that was read was written
  pub profile_written : (wants_notes : Bool) (old new : Option Text) → ((p : Text) → after p ≡ before p)
      → path ≡ text_of (codes "profile") rows → AreKnownBytes (after path) bytes → seen ≡ bytes
      → IsReadFor before rows s → IsSwitch (one_of (codes "notes") rows) wants_notes
      → WritesOf wants_notes s seen old new
      → WritesProfile before rows old new
  profile_written wants_notes old new same is known value read asked written = record {
    settings = s;
    is_read_for = read;
    bytes = bytes;
    read = known_before same is known;
    wants_notes = wants_notes;
    asked = asked;
    written = subst (λ (b : Text). WritesOf wants_notes s b old new) value written;
  }

  -- a profile that was read is refused, or writing failed
  pub profile_refused : {Same : Type 0} (e : Fault) → ((p : Text) → after p ≡ before p)
      → path ≡ text_of (codes "profile") rows → AreKnownBytes (after path) bytes → seen ≡ bytes
      → IsReadFor before rows s → (e ≡ Other faults.Write) ⊎ (RefusesProfileOf s seen e × Same)
      → RefusesProfile before rows e
  profile_refused e same is known value read (inl write) = inl write
  profile_refused e same is known value read (inr (refuses, kept)) = inr (inr (inr (inr (record {
    settings = s;
    is_read_for = read;
    bytes = bytes;
    read = known_before same is known;
    refused = subst (λ (b : Text). RefusesProfileOf s b e) value refuses;
  }))))
