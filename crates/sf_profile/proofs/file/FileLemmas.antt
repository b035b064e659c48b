-- What is true of the profile in a file.
use Rattle.sf_profile.proofs.Common.{◌≡◌, ◌⊎◌, inl, inr, List, ℕ, Ok, Err, Data, Fault, Settings, ProfileData, IsInText, IsRefusedText, IsTooLong, IsTree, read_file}
use Rattle.sf_profile.specs.declared.fault.Fault.TheVariants as faults

pub in_text : (s : Settings) (is_true : ProfileData → Type 0) (text : List ℕ) (file : Data) (profile : ProfileData)
    → IsTree text file → read_file s file ≡ Ok profile → is_true profile → IsInText s is_true text
in_text s is_true text file profile tree is h = record { file = file; is_tree = tree; holds = rw is h }

pub refused_text : (s : Settings) (text : List ℕ) (file : Data) (fault : Fault) → IsTree text file
    → (fault ≡ faults.Memory) ⊎ (read_file s file ≡ Err fault) → IsRefusedText s text fault
refused_text s text file fault tree (inl memory) = inr (file, tree, inl memory)
refused_text s text file fault tree (inr first) = inr (file, tree, inr (inl first))

pub long_text : (s : Settings) (text : List ℕ) (file : Data) (profile : ProfileData) (fault : Fault) → IsTree text file
    → read_file s file ≡ Ok profile
    → (fault ≡ faults.Memory) ⊎ ((fault ≡ faults.TooLong) × IsTooLong s profile) → IsRefusedText s text fault
long_text s text file profile fault tree is (inl memory) = inr (file, tree, inl memory)
long_text s text file profile fault tree is (inr long) = inr (file, tree, inr (inr (long.0, rw is long.1)))
