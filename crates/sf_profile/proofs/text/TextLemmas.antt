-- Why there is no tree of a text.
use Rattle.sf_profile.proofs.Common.{◌≡◌, ◌⊎◌, inl, inr, ℕ, List, Some, None, IsSomeAnd, IsUtf8, document, HasUniqueKeys, Data, read, Fault, last_rules, IsFaultOfRepeat, HasNoTree}
use Rattle.sf_profile.specs.declared.fault.Fault.TheVariants as faults

-- the text was not read
pub none_read : (text : List ℕ) (fault : Fault)
    → (fault ≡ faults.Memory) ⊎ ((fault ≡ faults.Syntax) × (read text ≡ None)) → HasNoTree text fault
none_read text fault (inl memory) = inr (inl memory)
none_read text fault (inr syntax) = inl (syntax.0, λ _. syntax.1)

-- a key comes twice
pub none_unique : (text : List ℕ) (file : Data) (fault : Fault) → IsUtf8 text → read text ≡ Some file
    → (fault ≡ faults.Memory) ⊎ (IsSomeAnd (document text) (λ whole. ¬ HasUniqueKeys whole)
    × IsSomeAnd (document text) (λ whole. IsFaultOfRepeat 1 (last_rules whole) fault))
    → HasNoTree text fault
none_unique text file fault utf8 is (inl memory) = inr (inl memory)
none_unique text file fault utf8 is (inr twice) =
    inr (inr (record { utf8 = utf8; file = file; is_read = is; repeats = twice.0; at = twice.1 }))
