-- Files of which only the first ones are kept: what holds of these holds of all.
use Rattle.sf_evaluate.proofs.Common.{common_steps, ◌≡◌, ◌⊎◌, inl, inr, ℕ, ◌<◌, ◌≤◌, List, length, take, Option, Bor, ap, subst, arith, ◌∙◌, min, length-take, take_all, Insn, Fault, SpellStack, IsFirstRefusal, as_many, IsRefusalOfBoth, AreKeptFiles, HasUnknown, HoldStack, RefusesBoth, RefusesFiles}
use Rattle.sf_stack.specs.declared.fault.Fault.TheVariants as faults

-- files that spell a lawful stack are at most 64
pub stack_is_few : (files : List (List ℕ)) (programs : List (List Insn)) → SpellStack files programs
    → length files ≤ 64
stack_is_few files programs spell = omega (arith, as_many files programs spell.spelled, spell.lawful.few)

-- how many files are kept, from how many there are
pub counted_of : (kept files : List (List ℕ)) → kept ≡ take 65 files → length kept ≡ min 65 (length files)
counted_of kept files first = ap (λ (xs : List (List ℕ)). length xs) first ∙ length-take 65 files

-- where at most 64 files are kept, they are all
pub few_are_all : (kept files : List (List ℕ)) → kept ≡ take 65 files → length kept ≤ 64 → kept ≡ files
few_are_all kept files first few = first ∙ take_all 65 files (omega (arith, counted_of kept files first, few))

-- where more than 64 files are kept, there are more than 64
pub many_of_many : (kept files : List (List ℕ)) → kept ≡ take 65 files → 64 < length kept → 64 < length files
many_of_many kept files first many = omega (arith, counted_of kept files first, many)

-- What refuses the kept files refuses all files: the kept ones are all files if they are at most 64, and else there are
-- more than 64.
pub refusal_of_all : (kept files : List (List ℕ)) (e : Fault) → (length kept ≤ 64 → kept ≡ files)
    → (64 < length kept → 64 < length files) → IsFirstRefusal kept e → IsFirstRefusal files e
refusal_of_all kept files faults.TooMany same more many = more many
refusal_of_all kept files faults.NoFilter same more none =
    subst (λ (fs : List (List ℕ)). length fs ≡ 0) (same (omega (arith, none))) none
refusal_of_all kept files faults.PathLength same more (few, long) =
    subst (λ fs. IsFirstRefusal fs faults.PathLength) (same few.few) (few, long)
refusal_of_all kept files fault same more (few, refused) =
    subst (λ fs. IsFirstRefusal fs fault) (same few.few) (few, refused)

module _ (holds : List ℕ → Option (List ℕ)) (paths : List (Bor (List ℕ))) (kept : List (List ℕ))
    (all : AreKeptFiles holds paths kept) where
  -- the stack that the kept files spell is that of all files
  pub kept_stack : (stack : List (List Insn)) → SpellStack kept stack → HoldStack holds paths stack
  kept_stack stack spelled = record {
    files = all.files;
    read = all.read;
    spelled = subst (λ (fs : List (List ℕ)). SpellStack fs stack)
        (few_are_all kept all.files all.first (stack_is_few kept stack spelled)) spelled;
  }

  -- where the kept files are refused, all that were read are refused
  pub kept_refusal : (e : Fault) → IsFirstRefusal kept e → IsFirstRefusal all.files e
  kept_refusal e = refusal_of_all kept all.files e (few_are_all kept all.files all.first)
      (many_of_many kept all.files all.first)

  pub kept_why : (e : Fault) → (e ≡ faults.Memory) ⊎ IsFirstRefusal kept e → RefusesFiles holds paths e
  kept_why e why = grind (arith, common_steps, kept_refusal)

module _ (holds : List ℕ → Option (List ℕ)) (old new : List (Bor (List ℕ))) (olds news : List (List ℕ))
    (kept_old : AreKeptFiles holds old olds) (kept_new : AreKeptFiles holds new news) where
  -- what refuses the kept files of two stacks refuses all files
  both_refusal : (e : Fault) → IsRefusalOfBoth olds news e → IsRefusalOfBoth kept_old.files kept_new.files e
  both_refusal e (inl first) = inl (kept_refusal holds old olds kept_old e first)
  both_refusal e (inr (stack, spelled, why)) = inr (
    stack,
    subst (λ (fs : List (List ℕ)). SpellStack fs stack)
        (few_are_all olds kept_old.files kept_old.first (stack_is_few olds stack spelled)) spelled,
    (why.0, kept_refusal holds new news kept_new why.0 why.1, why.2),
  )

  pub both_why : (e : Fault) → (e ≡ faults.Memory) ⊎ IsRefusalOfBoth olds news e → RefusesBoth holds old new e
  both_why e why = grind (arith, common_steps, both_refusal)

-- where a new file can't be read, or memory runs out
pub unread_new : (holds : List ℕ → Option (List ℕ)) (old new : List (Bor (List ℕ))) (e : Fault)
    → ((e ≡ faults.Read) × HasUnknown holds new) ⊎ (e ≡ faults.Memory) → RefusesBoth holds old new e
unread_new holds old new e (inl (read, left)) = inl (read, inr left)
unread_new holds old new e (inr memory) = inr (inl memory)
