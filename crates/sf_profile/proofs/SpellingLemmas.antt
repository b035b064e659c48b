-- The raw instructions of a written filter spell it.
use Rattle.sf_profile.proofs.Common.{common_steps, ◌≡◌, ℕ, ◌+◌, ◌*◌, ◌<◌, List, [], ◌∷◌, map, length, Result, Ok, refl, arith, lt-ltb, Insn, Unreadable, word_at, Spells, Instruction, Load, Mask, Branch, Skip, Return, raw_of}
use Rattle.sf_insn.specs.declared.ops.Test.TheVariants as tests
use Rattle.sf_check.specs.declared.insn.Insn.TheVariants as insns
use Rattle.sf_check.specs.Codes.{insn_of as read_of}
use Rattle.sf_profile.proofs.RunLemmas.{insn_of}
use Rattle.sf_profile.proofs.JumpLemmas.{Leads, AllLead}

word_is : (word : ℕ) → word < 16 → word_at (4 * word) ≡ Ok (insns.LoadWord word)
word_is word lt = grind (arith, common_steps, lt-ltb)

read_is : (i : Instruction) (n : ℕ) → Leads i n → read_of (raw_of i) ≡ Ok (insn_of i)
unfolding read_of
read_is (Load word) n l = word_is word l
read_is (Mask k) n l = refl
read_is (Branch tests.Equal k on_true on_false) n l = refl
read_is (Branch tests.Greater k on_true on_false) n l = refl
read_is (Branch tests.GreaterOrEqual k on_true on_false) n l = refl
read_is (Branch tests.AnyBit k on_true on_false) n l = refl
read_is (Skip k) n l = refl
read_is (Return k) n l = refl

abbrev ok : Insn → Result Insn Unreadable
ok i = Ok i

pub spells : (tail : ℕ) (code : List Instruction) → AllLead tail code → Spells (map raw_of code) (map insn_of code)
spells tail [] h = refl
spells tail (i ∷ code) h = rw (read_is i (length code + tail) h.0, spells tail code h.1) refl
