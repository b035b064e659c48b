-- A stack has one text of `check`.
use Rattle.sf_trace.proofs.Common.{◌≡◌, ℕ, ◌+◌, Bool, true, false, List, [], ◌∷◌, refl, sym, ◌∙◌, ◌↔◌, slice_index_or, Insn, AreInsnLines, insn_lines, AreFilterLines, IsCheckText, StandUnder}

-- two truth values that tell the same
pub same_truth : {P : Type 0} (a b : Bool) → (a ≡ true) ↔ P → (b ≡ true) ↔ P → a ≡ b
same_truth true true p q = refl
same_truth false false p q = refl
same_truth true false p q = sym (q.1 (p.0 refl))
same_truth false true p q = p.1 (q.0 refl)

-- the lines of instructions, by two lists that tell the same of each place
pub same_lines : (f g : List Bool) (at : ℕ) (code : List Insn)
    → ((n : ℕ) → slice_index_or f n false ≡ slice_index_or g n false) → insn_lines f at code ≡ insn_lines g at code
same_lines f g at [] same = refl
same_lines f g at (i ∷ is) same = rw (same at, same_lines f g (at + 1) is same) refl

pub one_of_insns : (code : List Insn) (a b : List ℕ) → AreInsnLines code a → AreInsnLines code b → a ≡ b
one_of_insns code a b (f, of_f, a_is) (g, of_g, b_is) =
    rw (a_is, b_is) (same_lines f g 0 code (λ n. same_truth _ _ (of_f.reached n) (of_g.reached n)))

pub one_under : (listed : Bool) (code : List Insn) (a b : List ℕ)
    → StandUnder listed code a → StandUnder listed code b → a ≡ b
one_under true code a b p q = one_of_insns code a b p q
one_under false code a b p q = p ∙ sym q

pub one_of_filters : (listed : Bool) (number : ℕ) (programs : List (List Insn)) (a b : List ℕ)
    → AreFilterLines listed number programs a → AreFilterLines listed number programs b → a ≡ b
one_of_filters listed number [] a b p q = p ∙ sym q
one_of_filters listed number (code ∷ codes) a b (u, rest, under, are, a_is) (v, others, under', are', b_is) =
    rw (
      a_is,
      b_is,
      one_under listed code u v under under',
      one_of_filters listed (number + 1) codes rest others are are',
    )
    refl

pub one_text : (listed : Bool) (programs : List (List Insn)) (a b : List ℕ)
    → IsCheckText listed programs a → IsCheckText listed programs b → a ≡ b
one_text listed programs a b (l, are, a_is) (m, are', b_is) =
    rw (a_is, b_is, one_of_filters listed 1 programs l m are are') refl
