-- The eight bytes of `ret ALLOW`, as a filter.
use Rattle.std.proofs.Common.{◌≡◌, ℕ, zero, suc, [], ◌∷◌, ◌++◌, refl, subst, sym, codes, false, arith}
use Rattle.std.specs.Prelude.{Some}
use Rattle.std.specs.Fmt.{digits}
use Rattle.sf_insn.specs.declared.raw.RawInsn.{RawInsn}
use Rattle.sf_insn.specs.Spelling.{AreInsns}
use Rattle.sf_check.specs.declared.insn.Insn.{Insn}
use Rattle.sf_check.specs.declared.insn.Insn.TheVariants.{ReturnConstant}
use Rattle.sf_check.specs.Codes.{insn_of}
use Rattle.sf_check.specs.Insns.{IsInRange, IsReturn, loaded_by, targets}
use Rattle.sf_check.specs.Programs.{AllBelow, IsLawfulProgram, Spells}
use Rattle.sf_stack.specs.Filters.{SpellStack}
use Rattle.sf_trace.specs.Texts.{IsCheckText}
use Rattle.command_run.specs.Lines.{allow_bytes, one_text}
use Rattle.command_run.proofs.FileLemmas.{only_one}

-- the instruction, and its fields
abbrev pub allow : Insn
allow = ReturnConstant 0x7fff0000

abbrev raw : RawInsn
raw = record { code = 6; jt = 0; jf = 0; k = 0x7fff0000 }

fields : AreInsns (raw ∷ [])
fields zero d lt = (omega arith, omega arith, omega arith, omega arith)
fields (suc k) d lt = absurd (omega (arith, lt))

loads_none : (k : ℕ) (i : Insn) → allow ≡ i → loaded_by i ≡ Some k → ⊥
loads_none k i is loads =
    let none : loaded_by allow ≡ Some k = subst (λ (j : Insn). loaded_by j ≡ Some k) (sym is) loads in
    cc none

allow_is_lawful : IsLawfulProgram (allow ∷ [])
allow_is_lawful = record {
  some = omega arith;
  short = omega arith;
  in_range = λ at i here. subst IsInRange (only_one allow i at here) (omega arith);
  inside = λ at i here. subst (λ (j : Insn). AllBelow 1 (targets at j)) (only_one allow i at here) tt;
  ends = λ i here. subst IsReturn (only_one allow i 0 here) tt;
  set = λ at k earlier loads path.
      absurd (loads_none k loads.0 (only_one allow loads.0 at loads.1) loads.2);
}

allow_is_read : Spells (raw ∷ []) (allow ∷ [])
unfolding insn_of
allow_is_read = refl

pub allow_is_spelled : SpellStack (allow_bytes ∷ []) ((allow ∷ []) ∷ [])
allow_is_spelled = record {
  spelled = (
    record { raws = raw ∷ []; fields = fields; spelled = refl; read = allow_is_read; lawful = allow_is_lawful },
    tt,
  );
  lawful = record {
    some = omega arith;
    few = omega arith;
    short = omega arith;
    each = λ n p here. subst IsLawfulProgram (only_one (allow ∷ []) p n here) allow_is_lawful;
  };
}

pub allow_text : IsCheckText false ((allow ∷ []) ∷ []) one_text
unfolding digits
allow_text = (codes "filter 1 1 instructions" ++ 10 ∷ [], ([], [], refl, refl, refl), refl)
