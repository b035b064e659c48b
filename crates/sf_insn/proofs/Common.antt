-- The names from elsewhere that the proofs of this crate cite, passed on from one place. Declares nothing.
pub use Rattle.std.proofs.Common.{List, [], ap, arith, drop, get_or, length, length-set, lit<, refl, set, suc, sym, take, ℕ, ◌%◌, ◌*◌, ◌++◌, ◌+◌, ◌-◌, ◌/◌, ◌<◌, ◌^◌, ◌∙◌, ◌∷◌, ◌≡◌, ◌≤◌}
pub use Rattle.std.proofs.Math.Seq.{take-add}
pub use Rattle.std.proofs.lemmas.Bool.{cases_eq, cases_lt}
pub use Rattle.std.proofs.lemmas.Grind.{common_steps}
pub use Rattle.std.proofs.lemmas.List.{append_assoc, drop_at, flat_map_more, get_or-drop, get_or-set_other, get_or-set_same, get_or-take, get_or_past, length-append, length-drop, length-take, length-take-le, take_at, take_more, take_more_set}
pub use Rattle.std.proofs.lemmas.List.Elements.{All-from_get_or, All-push, recursion_from_All}
pub use Rattle.std.specs.List.{AllByRecursion, flat_map}
pub use Rattle.std.specs.Prelude.{slice_index}
pub use Rattle.byteorder.specs.Endian.{little_bytes, little_number}
pub use Rattle.sf_insn.specs.Spelling.{AreInsns, IsInsn, insn_bytes, spelling}
pub use Rattle.sf_insn.specs.declared.input.Input.{Input}
pub use Rattle.sf_insn.specs.declared.raw.RawInsn.{RawInsn}
pub use borrow.Rule.Slice.PartMut.{put_mid}
