use Rattle.std.proofs.Common.{◌∙◌, ap, inl, refl, sym}
use Rattle.std.proofs.lemmas.Result.{IfErr-weaker, IfOk-weaker}
use Rattle.command_run.specs.Memory.{readable}
use Rattle.command_run.proofs.MemoryLemmas.{held_is, known_bytes, none_known}
use Rattle.command_run.proofs.memory_files.MemoryFiles.read_at.Goals as goal

pub returns-in-Some-clause-bytes : goal.returns-in-Some-clause-bytes
returns-in-Some-clause-bytes c =
    let is = held_is c.args.self.now c.args.path.now _ _ c.deref.ensures.value c.in-Some.ensures
    ∙ ap readable (sym c.deref-in-Some.ensures.value) in
    IfOk-weaker c.read_bytes.result _ _ (λ v read. known_bytes _ _ _ is read) c.read_bytes.ensures.read

pub returns-in-Some-clause-refused : goal.returns-in-Some-clause-refused
returns-in-Some-clause-refused c =
    let is = held_is c.args.self.now c.args.path.now _ _ c.deref.ensures.value c.in-Some.ensures
    ∙ ap readable (sym c.deref-in-Some.ensures.value) in
    IfErr-weaker c.read_bytes.result _ _ (λ e why. none_known _ _ e is why) c.read_bytes.ensures.refused

pub returns-in-None-clause-refused : goal.returns-in-None-clause-refused
returns-in-None-clause-refused c =
    inl (refl, held_is c.args.self.now c.args.path.now _ _ c.deref.ensures.value c.in-None.ensures)
