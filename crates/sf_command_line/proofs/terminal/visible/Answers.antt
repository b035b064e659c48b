use Rattle.sf_command_line.proofs.Common.{◌∙◌, sym, append-nil, append_assoc, IsUtf8-past_char}
use Rattle.sf_command_line.proofs.terminal.TerminalLemmas.{visible_first, visible_nothing}
use Rattle.sf_command_line.proofs.terminal.visible.Goals as goal

pub loop-character-preserved : goal.loop-character-preserved
loop-character-preserved c =
    let held = c.loop-character.invariant in
    let parts = c.in-Some.ensures.steps.0 in (
      IsUtf8-past_char _ _ c.in-Some.character held.0 parts,
      rw (c.in_ok-push_shown.ensures, append_assoc) (rw (visible_first _ _ c.in-Some.character held.0 parts) at held.1),
    )

pub returns : goal.returns
returns c = sym (append-nil _) ∙ rw (visible_nothing _ c.in-None.ensures.steps.0.0) at c.loop-character.invariant.1
