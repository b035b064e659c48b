use Rattle.sf_piece.proofs.Common.{◌∙◌, ◌<◌, length, ap, arith}
use Rattle.sf_piece.proofs.AtHand.{place_inside, at_program, short_program}
use Rattle.sf_piece.proofs.run.Run.program.Goals as goal

pub returns-then-self-programs : goal.returns-then-self-programs
returns-then-self-programs c =
    let stack = c.self.inside.stack.value in
    let n = c.self.inside.machine.program in
    let same = c.programs-programs.ensures.same ∙ c.deref.ensures in
    let code = at_program stack c.programs-programs.result.now n c.index-programs-programs.result same
    c.if-self-programs.true c.index-programs-programs.is in
    let running : n < length stack = omega (arith, c.if-self-programs.true, ap length same) in
    let lawful = (rw (← c.self.view_is) at c.requires).run in
    let inside = place_inside _ lawful running in
    let short = short_program stack n lawful.lawful running in
    rw (← c.self.view_is) (record {
      running = running;
      is = code;
      inside = omega (arith, inside, ap length code);
      short = omega (arith, short, ap length code);
    })
