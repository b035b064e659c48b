use Rattle.sf_piece.proofs.Common.{common_steps, arith, ◌≡◌, ◌∙◌, sym, ap, subst, NodeId, PieceData, query, IsDecision, IsQuery, IfOk-weaker}
use Rattle.sf_piece.proofs.Joined.{asked_entry, decision_on}
use Rattle.sf_piece.proofs.Executed.{asked_for, asks_none, carried_executed}
use Rattle.sf_piece.proofs.asking.ask.Goals as goal

pub decide-requires-clause-query : goal.decide-requires-clause-query
decide-requires-clause-query c =
    let p : PieceData = c.args.run.now in
    let q : PieceData = c.operand.new.run in
    let right = c.in-Some.right in
    let h = rw c.in_ok-asked.ensures at (rw c.in-Some.is at c.in_ok-right.ensures.made) in
    let e = asked_entry p c.args.insn c.args.test c.args.other q right c.requires.asks h c.requires.standing in
    let a : q.machine.a ≡ c.run.inside.machine.a
    = ap (λ (r : PieceData). r.machine.a) h.grown.same ∙ sym (ap (λ (r : PieceData). r.machine.a) c.run.view_is) in
    subst (λ (w : NodeId). IsQuery q c.args.insn (query w c.args.test right)) a e

pub carry_out-requires-clause-right : goal.carry_out-requires-clause-right
carry_out-requires-clause-right c = grind (arith, common_steps, decision_on)

pub returns-in_default-clause-rule : goal.returns-in_default-clause-rule
returns-in_default-clause-rule c =
    let p : PieceData = c.args.run.now in
    let none = rw c.in_ok-asked.ensures at (rw c.in_default.is at c.in_ok-right.ensures.rule) in
    asks_none p p c.args.insn c.args.test c.args.other c.requires.asks c.requires.standing.here none

pub returns-clause-rule : goal.returns-clause-rule
returns-clause-rule c =
    let p : PieceData = c.args.run.now in
    let q : PieceData = c.operand.new.run in
    let right = c.in-Some.right in
    let d = c.in_ok-decision.decision in
    let gets = rw c.in_ok-asked.ensures at (rw c.in-Some.is at c.in_ok-right.ensures.rule) in
    let decision = subst (λ (r : PieceData). IsDecision (q, query r.machine.a c.args.test right) c.args.insn d)
    c.run.view_is c.in_ok-decision.ensures.rule in
    IfOk-weaker c.carry_out.result _ _ (λ step done. carried_executed p c.carry_out.new.run c.args.insn
    (q, query p.machine.a c.args.test right) d step c.requires.standing.here
    (asked_for p c.args.insn c.args.test c.args.other (q, right) c.requires.asks gets) decision done)
    c.carry_out.ensures.rule

pub decide-requires-clause-standing : goal.decide-requires-clause-standing
decide-requires-clause-standing c =
    let h = rw c.in_ok-asked.ensures at (rw c.in-Some.is at c.in_ok-right.ensures.made) in
    h.grown.standing c.args.insn c.requires.standing
