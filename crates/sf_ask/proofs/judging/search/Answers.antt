use Rattle.sf_ask.proofs.Common.{sym, ◌∙◌, IsInQuestion, AreConfined, IsNumberBefore}
use Rattle.sf_ask.proofs.Searching.{doubtful, least-hit, exact-hit}
use Rattle.sf_ask.proofs.judging.search.Goals as goal

-- what the question leaves of the piece's facts
confined : (c : goal.After-drop-facts-inside-then-not-branch-2) → AreConfined c.args.piece.now.facts c.in-Some.facts
    c.args.piece.now.pool (IsInQuestion c.args.question.now) (IsNumberBefore c.args.question.now 16)
confined c = rw (c.in-Some.is, c.facts-known.ensures.value, c.pool.ensures.value) at c.in_ok-facts.ensures.confined

pub returns-then-not-branch-clause-right : goal.returns-then-not-branch-clause-right
returns-then-not-branch-clause-right c =
    let p = c.args.piece.now in
    doubtful p c.args.question.now p.facts c.in-Some.facts p.pool c.in-Some-least_input.input
    c.facts-known.ensures.known (confined c) c.in-Some-least_input.ensures
    (sym c.in_ok-is_member_of.ensures.tells ∙ c.if-not-branch.true)

pub returns-then-not-branch-clause-decisive : goal.returns-then-not-branch-clause-decisive
returns-then-not-branch-clause-decisive c = λ plain.
    let hit = exact-hit c.args.piece.now c.args.question.now c.in-Some.facts c.in-Some-least_input.input
    (c.facts-known.ensures.plain plain) (confined c) c.in-Some-least_input.ensures in
    cc (sym c.in_ok-is_member_of.ensures.tells ∙ c.if-not-branch.true)

pub returns-clause-tried : goal.returns-clause-tried
returns-clause-tried c =
    let p = c.args.piece.now in
    let left = rw (c.in-Some.is, c.facts-known.ensures.value, c.pool.ensures.value) at c.in_ok-facts.ensures.confined in
    least-hit p c.args.question.now p.facts c.in-Some.facts p.pool c.in-Some-least_input.input
    c.facts-known.ensures.known left c.in-Some-least_input.ensures
