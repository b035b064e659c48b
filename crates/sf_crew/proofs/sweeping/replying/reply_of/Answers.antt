use Rattle.sf_crew.proofs.Common.{common_steps, ℕ, ◌<◌, ◌==◌, Bool, refl, sym, arith, slice_get_read, bit_of, IsUnbroken, QuestionData}
use Rattle.sf_crew.proofs.sweeping.replying.Replies.{below_none, below_place, hit_again, place_there, reply_allowed, tally_doubtful, tally_plain, tally_unbroken}
use Rattle.sf_crew.proofs.sweeping.replying.reply_of.Goals as goal

pub reply_without_hit-requires-clause-unbroken : goal.reply_without_hit-requires-clause-unbroken
reply_without_hit-requires-clause-unbroken c = λ r within.
    tally_unbroken c.args.settled.now _ c.args.tally.now c.args.q _ _ c.requires.tally c.requires.question.0
    (slice_get_read _ _ c.args.q _ refl c.requires.question.0 c.index-questions-q.is) c.has_bit-doubt.ensures r within
    (below_none c.args.tally.now c.args.q c.in_default.is r)

pub reply_without_hit-requires-clause-doubtful : goal.reply_without_hit-requires-clause-doubtful
reply_without_hit-requires-clause-doubtful c = grind (arith, common_steps, slice_get_read, tally_doubtful)

pub reply_without_hit-requires-clause-plain : goal.reply_without_hit-requires-clause-plain
reply_without_hit-requires-clause-plain c = grind (arith, common_steps, tally_plain)

pub returns-in_default-clause-ok : goal.returns-in_default-clause-ok
returns-in_default-clause-ok c = grind (arith, common_steps, slice_get_read)

pub judge-requires : goal.judge-requires
judge-requires c =
    (c.requires.tally.breaks c.args.q c.in-Some.place (place_there c.args.tally.now.least c.args.q c.in-Some.place
    c.in-Some.is)).0

pub unreachable-requires : goal.unreachable-requires
unreachable-requires c =
    let hit = hit_again c.execution_has_one_result.ensures c.verdicts_have_one_result.ensures c.args.settled.now _
    c.args.tally.now c.args.q _ c.in-Some.place c.in_ok-input.field-0 c.counts-counts.ensures.fringe c.requires.tally
    c.in-Some.is (slice_get_read _ _ c.args.q _ refl c.requires.question.0 c.index-questions-q.is)
    c.in_ok-input.ensures.rule in
    c.in_default-2.not-Hit hit.0 (sym hit.1)

pub returns-clause-ok : goal.returns-clause-ok
returns-clause-ok c =
    let s = c.args.settled.now in let t = c.args.tally.now in let q = c.args.q in let place = c.in-Some.place in
    let question : QuestionData = c.index-questions-q.result in
    let asked = slice_get_read _ _ q _ refl c.requires.question.0 c.index-questions-q.is in
    let within = (c.requires.tally.breaks q place (place_there t.least q place c.in-Some.is)).0 in
    let doubt : Bool = bit_of t.doubts q == 1 in
    let unbroken : (e : ℕ) → e < place → IsUnbroken s question doubt e = λ e less.
    tally_unbroken s _ t q question doubt c.requires.tally c.requires.question.0 asked refl e
    (omega (arith, less, within)) (below_place t q place c.in-Some.is e less) in record {
      question = question;
      asked = asked;
      replies = reply_allowed s question place c.in-Hit.input (rw c.in-Hit.is at c.in_ok-input.ensures.right)
          (rw c.in-Hit.is at c.in_ok-input.ensures.tried) (rw c.in-Hit.is at c.in_ok-input.ensures.rule) doubt unbroken
          (tally_plain s _ t q doubt c.requires.tally c.requires.question.0 refl);
    }
