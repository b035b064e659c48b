use Rattle.sf_check.proofs.Common.{arith}
use Rattle.sf_check.proofs.equals.EqualLemmas.{none_by_key, found_by_key}
use Rattle.sf_check.proofs.equals.find_test_or_last.Goals as goal

pub returns-then-found-keys : goal.returns-then-found-keys
returns-then-found-keys c =
    none_by_key c.args.insns.now c.args.chains.now c.args.keys.now c.count_below-found.result c.args.place c.args.number
    c.requires.keys (rw c.key_of-from.ensures at c.count_below-found.ensures) c.args.last c.requires.from
    c.requires.inside c.requires.same (λ within. absurd (omega arith))

pub returns-then-key-key_of : goal.returns-then-key-key_of
returns-then-key-key_of c = rw c.key_of-from.ensures (
    found_by_key c.args.insns.now c.args.chains.now c.args.keys.now c.count_below-found.result c.args.place
    c.args.number c.requires.keys (rw c.key_of-from.ensures at c.count_below-found.ensures) c.args.last
    c.requires.short c.requires.inside (omega arith) (omega arith)
    (omega (arith, c.if-key-key_of.true, c.key_of.ensures)))

pub returns-else-key-key_of : goal.returns-else-key-key_of
returns-else-key-key_of c =
    none_by_key c.args.insns.now c.args.chains.now c.args.keys.now c.count_below-found.result c.args.place c.args.number
    c.requires.keys (rw c.key_of-from.ensures at c.count_below-found.ensures) c.args.last c.requires.from
    c.requires.inside c.requires.same (λ within. omega (arith, c.if-key-key_of.false, c.key_of.ensures))
