use Rattle.sf_stack_warnings.proofs.Common.{refl, inl, inr, IsAddedOnce}
use Rattle.sf_stack_warnings.proofs.errno.ZeroErrorLemmas.{same_after}
use Rattle.sf_stack_warnings.proofs.errno.push_once.Goals as goal

-- the number was there
pub returns-then-not-branch : goal.returns-then-not-branch
returns-then-not-branch c =
    let items = c.args.numbers.now.items in
    let added : IsAddedOnce c.args.number items items =
    inl (refl, (c.requires c.args.number).0 (rw c.if-not-branch.true at c.in_ok-put.ensures.is_new)) in
    record {
      added = added;
      same = same_after c.args.number c.args.seen.now.keys c.put.new.seen.keys items items c.requires
          c.in_ok-put.ensures.numbers added;
    }

-- the number wasn't there
pub returns : goal.returns
returns c =
    let items = c.args.numbers.now.items in
    let added : IsAddedOnce c.args.number items c.push.new.self.items = inr (
      c.in_ok-push.ensures.items,
      λ there. (rw c.if-not-branch.false at c.in_ok-put.ensures.is_new) ((c.requires c.args.number).1 there),
    ) in
    record {
      added = added;
      same = same_after c.args.number c.args.seen.now.keys c.put.new.seen.keys items c.push.new.self.items c.requires
          c.in_ok-put.ensures.numbers added;
    }
