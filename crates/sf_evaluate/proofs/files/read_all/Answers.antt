use Rattle.sf_evaluate.proofs.Common.{◌≡◌, ◌∙◌, arith, fun_ext, handed_on, length, length-map, map, map-append, rules, sym}
use Rattle.sf_evaluate.proofs.FailureLemmas.{unread_named}
use Rattle.sf_evaluate.proofs.KeptLemmas.{none_more_kept, one_kept, unread}
use Rattle.sf_evaluate.proofs.files.identity.IdentityLemmas.{one_shown}
use Rattle.sf_evaluate.proofs.files.read_all.Goals as goal
use Rattle.sf_evaluate.proofs.files.read_all.Goals.{then-len-le-MOST_PROGRAMS+in_ok-push, else-len-le-MOST_PROGRAMS}

pub loop-path-preserved : goal.loop-path-preserved
loop-path-preserved g c =
    let read = c.loop-path.read in
    let so_far = c.loop-path.invariant in
    let inside = c.loop-path-test.true in
    let known = rw (fun_ext so_far.same) at c.in_ok-bytes.ensures.bytes in
    let count : c.len.result ≡ length (map (λ f. f.items) read.items) = search (rules, length-map) in
    record {
      kept = elim c.if-len-le-MOST_PROGRAMS.branch [
        | then-len-le-MOST_PROGRAMS+in_ok-push w ↦ rw w.read-is (one_kept _ _ _ _ _ so_far.kept inside known _
            (rw w.in_ok-push.ensures.items (map-append _ read.items _))
            (omega (arith, count, w.if-len-le-MOST_PROGRAMS.true)))
        | else-len-le-MOST_PROGRAMS w ↦ rw w.read-is (none_more_kept _ _ _ _ _ so_far.kept inside known
            (omega (arith, count, w.if-len-le-MOST_PROGRAMS.false)))
      ];
      shown = one_shown _ _ _ _ _ _ _ _ so_far.shown inside (rw (sym c.deref.ensures.value) at known)
          c.in_ok-push_file.ensures;
      same = λ p. c.read_file.ensures.same p ∙ so_far.same p;
    }

pub returns-in_err-bytes-clause-failed : goal.returns-in_err-bytes-clause-failed
returns-in_err-bytes-clause-failed g c =
    handed_on _ c.from_residual.result c.in_err-bytes.field-0.0 c.from_residual.ensures.1
    (unread_named _ _ _ _ _ _ _ c.loop-path-test.true c.in_err-bytes.ensures.failed
    (rw (fun_ext c.loop-path.invariant.same) at c.in_err-bytes.ensures.refused))

pub returns-in_err-bytes-clause-refused : goal.returns-in_err-bytes-clause-refused
returns-in_err-bytes-clause-refused g c =
    handed_on _ c.from_residual.result c.in_err-bytes.field-0.0 c.from_residual.ensures.1
    (unread _ _ _ _ _ (unread_named _ _ _ _ _ (λ _ _. ⊥) _ c.loop-path-test.true c.in_err-bytes.ensures.failed
    (rw (fun_ext c.loop-path.invariant.same) at c.in_err-bytes.ensures.refused)))
