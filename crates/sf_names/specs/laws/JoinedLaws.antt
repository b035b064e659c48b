-- Sets that were joined one after the other.
use Rattle.std.proofs.Common.{◌≡◌, ◌∙◌, List, [], ◌∷◌, ◌++◌, append_assoc, ap, refl, subst, sym}
use Rattle.sf_names.specs.declared.fault.Fault.{Fault}
use Rattle.sf_names.specs.Names.{NamesData}
use Rattle.sf_names.specs.Joined.{AreSetsJoined, AreSetsUnfit, IsSetJoined, IsSetUnfit}

-- sets, and then more sets
pub joined_append : (sets more last middle after : List NamesData) → AreSetsJoined sets more middle
    → AreSetsJoined middle last after → AreSetsJoined sets (more ++ last) after
joined_append sets [] last middle after first second = subst (λ l. AreSetsJoined l last after) first second
joined_append sets (one ∷ more) last middle after first second =
    (first.0, first.1, joined_append first.0 more last middle after first.2 second)

-- sets, and then more of which one is unfit
pub unfit_append : (sets more last middle after : List NamesData) (fault : Fault) → AreSetsJoined sets more middle
    → AreSetsUnfit middle last after fault → AreSetsUnfit sets (more ++ last) after fault
unfit_append sets more last middle after fault first why = record {
  done = more ++ why.done;
  one = why.one;
  rest = why.rest;
  whole = ap (λ l. more ++ l) why.whole ∙ sym (append_assoc more why.done (why.one ∷ why.rest));
  joined = joined_append sets more why.done middle after first why.joined;
  unfit = why.unfit;
}
