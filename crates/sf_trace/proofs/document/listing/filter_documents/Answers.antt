use Rattle.sf_trace.proofs.Common.{◌≡◌, ℕ, ◌+◌, ◌∙◌, [], ◌∷◌, ◌++◌, map, ap, length_push, map-append, get_or_from_slice_get, view, IsFilterAt}
use Rattle.sf_trace.proofs.document.DocumentLemmas.{one_pushed}
use Rattle.sf_trace.proofs.document.listing.filter_documents.Goals as goal

pub loop-i-preserved : goal.loop-i-preserved
loop-i-preserved c =
    let listed = c.args.listed in
    let programs = c.args.programs.now in
    let old = map view c.loop-i.documents.items in
    let one = view c.in_ok-document.document in
    let so_far = c.loop-i.invariant in
    let pushed : map view c.push.new.self.items ≡ old ++ one ∷ [] =
    rw c.in_ok-push.ensures.items (map-append view c.loop-i.documents.items (c.in_ok-document.document ∷ [])) in
    let here : IsFilterAt listed programs c.loop-i.i one = λ code read.
    rw (c.index-programs-i.is ∙ get_or_from_slice_get programs c.loop-i.i code _ read) at c.in_ok-document.ensures in
    record {
      many = rw pushed (length_push old one ∙ ap (λ (n : ℕ). n + 1) so_far.many);
      each = λ place d there. one_pushed (IsFilterAt listed programs) old one so_far.each (rw so_far.many here) place d
          (rw pushed at there);
    }
