use Rattle.sf_book.proofs.Common.{rules, false, map_same_pairs, LeaseState}
use Rattle.sf_book.proofs.outstanding.clear_leased.Goals as goal

pub returns : goal.returns
returns c = map_same_pairs _ (λ (m : LeaseState). record { id = m.id; leased = false }) _
    (λ k v b w f' t. search rules) _ _ c.retain.ensures.filtered
