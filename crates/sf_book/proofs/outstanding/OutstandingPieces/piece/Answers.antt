use Rattle.sf_book.proofs.Common.{arith, sym, ◌∙◌, ap, option_map, outstanding_of, PieceData}
use Rattle.sf_book.proofs.MapLemmas.{entry_at_is}
use Rattle.sf_book.proofs.outstanding.OutstandingPieces.piece.Goals as goal

pub returns-in-Some : goal.returns-in-Some
returns-in-Some c =
    let names = c.self.inside.by_name.entries in (
      (outstanding_of names (c.args.id, c.in-Some.named.now)).leased,
      rw (← c.self.view_is, c.piece.ensures) (entry_at_is c.self.inside.by_id.entries names c.args.id
          ∙ ap (option_map (λ (p : PieceData). outstanding_of names (c.args.id, p))) (sym c.in-Some.ensures.value)),
    )

pub returns-in-None : goal.returns-in-None
returns-in-None c = search (arith, entry_at_is)
