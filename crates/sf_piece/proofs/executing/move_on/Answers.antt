use Rattle.sf_piece.proofs.Common.{refl, arith}
use Rattle.sf_piece.proofs.Arms.{sixteen_scratch_words, load_goes, load_x_goes, store_goes, store_x_goes}
use Rattle.sf_piece.proofs.executing.move_on.Goals as goal

pub scratch-node-requires : goal.scratch-node-requires
scratch-node-requires c =
    let s = rw (← c.run.view_is) at c.requires.standing in
    s.set c.in-LoadScratch.k (rw c.in-LoadScratch.is refl)

pub go-requires-clause-goes : goal.go-requires-clause-goes
go-requires-clause-goes c =
    let s = rw (← c.run.view_is) at c.requires.standing in
    rw (← c.run.view_is) (load_goes _ c.in-LoadScratch.k c.scratch-node.result s.nodes c.scratch-node.ensures)

pub scratch-node-requires-in-LoadXScratch : goal.scratch-node-requires-in-LoadXScratch
scratch-node-requires-in-LoadXScratch c =
    let s = rw (← c.run.view_is) at c.requires.standing in
    s.set c.in-LoadXScratch.k (rw c.in-LoadXScratch.is refl)

pub go-requires-in-LoadXScratch-clause-goes : goal.go-requires-in-LoadXScratch-clause-goes
go-requires-in-LoadXScratch-clause-goes c =
    let s = rw (← c.run.view_is) at c.requires.standing in
    rw (← c.run.view_is) (load_x_goes _ c.in-LoadXScratch.k c.scratch-node-in-LoadXScratch.result s.nodes
    c.scratch-node-in-LoadXScratch.ensures)

pub go-requires-in-StoreA-clause-goes : goal.go-requires-in-StoreA-clause-goes
go-requires-in-StoreA-clause-goes c =
    let s = rw (← c.run.view_is) at c.requires.standing in
    rw (← c.run.view_is) (store_goes _ c.in-StoreA.k s.nodes)

pub go-requires-in-StoreX-clause-goes : goal.go-requires-in-StoreX-clause-goes
go-requires-in-StoreX-clause-goes c =
    let s = rw (← c.run.view_is) at c.requires.standing in
    rw (← c.run.view_is) (store_x_goes _ c.in-StoreX.k s.nodes)

pub go-requires-in-StoreA-clause-fits : goal.go-requires-in-StoreA-clause-fits
go-requires-in-StoreA-clause-fits c =
    let s = rw (← c.run.view_is, c.in-StoreA.is) at c.requires.standing in
    rw (← c.run.view_is) (omega (arith, sixteen_scratch_words _ _ s, s.in_range))

pub go-requires-in-StoreX-clause-fits : goal.go-requires-in-StoreX-clause-fits
go-requires-in-StoreX-clause-fits c =
    let s = rw (← c.run.view_is, c.in-StoreX.is) at c.requires.standing in
    rw (← c.run.view_is) (omega (arith, sixteen_scratch_words _ _ s, s.in_range))
