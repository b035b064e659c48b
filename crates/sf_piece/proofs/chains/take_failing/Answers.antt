use Rattle.sf_piece.proofs.Common.{length, ap, arith, PieceData}
use Rattle.sf_piece.proofs.Sizes.{chain_fits}
use Rattle.sf_piece.proofs.chains.take_failing.Goals as goal

pub push_falses-requires : goal.push_falses-requires
push_falses-requires c =
    let fits = chain_fits c.args.run.now c.failing_chain-chain.result.count c.failing_chain-chain.result.behind
    c.failing_chain-chain.ensures.gone.lawful in
    let same = ap (λ (r : PieceData). length r.name) c.run.view_is in
    omega (arith, fits, same)
