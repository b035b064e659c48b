use Rattle.sf_sym.proofs.Common.{◌≡◌, ◌<◌, ◌+◌, length, get_or, arith, refl, ap, ◌∙◌, length_push, hash_of, Interned}
use Rattle.sf_sym.proofs.index.IndexLemmas.{IsIndexed-push}
use Rattle.sf_sym.proofs.index.add.Goals as goal

pub returns-clause-indexed : goal.returns-clause-indexed
returns-clause-indexed c =
    let es = c.args.interned_nodes.now in
    let heads = c.args.heads.now in
    let node = c.args.node in
    let hash : c.hash-hash.result ≡ hash_of node = c.hash-hash.ensures.value in
    let small : hash_of node < 127 = omega (arith, hash, c.hash-hash.ensures.within) in
    let e : Interned = record { node = node; link = get_or heads (hash_of node) 0 } in
    let pushed = c.in_ok-push.ensures.ok in
    let count : c.len.result ≡ length es + 1 = c.len.ensures.value ∙ ap length pushed ∙ length_push es _ in
    rw (count, pushed, hash) (IsIndexed-push es heads e c.requires.indexed refl small)
