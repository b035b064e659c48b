use Rattle.sf_diagram.proofs.Common.{common_steps, ◌≡◌, ◌<◌, ◌+◌, length, get_or, arith, refl, bucket_of, Interned}
use Rattle.sf_diagram.proofs.index.IndexLemmas.{IsInBuckets-push}
use Rattle.sf_diagram.proofs.index.push.Goals as goal

pub returns-clause-indexed : goal.returns-clause-indexed
returns-clause-indexed c =
    let es = c.args.interned.now.items in
    let heads = c.args.heads.now in
    let node = c.args.node in
    let hash : c.hash-hash.result ≡ bucket_of (length heads) node = c.hash-hash.ensures.value in
    let small : bucket_of (length heads) node < length heads = omega (arith, hash, c.hash-hash.ensures.within) in
    let e : Interned = record { node = node; link = get_or heads (bucket_of (length heads) node) 0 } in
    let pushed = c.in_ok-push.ensures.items in
    let count : c.len.result ≡ length es + 1 = grind (arith, common_steps, c.len.ensures, pushed) in
    rw (count, pushed, hash) (IsInBuckets-push es heads e c.requires.indexed refl small)
