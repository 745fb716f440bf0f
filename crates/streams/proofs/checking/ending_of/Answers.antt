use Rattle.gix_hash.proofs.Std.{◌≡◌, ◌++◌, arith}
use Rattle.gix_hash.specs.Words.{digest}
use Rattle.streams.proofs.SealedLemmas.{ends_after}
use Rattle.streams.proofs.checking.ending_of.Goals as goal

pub returns : goal.returns
returns c message kind fed all =
    let more = c.split_at.result.0.now in
    let last = c.split_at.result.1.now in
    let digest_is : c.in-Ok.digest ≡ digest c.args.kind (message ++ more) = cc (c.in-Ok.ensures.digest (message ++ more) (c.update.ensures.fed message fed)) in
    ends_after c.args.kind c.digests.ensures.len message c.args.last.now more last c.split_at.ensures.by_index.0 all (omega arith) c.in-Ok.digest digest_is c.ending_by_digest.result c.ending_by_digest.ensures
