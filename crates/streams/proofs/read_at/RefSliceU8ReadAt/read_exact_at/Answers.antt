use Rattle.gix_hash.proofs.Std.{rules}
use Rattle.streams.proofs.read_at.RefSliceU8ReadAt.read_exact_at.Goals as goal

pub returns-then-at-bytes-clause-err : goal.returns-then-at-bytes-clause-err
returns-then-at-bytes-clause-err c = search rules
