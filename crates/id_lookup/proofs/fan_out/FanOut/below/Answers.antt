use Rattle.gix_hash.proofs.Std.{sym}
use Rattle.id_lookup.proofs.FirstByteCounts.{count_by-below_0}
use Rattle.id_lookup.proofs.fan_out.FanOut.below.Goals as goal

pub returns-then-byte-eq0 : goal.returns-then-byte-eq0
returns-then-byte-eq0 c ids is = rw c.if-byte-eq0.true (sym (count_by-below_0 ids))
