use Rattle.gix_hash.proofs.Std.{◌∙◌}
use Rattle.directory_store.proofs.LooseNames.{one_byte}
use Rattle.directory_store.proofs.loose.all_bytes.Goals as goal

pub loop-byte-preserved : goal.loop-byte-preserved
loop-byte-preserved c = c.in_ok-push.ensures.items ∙ one_byte c.loop-byte.bytes.items c.loop-byte.byte c.loop-byte.invariant
