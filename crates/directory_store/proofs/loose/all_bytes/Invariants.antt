use Rattle.gix_hash.proofs.Std.{◌≡◌, range_with_len}
use Rattle.directory_store.proofs.loose.all_bytes.Given as goal

abbrev pub invariant-loop-byte : goal.invariant-loop-byte
invariant-loop-byte l = l.bytes.items ≡ range_with_len 0 l.byte
