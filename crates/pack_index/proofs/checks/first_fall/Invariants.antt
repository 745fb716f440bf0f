use Rattle.gix_hash.proofs.Std.{◌≡◌}
use Rattle.pack_index.specs.Format.{Each}
use Rattle.pack_index.specs.Lazy.{Rises, bucket_start, fan_out}
use Rattle.pack_index.proofs.checks.first_fall.Given as goal

abbrev pub invariant-loop-byte : goal.invariant-loop-byte
invariant-loop-byte l = record { rise : Each (Rises (fan_out l.head)) l.byte; before : l.before ≡ bucket_start (fan_out l.head) l.byte }
