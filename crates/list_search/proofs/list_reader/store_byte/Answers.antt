use Rattle.gix_hash.proofs.Std.{arith}
use Rattle.list_search.proofs.ChunkLemmas.{kept_short, kept_long}
use Rattle.list_search.proofs.list_reader.store_byte.Goals as goal

pub returns-then-len-lt-MAX_DIGITS : goal.returns-then-len-lt-MAX_DIGITS
returns-then-len-lt-MAX_DIGITS c line len same = kept_short line c.args.kept.now c.args.len c.args.byte (omega arith) len same c.if-len-lt-MAX_DIGITS.true

pub returns-else-len-lt-MAX_DIGITS : goal.returns-else-len-lt-MAX_DIGITS
returns-else-len-lt-MAX_DIGITS c line len same = kept_long line c.args.kept.now c.args.len c.args.byte (omega arith) len same c.if-len-lt-MAX_DIGITS.false
