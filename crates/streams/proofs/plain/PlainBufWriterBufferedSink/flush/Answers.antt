use Rattle.gix_hash.proofs.Std.{rules}
use Rattle.streams.proofs.plain.PlainBufWriterBufferedSink.flush.Goals as goal

pub returns-clause-flushed : goal.returns-clause-flushed
returns-clause-flushed g c = search rules
