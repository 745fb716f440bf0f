-- What contracts see of a reader of lines.
use Rattle.std.specs.Prelude.{ℕ, List, Option, take, drop, option_map}
use Rattle.std.specs.Io.KnownBytes.{prepend_known}
use Rattle.store_questions.specs.WholeLines.{made_whole}
use Rattle.store_questions.specs.declared.line_reader.LineReader.{LineReader}

-- the bytes that were read and are still held
abbrev pub held : {R : Type 0} → LineReader R → List ℕ
held reader = take reader.filled reader.buf.items

-- the lines of the chunk
abbrev pub chunk : {R : Type 0} → LineReader R → List ℕ
chunk reader = take reader.chunk_len reader.buf.items

-- the lines that are still to come after the chunk: those of what is held, and of what the reader below gives
abbrev pub to_come : {R : Type 0} → (R → Option (List ℕ)) → LineReader R → Option (List ℕ)
to_come remaining reader = option_map made_whole (prepend_known (drop reader.chunk_len (held reader)) (remaining reader.reader))
