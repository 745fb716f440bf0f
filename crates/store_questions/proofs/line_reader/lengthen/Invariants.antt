use Rattle.gix_hash.proofs.Std.{◌≡◌, ◌+◌, ◌*◌, vec_len}
use Rattle.std.specs.Io.{StartsWith}
use Rattle.store_questions.proofs.line_reader.lengthen.Given as goal

abbrev pub invariant-loop-at : goal.invariant-loop-at
invariant-loop-at l = record {
  kept : StartsWith l.buf.items l.fn.buf.items;
  len : vec_len l.buf ≡ vec_len l.fn.buf + 16384 * l._at;
}
