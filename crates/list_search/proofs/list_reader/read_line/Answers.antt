use Rattle.gix_hash.proofs.Std.{ap, arith, sym, ◌∙◌, nat_tests}
use Rattle.id_lookup.specs.Words.{full_read, hex_letter}
use Rattle.list_search.proofs.ChunkLemmas.{short_line}
use Rattle.list_search.proofs.list_reader.read_line.Goals as goal

pub returns-then-len-gt-MAX_DIGITS : goal.returns-then-len-gt-MAX_DIGITS
returns-then-len-gt-MAX_DIGITS c line len kept = grind (arith, nat_tests)

pub returns : goal.returns
returns c line len kept =
    c.from_hex.ensures ∙ ap (full_read hex_letter) (sym (short_line line c.args.len c.args.kept.now len c.if-len-gt-MAX_DIGITS.false kept))
