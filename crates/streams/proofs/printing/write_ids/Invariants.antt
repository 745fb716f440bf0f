use Rattle.gix_hash.proofs.Std.{◌≡◌, false, map, take, Appends}
use Rattle.gix_hash.specs.Words.{id_digits, letter_of}
use Rattle.streams.specs.Streams.{printed}
use Rattle.streams.proofs.printing.write_ids.Given as goal

abbrev pub invariant-loop-id : goal.invariant-loop-id
invariant-loop-id g l =
    Appends (g.W.Sink.taken l.fn.out) (g.W.Sink.taken l.out) (printed (letter_of l.fn.alphabet) (map id_digits (take l.id-index l.ids)))
    × (g.W.Sink.has_failed l.out ≡ false)
