use Rattle.gix_hash.proofs.Std.{subst, sym, Appends, flat_map-map}
use Rattle.gix_hash.specs.Words.{id_digits, letter_of}
use Rattle.gix_hash.specs.declared.ObjectId.{ObjectId}
use Rattle.streams.specs.Streams.{Wrote, line_of}
use Rattle.streams.proofs.WritingLemmas.{Wrote-line}
use Rattle.streams.proofs.printing.write_ids.Goals as goal

pub returns-in_err-write_id : goal.returns-in_err-write_id
returns-in_err-write_id g c =
    let line = line_of (letter_of c.args.alphabet) in
    subst (Wrote _ _ _ _ _) (sym (flat_map-map line id_digits c.args.ids.now))
    (Wrote-line _ (λ (id : ObjectId). line (id_digits id)) c.args.ids.now c.loop-id.id-index _ c.loop-id-test.true c.from_residual.ensures.0
    (subst (Appends _ _) (flat_map-map line id_digits _) c.loop-id.invariant.0) c.in_err-write_id.ensures)
