use Rattle.id_digits.proofs.Std.{◌∙◌, [], take_more, map-append, append-nil, concat-append}
use Rattle.gix_hash.proofs.hashing_laws.id_of_chunks.Goals as goal

pub loop-slice-preserved : goal.loop-slice-preserved
loop-slice-preserved c = record {
  kind = c.update.ensures.kind ∙ c.loop-slice.invariant.kind;
  fed = rw (take_more c.args.slices.now c.loop-slice.slice-index (record { ref_ptr = (0, 0); now = [] }) c.loop-slice-test.true, map-append, concat-append, append-nil)
      (c.update.ensures.fed _ c.loop-slice.invariant.fed);
}
