use Rattle.gix_hash.proofs.Std.{◌≢◌, ◌-◌, length-set, get_or-set_other, map, arith, length-map, count_by-le-length}
use Rattle.id_lookup.specs.Runs.{is_up_to}
use Rattle.id_lookup.proofs.FirstByteCounts.{running, up_to_step}
use Rattle.id_lookup.proofs.fan_out.FanOut.of.Goals as goal

pub loop-byte-preserved : goal.loop-byte-preserved
loop-byte-preserved g c =
    let sums = c.loop-byte.invariant in
    let byte = c.loop-byte.byte in
    record {
      len = rw length-set sums.len;
      done = running c.loop-byte.counts (map g.I.Id.digits c.args.ids.now) byte sums.len (omega arith) (omega arith) sums.done (sums.left byte (omega arith) (omega arith));
      left = λ b low high. let ne : b ≢ byte = omega arith in rw get_or-set_other (sums.left b (omega arith) high);
    }

pub overflow_add-counts : goal.overflow_add-counts
overflow_add-counts g c =
    let ids = map g.I.Id.digits c.args.ids.now in
    let sums = c.loop-byte.invariant in
    let byte = c.loop-byte.byte in
    let all = length-map c.args.ids.now g.I.Id.digits in
    let few = c.first_bytes-counts.ensures.few in
    let fits = count_by-le-length (is_up_to byte) ids in
    let step = up_to_step byte ids (omega arith) in
    let left = sums.left byte (omega arith) (omega arith) in
    let done = sums.done (byte - 1) (omega arith) in
    omega arith
