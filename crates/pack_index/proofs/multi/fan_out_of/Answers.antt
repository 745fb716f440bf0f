use Rattle.gix_hash.proofs.Std.{◌≡◌, ◌∙◌, ◌*◌, ap, sym, arith, length, rules}
use Rattle.id_lookup.specs.Words.{byte_len_of}
use Rattle.pack_index.specs.Lazy.{Rises, fan_out, up_to_at}
use Rattle.pack_index.specs.declared.layout.Layout.TheVariants.{Multi}
use Rattle.pack_index.proofs.ChunkTables.{entry_is, no_fall, same_fan_out, with_zeros}
use Rattle.pack_index.proofs.multi.fan_out_of.Goals as goal
use Rattle.pack_index.proofs.multi.fan_out_of.Goals.{then-ids-len-via-then-ids-len, then-ids-len-via-else-ids-len+then-is_some}

pub returns-then-ids-len-clause-known : goal.returns-then-ids-len-clause-known
returns-then-ids-len-clause-known g c = λ bytes is has.
    let kind = c.args.kind in
    let chunks = c.args.chunks.now in
    let head = with_zeros c.read_exact_at.new.buf in
    let long : length c.read_exact_at.new.buf ≡ 1024 = first_of (search rules, omega arith) in
    let entry = entry_is bytes c.read_exact_at.new.buf chunks (c.in_ok-read_exact_at.ensures.bytes bytes is) long in
    let here = same_fan_out kind chunks (up_to_at (Multi chunks.counts.start chunks.ids.start) bytes) (fan_out head) (λ byte low. sym (entry byte low)) has in
    elim c.then-ids-len.branch [
      | then-ids-len-via-then-ids-len w ↦
          w.if-ids-len.true (omega (arith, here.counted, c.ids_len-len.ensures.len, ap (λ n. byte_len_of kind * n) c.num_objects.ensures))
      | then-ids-len-via-else-ids-len+then-is_some w ↦ no_fall (Rises (fan_out head)) w.first_fall.result w.first_fall.ensures (sym w.is_some.ensures ∙ w.if-is_some.true) here.rises
    ]

pub returns-clause-known : goal.returns-clause-known
returns-clause-known g c = λ bytes is.
    entry_is bytes c.read_exact_at.new.buf c.args.chunks.now (c.in_ok-read_exact_at.ensures.bytes bytes is) (first_of (search rules, omega arith))
