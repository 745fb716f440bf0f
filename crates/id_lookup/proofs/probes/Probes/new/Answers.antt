use Rattle.gix_hash.proofs.Std.{arith}
use Rattle.id_lookup.proofs.Least.{least_hex_len-le}
use Rattle.id_lookup.proofs.probes.Probes.new.Goals as goal

pub over-requires : goal.over-requires
over-requires g c =
    rw c.members.ensures.value record {
      sorted = c.members.ensures.sorted;
      enough_digits = λ k d inside. omega (arith, c.requires, least_hex_len-le c.args.ids.now k d inside);
    }
