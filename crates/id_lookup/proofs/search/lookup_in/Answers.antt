use Rattle.gix_hash.proofs.Std.{◌<◌, length, arith}
use Rattle.id_lookup.proofs.Placed.{run_is}
use Rattle.id_lookup.proofs.search.lookup_in.Goals as goal

pub returns-then-hex_len-lt-DIGITS_OF_A_BYTE-clause-run : goal.returns-then-hex_len-lt-DIGITS_OF_A_BYTE-clause-run
returns-then-hex_len-lt-DIGITS_OF_A_BYTE-clause-run g c =
    let len = rw c.prefix.ensures.value at c.hex_len.ensures.value in
    let short : length c.args.probes.now.prefix.digits < 2 = omega (arith, len) in
    run_is c.args.probes.now.prefix c.args.probes.now.ids c.candidates-part.ensures.can_probe.sorted _
    (c.candidates-part.ensures.part.start short) (c.candidates-part.ensures.part.end short)
