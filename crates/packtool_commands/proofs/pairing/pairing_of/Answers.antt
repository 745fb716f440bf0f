use Rattle.gix_hash.proofs.Std.{ap, arith, drop, length, length-drop, length-take-le, subst, ◌-◌, ◌*◌, ◌<◌, ◌∙◌}
use Rattle.id_lookup.specs.Words.{byte_len_of, digits_of}
use Rattle.packtool_commands.specs.Files.{EndsIn}
use Rattle.packtool_commands.proofs.pairing.pairing_of.Goals as goal

pub returns-in_default : goal.returns-in_default
returns-in_default c bytes ends =
    let index = c.args.index.now.bytes in
    let len = byte_len_of c.args.index.now.kind in
    let short : length bytes < len = subst (EndsIn c.args.index.now.kind bytes) c.in_default.is ends in
    let named = length-take-le (length index - len - (length index - 2 * len)) (drop (length index - 2 * len) index)
    (omega (arith, c.requires, length-drop (length index - 2 * len) index)) in (
      c.to_owned.ensures.digits ∙ ap digits_of c.pack_checksum-named.ensures,
      short,
      λ same. omega (
        arith,
        c.requires,
        short,
        ap length same,
        named,
        length-take-le (length bytes - (length bytes - len)) (drop (length bytes - len) bytes)
            (omega (arith, length-drop (length bytes - len) bytes)),
        length-drop (length bytes - len) bytes,
      ),
    )
