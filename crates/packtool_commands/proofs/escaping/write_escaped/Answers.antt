use Rattle.gix_hash.proofs.Std.{ap, subst, sym, ◌∙◌}
use Rattle.streams.specs.Streams.{Wrote}
use Rattle.streams.proofs.WritingLemmas.{Wrote-line}
use Rattle.packtool_commands.specs.Files.{escape_of, escaped}
use Rattle.packtool_commands.proofs.EscapeLemmas.{escaped-plain}
use Rattle.packtool_commands.proofs.escaping.write_escaped.Goals as goal

pub returns-then-not-has_special : goal.returns-then-not-has_special
returns-then-not-has_special g c =
    let plain = escaped-plain c.args.name.now (sym c.has_special.ensures ∙ c.if-not-has_special.true) in
    subst (Wrote _ _ _ _ _) (c.as_bytes.ensures.value ∙ sym plain) c.write_all.ensures

pub returns-in_err-write_escape : goal.returns-in_err-write_escape
returns-in_err-write_escape g c =
    subst (Wrote _ _ _ _ _) (ap escaped c.as_bytes-byte-items.ensures.value)
    (Wrote-line _ escape_of c.as_bytes-byte-items.result.now c.loop-byte.byte-index 0 c.loop-byte-test.true c.from_residual.ensures.0 c.loop-byte.invariant.0
    c.in_err-write_escape.ensures)
