use Rattle.gix_hash.proofs.Std.{ap, ◌∙◌, arith}
use Rattle.id_lookup.specs.Words.{digits_of}
use Rattle.gix_hash_c.proofs.Reading.{read_answer}
use Rattle.gix_hash_c.proofs.prefixes.gix_hash_prefix_from_hex.Goals as goal

pub returns-in-Ok : goal.returns-in-Ok
returns-in-Ok c =
    read_answer c.args.text.now _ _ _ (omega arith) (omega arith) c.in-Ok.ensures
    (ap digits_of (c.copy_from_slice.ensures.after ∙ c.as_bytes.ensures.value) ∙ c.as_oid.ensures.digits)
