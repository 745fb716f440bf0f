use Rattle.gix_hash.proofs.Std.{inr, subst}
use Rattle.id_lookup.specs.Words.{Kind}
use Rattle.pack_index.specs.Format.{IsPackIndex}
use Rattle.pack_index.proofs.Refusals.{no_index}
use Rattle.pack_index.proofs.index_file.error_or_other.Goals as goal

pub returns-in-Err : goal.returns-in-Err
returns-in-Err c =
    inr (subst (λ (kind : Kind). ¬ IsPackIndex kind c.args.bytes.now) c.other_than-other.ensures (no_index _ _ _ c.in-Err.ensures.err), c.requires)
