use Rattle.gix_hash.proofs.Std.{subst}
use Rattle.id_lookup.specs.Words.{Kind}
use Rattle.packtool_commands.specs.Files.{EndsIn}
use Rattle.packtool_commands.proofs.pairing.pair.Goals as goal

pub returns-clause-pairing : goal.returns-clause-pairing
returns-clause-pairing g c bytes is =
    c.pairing_of.ensures bytes
    (subst (λ (kind : Kind). EndsIn kind bytes c.in_ok-last_digest.field-0) c.object_hash.ensures.kind (c.in_ok-last_digest.ensures.digest bytes is))
