use Rattle.gix_hash.proofs.Std.{ap, refl, ◌∙◌}
use Rattle.gix_hash.specs.Words.{place}
use Rattle.id_lookup.proofs.probes.Probes.ask.Goals as goal

pub returns-clause-counted : goal.returns-clause-counted
returns-clause-counted g c = rw (← c.self.view_is) refl

pub returns-clause-answer : goal.returns-clause-answer
returns-clause-answer g c =
    λ d. rw (← c.self.view_is) (c.cmp_oid.ensures ∙ ap (place c.self.inside.prefix.digits) (c.id_at.ensures.digits d))
