use Rattle.gix_hash.proofs.Std.{rules, subst, sym}
use Rattle.repositories.proofs.Quoted.{Means, means_all, means_byte}
use Rattle.repositories.proofs.alternates.unquote.Goals as goal

pub loop-byte-preserved : goal.loop-byte-preserved
loop-byte-preserved g c = record {
  fewer = search rules;
  means = subst (λ bytes. Means c.args.quoted.now bytes c.in-Some.rest.now) (sym c.in_ok-push.ensures.items)
      (means_byte _ _ _ _ _ c.in-Some.ensures.byte c.in-Some.ensures.fewer c.loop-byte.invariant.means);
}

pub returns-in-Some-after_mark-clause-means : goal.returns-in-Some-after_mark-clause-means
returns-in-Some-after_mark-clause-means g c = means_all _ _ _ _ c.in_default.ensures.byte c.in-Some-after_mark.ensures c.loop-byte.invariant.means

pub returns-clause-means : goal.returns-clause-means
returns-clause-means g c = means_all _ _ _ _ c.in_default.ensures.byte c.in-None.ensures c.loop-byte.invariant.means
