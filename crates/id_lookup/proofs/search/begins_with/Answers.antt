use Rattle.gix_hash.proofs.Std.{sym, ap, ◌∙◌, is_eq}
use Rattle.gix_hash.specs.Words.{hex_letter, id_digits, spelling}
use Rattle.id_lookup.proofs.Spelled.{begins_with-place, starts_with-spelling, starts_with-BeginsWith}
use Rattle.id_lookup.proofs.search.begins_with.Goals as goal

pub returns-clause-value : goal.returns-clause-value
returns-clause-value c =
    c.is_eq.ensures ∙ ap is_eq c.cmp_oid.ensures
    ∙ rw c.as_oid.ensures.digits (sym (begins_with-place c.args.prefix.now (id_digits c.args.id.now)))

pub returns-clause-spelling : goal.returns-clause-spelling
returns-clause-spelling c =
    rw (returns-clause-value c) (starts_with-BeginsWith (spelling hex_letter (id_digits c.args.id.now)) (spelling hex_letter c.args.prefix.now.digits))

pub returns-clause-digits : goal.returns-clause-digits
returns-clause-digits c =
    rw (returns-clause-value c ∙ starts_with-spelling (id_digits c.args.id.now) c.args.prefix.now.digits)
    (starts_with-BeginsWith (id_digits c.args.id.now) c.args.prefix.now.digits)
