use Rattle.gix_hash.proofs.Std.{◌≡◌, ◌∙◌, None, inl, inr, ap, length, subst}
use Rattle.id_lookup.specs.Words.{KindDigits, hex_len_of, id_digits}
use Rattle.object_store.specs.Several.{IsAbbreviated}
use Rattle.object_store.specs.Stores.{IsAbbreviationOf}
use Rattle.object_store.proofs.Abbreviated.{abbreviation_ambiguous, abbreviation_missing, abbreviation_unique}
use Rattle.object_store.proofs.parts.Parts.abbreviate.Given.{Over}
use Rattle.object_store.proofs.parts.Parts.abbreviate.Goals.{In_ok-abbreviated}
use Rattle.object_store.proofs.parts.Parts.abbreviate.Goals as goal

module _ (g : Over) (c : In_ok-abbreviated g) where
  long : length (id_digits c.args.id.now) ≡ hex_len_of (g.S.Store.view c.args.self.now.now).kind
  long = c.kind-kind.ensures.len ∙ ap hex_len_of c.requires.kind

  abbreviated : IsAbbreviated c.args.least (g.S.Store.view c.args.self.now.now) (id_digits c.args.id.now) c.in_ok-abbreviated.field-0
  abbreviated = subst (λ (p : KindDigits). IsAbbreviated c.args.least (g.S.Store.view c.args.self.now.now) p.digits c.in_ok-abbreviated.field-0) c.from.ensures c.in_ok-abbreviated.ensures.abbreviation

pub returns-in-Unique-clause-abbreviation : goal.returns-in-Unique-clause-abbreviation
returns-in-Unique-clause-abbreviation g c =
    let here = (goal.at.returns-in-Unique-clause-abbreviation g c).In_ok-abbreviated in
    let id = id_digits c.args.id.now in
    abbreviation_unique c.args.least (g.S.Store.view c.args.self.now.now) id (long g here) c.in-Unique.abbreviated (subst (IsAbbreviated c.args.least (g.S.Store.view c.args.self.now.now) id) c.in-Unique.is (abbreviated g here))

pub returns-in-Missing : goal.returns-in-Missing
returns-in-Missing g c =
    let here = (goal.at.returns-in-Missing g c).In_ok-abbreviated in
    let view = g.S.Store.view c.args.self.now.now in
    let id = id_digits c.args.id.now in
    let none : IsAbbreviationOf c.args.least view id None = elim c.in-Missing.is [
      | inl missing ↦ abbreviation_missing c.args.least view id (long g here) (subst (IsAbbreviated c.args.least view id) missing (abbreviated g here))
      | inr ambiguous ↦ abbreviation_ambiguous c.args.least view id (long g here) (subst (IsAbbreviated c.args.least view id) ambiguous (abbreviated g here))
    ] in
    record { store = c.in_ok-abbreviated.ensures.store; abbreviation = none; err = tt }
