use Rattle.std.proofs.Common.{rules, List, ◌≡◌, ap, sym, subst, ◌∙◌}
use Rattle.std.specs.List.{AllZip}
use Rattle.id_lookup.specs.Words.{KindDigits}
use Rattle.streams.specs.Streams.{lines_of}
use Rattle.packtool_commands.specs.Stores.{prefixes_of}
use Rattle.packtool_commands.proofs.AnswerLemmas.{can_look_up}
use Rattle.packtool_commands.proofs.reopening.look_up_lines.Goals as goal

-- found for prefixes in a store, as it is found for the same prefixes in a store that is the same
moved : {S F : Type 0} (Finds : S → KindDigits → F → Type 0) {seen store : S} {xs ys : List KindDigits} (found : List F) → seen ≡ store → xs ≡ ys
    → AllZip (Finds seen) xs found → AllZip (Finds store) ys found
moved Finds {seen} {store} {xs} {ys} found same is each = subst (λ some. AllZip (Finds some) ys found) same (subst (λ some. AllZip (Finds seen) some found) is each)

pub look_up_again-looked-requires-clause-can : goal.look_up_again-looked-requires-clause-can
look_up_again-looked-requires-clause-can g c = λ seen is. (
  can_look_up c.args.lines.now.kind (lines_of c.args.lines.now.text.now) is c.requires.kind c.requires.listed
      c.prefixes-prefixes.ensures.items c.prefixes-prefixes.ensures.are,
  c.requires.fits (g.S.Store.view seen.now) is.kind,
)

pub returns-clause-found : goal.returns-clause-found
returns-clause-found g c =
    moved (λ store (prefix : KindDigits) one. g.L.LookUp.finds c.args.look_up.now store prefix.digits one) _ c.look_up_again-looked.ensures.found.shows
    (c.prefixes-prefixes.ensures.are ∙ ap (λ kind. prefixes_of kind (lines_of c.args.lines.now.text.now))
    (c.requires.kind ∙ sym c.look_up_again-looked.ensures.reopened.kind))
    (search rules)
