use Rattle.gix_hash.proofs.Std.{◌≡◌, ◌≢◌, ◌∙◌, Err, None, Some, codes, inl, inr, rules, subst, sym, true≢false}
use Rattle.std.specs.Path.{path_join}
use Rattle.repositories.specs.Formats.{Says, reported}
use Rattle.repositories.specs.Lookups.{short_file}
use Rattle.repositories.proofs.OneKind.{says_none}
use Rattle.repositories.proofs.files.kind_if_config.Goals as goal

pub returns : goal.returns
returns g c = λ other at known.
    let file : short_file 16777216 (path_join c.args.directory.now (codes "config")) at ≡ Some (Some c.in-Some.text.items) = search (rules, c.in_ok-text.ensures at known, c.in-Some.is) in
    let reports : reported c.in-Err.error ≢ None = λ none. true≢false (sym (c.config.ensures none) ∙ other) in
    let says : Says c.deref-2.result.now (Err c.in-Err.error) = elim c.in-Err.ensures [ inl none ↦ absurd (reports none) | inr says ↦ says ] in
    says_none c.args.directory.now c.in-Some.text.items c.in-Err.error at reports file (subst (λ text. Says text (Err c.in-Err.error)) c.deref-2.ensures.value says)
