use Rattle.gix_hash.proofs.Std.{◌≡◌, ◌∙◌, [], List, None, Option, Some, ap, ap₂, err_from_is_err_and, inl, inr, map, option_copied, option_map, refl, rules, string_bytes, sym, ℕ}
use Rattle.gix_hash.specs.declared.Kind.{Kind}
use Rattle.repositories.specs.Answers.{◌>>=◌, Answers}
use Rattle.repositories.specs.Discovery.{HasKind, HasKindBeside, HasKindFound, HasNoKindFound, Repository, alternates_of, find, found_objects}
use Rattle.repositories.specs.Views.{repository_of}
use Rattle.repositories.specs.declared.finding.ObjectDirectory.{ObjectDirectory}
use Rattle.repositories.specs.declared.repository.Environment.{Environment}
use Rattle.repositories.proofs.finding.find_objects_in.Goals as goal

of_repository : (given : Environment) (here : Option (List ℕ)) (directory : ObjectDirectory) (at : Answers) (found : Repository) → find given here at ≡ Some (Some found) → HasKind found.directory directory.kind at → HasKindFound given here directory at
of_repository given here directory at found is says = rw (is, HasKindFound) says

no_kind_of : (given : Environment) (here : Option (List ℕ)) (at : Answers) (found : Repository) → find given here at ≡ Some (Some found) → ((kind : Kind) → ¬ HasKind found.directory kind at) → HasNoKindFound given here at
no_kind_of given here at found is none directory place = rw (is, HasKindFound) (none directory.kind)

first_is : (found : Option (List ℕ)) (alternates : List (List ℕ)) → option_map (λ (pair : List ℕ × List (List ℕ)). pair.0) (option_map (λ path. (path, alternates)) found) ≡ found
first_is None alternates = refl
first_is (Some path) alternates = refl

no_kind_beside : (given : Environment) (here : Option (List ℕ)) (at : Answers) → find given here at ≡ Some None → ((path : List ℕ) (kind : Kind) → Some path ≡ option_map string_bytes given.object_directory → ¬ HasKindBeside path kind at)
    → HasNoKindFound given here at
no_kind_beside given here at is none directory place =
    let found : found_objects given None ≡ Some (string_bytes directory.path, map string_bytes directory.alternates.items) = sym (ap (λ found. found >>= found_objects given) is) ∙ place in
    let path : Some (string_bytes directory.path) ≡ option_map string_bytes given.object_directory = sym (ap (option_map (λ (pair : List ℕ × List (List ℕ)). pair.0)) found) ∙ first_is (option_map string_bytes given.object_directory) (alternates_of given []) in
    rw (is, HasKindFound) (none (string_bytes directory.path) directory.kind path)

pub returns-in_ok-objects_of-in-Some-clause-place : goal.returns-in_ok-objects_of-in-Some-clause-place
returns-in_ok-objects_of-in-Some-clause-place g c = λ at known.
    let found : find c.args.given.now (option_copied c.args.here) at ≡ Some (Some (repository_of c.in-Some.repository)) = search (rules, c.in_ok-repository.ensures at known, c.in-Some.is) in
    ap (λ found. found >>= found_objects c.args.given.now) found ∙ ap₂ (λ path alternates. Some (path, alternates)) (sym c.in_ok-objects_of-in-Some.ensures.path) (sym c.in_ok-objects_of-in-Some.ensures.alternates)

pub returns-in_ok-objects_of-in-Some-clause-kind : goal.returns-in_ok-objects_of-in-Some-clause-kind
returns-in_ok-objects_of-in-Some-clause-kind g c = λ at known.
    let found : find c.args.given.now (option_copied c.args.here) at ≡ Some (Some (repository_of c.in-Some.repository)) = search (rules, c.in_ok-repository.ensures at known, c.in-Some.is) in
    of_repository _ _ c.in_ok-objects_of-in-Some.field-0 at (repository_of c.in-Some.repository) found (c.in_ok-objects_of-in-Some.ensures.kind at known)

pub returns-in_err-objects_of-in-Some-clause-err : goal.returns-in_err-objects_of-in-Some-clause-err
returns-in_err-objects_of-in-Some-clause-err g c =
    let given = err_from_is_err_and c.from_residual-in_err-objects_of-in-Some.result c.from_residual-in_err-objects_of-in-Some.ensures.1 in
    rw (given.1, given.2) (λ other at known.
    let found : find c.args.given.now (option_copied c.args.here) at ≡ Some (Some (repository_of c.in-Some.repository)) = search (rules, c.in_ok-repository.ensures at known, c.in-Some.is) in
    elim (c.in_err-objects_of-in-Some.ensures.err other at known) [ inl none ↦ inr (inl (no_kind_of c.args.given.now (option_copied c.args.here) at (repository_of c.in-Some.repository) found none)) | inr text ↦ inr (inr text) ])

pub returns-in_err-objects_given-in-None-clause-err : goal.returns-in_err-objects_given-in-None-clause-err
returns-in_err-objects_given-in-None-clause-err g c =
    let given = err_from_is_err_and c.from_residual-in_err-objects_given-in-None.result c.from_residual-in_err-objects_given-in-None.ensures.1 in
    rw (given.1, given.2) (λ other at known.
    let found : find c.args.given.now (option_copied c.args.here) at ≡ Some None = search (rules, c.in_ok-repository.ensures at known, c.in-None.is) in
    elim (c.in_err-objects_given-in-None.ensures.err other at known) [ inl none ↦ inr (inl (no_kind_beside c.args.given.now (option_copied c.args.here) at found none)) | inr text ↦ inr (inr text) ])
