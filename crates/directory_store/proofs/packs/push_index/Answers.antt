use mathlib.Core.Logic.{∥∥₁_map}
use Rattle.gix_hash.proofs.Std.{◌≡◌, ◌∙◌, ◌++◌, ◌∷◌, All, List, [], ap, append-nil, arith, false_from_ne_true, map, map-append, rules, subst, sym, ℕ}
use Rattle.std.specs.Path.{path_join}
use Rattle.std.proofs.lemmas.Str.{IsUtf8-from_is_utf8, is_utf8-from_IsUtf8}
use Rattle.std.specs.Str.{IsUtf8, is_utf8}
use Rattle.directory_store.specs.Stores.{IsUnread, index_path}
use Rattle.directory_store.proofs.IndexLists.{is_no_text, is_text}
use Rattle.directory_store.proofs.Members.{pushed}
use Rattle.directory_store.proofs.packs.push_index.Goals as goal

pub returns-in_ok-push-in-Ok-clause-index : goal.returns-in_ok-push-in-Ok-clause-index
returns-in_ok-push-in-Ok-clause-index g c =
    let old = c.args.indexes.now.paths.items in
    let paths = c.in_ok-paths_of-in-Ok.field-0 in
    let text : IsUtf8 c.args.name.now = search rules in
    let name : c.in-Ok.name.now ≡ c.args.name.now = search rules in
    let path : index_path paths ≡ path_join c.args.directory.now c.args.name.now = c.in_ok-paths_of-in-Ok.ensures ∙ ap (path_join c.args.directory.now) name in
    ap (map index_path) c.in_ok-push-in-Ok.ensures.items ∙ map-append index_path old (paths ∷ []) ∙ ap (λ (path : List ℕ). map index_path old ++ path ∷ []) path
    ∙ ap (λ (l : List (List ℕ)). map index_path old ++ l) (sym (is_text c.args.directory.now c.args.name.now text))

pub returns-in_ok-push-in-Err-clause-index : goal.returns-in_ok-push-in-Err-clause-index
returns-in_ok-push-in-Err-clause-index g c =
    let old = map index_path c.args.indexes.now.paths.items in
    let none : ¬ (IsUtf8 c.args.name.now) = search rules in
    sym (append-nil old) ∙ ap (λ (l : List (List ℕ)). old ++ l) (sym (is_no_text c.args.directory.now c.args.name.now none))

pub returns-in_ok-push-in-Ok-clause-skipped : goal.returns-in_ok-push-in-Ok-clause-skipped
returns-in_ok-push-in-Ok-clause-skipped g c =
    let text : IsUtf8 c.args.name.now = search rules in
    rw (is_utf8-from_IsUtf8 c.args.name.now text) (omega arith)

pub returns-in_ok-push-in-Err-clause-skipped : goal.returns-in_ok-push-in-Err-clause-skipped
returns-in_ok-push-in-Err-clause-skipped g c =
    let none : ¬ (IsUtf8 c.args.name.now) = search rules in
    rw (false_from_ne_true (is_utf8 c.args.name.now) (λ is. none (IsUtf8-from_is_utf8 c.args.name.now is))) c.in_ok-push-in-Err.ensures.len

pub invariant_of-indexes-in-Err : goal.invariant_of-indexes-in-Err
invariant_of-indexes-in-Err g c = record {
  are_unread = ∥∥₁_map c.args.indexes.now.are_unread (λ are.
      let old = c.args.indexes.now.skipped.items in
      subst (All IsUnread) (sym c.push-in-Err.ensures.items) (pushed IsUnread old c.from.result _ are (c.text-error.result, c.from.ensures)));
}
