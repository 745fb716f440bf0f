use Rattle.gix_hash.proofs.Std.{◌∙◌, ◌++◌, ◌+◌, [], Bor, List, ap, cond, count_by, filter, flat_map, map, not, refl, subst, sym, unwrap_or, vec_len, ℕ}
use Rattle.std.proofs.lemmas.List.Sorted.{sum_by-IsPermutation}
use Rattle.std.specs.Str.{is_utf8}
use Rattle.directory_store.specs.Packs.{AreIndexNames, index_in, is_index_name, split_names}
use Rattle.directory_store.specs.Stores.{index_path}
use Rattle.directory_store.proofs.packs.push_indexes.Goals as goal

abbrev texts : List (Bor (List ℕ)) → List (List ℕ)
texts names = map (λ (name : Bor (List ℕ)). name.now) names

pub returns-clause-indexes : goal.returns-clause-indexes
returns-clause-indexes g c = λ at known.
    let names = c.in_ok-names.names.items in (
      flat_map (index_in c.args.directory.now) (texts names),
      record {
        names = c.in_ok-listed.listed.items;
        listed = c.in_ok-listed.ensures at known;
        sorted = texts names;
        chosen = subst (λ (bytes : List ℕ). AreIndexNames (split_names bytes) (texts names)) c.deref.ensures.value c.in_ok-names.ensures;
        all = refl;
      },
      c.in_ok-push_names.ensures.indexes ∙ ap (λ (l : List (Bor (List ℕ))). map index_path c.args.indexes.now.paths.items ++ flat_map (index_in c.args.directory.now) (texts l)) c.deref-2.ensures.value,
    )

pub returns-clause-skipped : goal.returns-clause-skipped
returns-clause-skipped g c = λ at known.
    let old = vec_len c.args.indexes.now.skipped in
    let count : List (List ℕ) → ℕ = count_by (λ name. not (is_utf8 name)) in
    let all : List ℕ → List (List ℕ) = λ listed. filter is_index_name (split_names listed) in
    let sorted = sum_by-IsPermutation (λ name. cond (not (is_utf8 name)) 1 0) (all c.deref.result.now) (texts c.in_ok-names.names.items) c.in_ok-names.ensures.same in
    c.in_ok-push_names.ensures.skipped ∙ ap (λ names. old + count (texts names)) c.deref-2.ensures.value
    ∙ ap (λ n. old + n) (sorted ∙ ap (λ listed. count (all listed)) c.deref.ensures.value ∙ ap (λ listed. count (all (unwrap_or listed []))) (sym (c.in_ok-listed.ensures at known)))
