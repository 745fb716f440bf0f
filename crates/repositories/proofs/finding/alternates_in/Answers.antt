use Rattle.gix_hash.proofs.Std.{◌≡◌, ◌∙◌, ◌+◌, ◌<◌, ◌++◌, ◌∷◌, [], List, ap, arith, err_from_is_err_and, get_or, length, map, map-append, rules, string_bytes, sym, take, ℕ}
use Rattle.std.proofs.lemmas.List.{map_more}
use Rattle.std.proofs.lemmas.List.Folds.{list_all-map, list_all_at}
use Rattle.std.specs.Str.{is_utf8}
use Rattle.repositories.specs.Discovery.{alternate_in}
use Rattle.repositories.proofs.finding.alternates_in.Goals as goal

-- one more item was pushed
push_next : {X Y Z : Type 0} (f : Y → Z) (g : X → Y) (xs : List X) (i : ℕ) (x : X) (old new : List Z) → i < length xs → x ≡ get_or xs i x
    → old ≡ map f (map g (take i xs)) → new ≡ old ++ f (g x) ∷ [] → new ≡ map f (map g (take (i + 1) xs))
push_next f g xs i x old new in_range item old_is new_is =
    new_is ∙ ap (λ old. old ++ f (g x) ∷ []) old_is
    ∙ sym (ap (map f) (map_more g xs i x in_range ∙ ap (λ x. map g (take i xs) ++ g x ∷ []) (sym item)) ∙ map-append f (map g (take i xs)) (g x ∷ []))

pub loop-path-preserved : goal.loop-path-preserved
loop-path-preserved g c =
    let pushed : map string_bytes c.push_alternate.new.alternates.items ≡ map string_bytes c.loop-path.alternates.items ++ alternate_in c.args.top.now c.path-item.result.items ∷ [] = search rules in
    push_next (alternate_in c.args.top.now) (λ path. path.items) c.args.named.now c.loop-path.path-index c.path-item.result _ _ (omega arith) c.path-item.is c.loop-path.invariant pushed

pub returns-in_err-push_alternate-clause-err : goal.returns-in_err-push_alternate-clause-err
returns-in_err-push_alternate-clause-err g c =
    let given = err_from_is_err_and c.from_residual.result c.from_residual.ensures.1 in
    rw (given.1, given.2) (λ other. list_all-map is_utf8 (λ path. path.items) c.args.named.now
    ∙ list_all_at (λ path. is_utf8 path.items) c.args.named.now c.loop-path.path-index c.path-item.result (omega arith)
    (ap (λ path. is_utf8 path.items) (sym c.path-item.is) ∙ ap is_utf8 (sym c.deref.ensures.value) ∙ c.in_err-push_alternate.ensures.err other))
