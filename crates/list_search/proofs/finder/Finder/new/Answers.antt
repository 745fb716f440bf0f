use Rattle.gix_hash.proofs.Std.{[], refl}
use Rattle.list_search.specs.Searches.{first_refused}
use Rattle.list_search.specs.SearchStates.{IsLeast}
use Rattle.list_search.specs.declared.search.Search.TheVariants.{Sorted, In}
use Rattle.list_search.proofs.finder.Finder.new.Goals as goal

pub returns-clause-known : goal.returns-clause-known
unfolding first_refused
returns-clause-known g c search digits = record {
  counted = refl;
  in_order = refl;
  is_last = λ _. refl;
  is_least = λ _. elim search as (λ s. IsLeast s 64 []) [ Sorted alphabet ↦ refl | In kind ↦ tt ];
  are_found = λ _ _. rw c.new.ensures.items refl;
}
