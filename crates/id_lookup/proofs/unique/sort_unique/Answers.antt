use Rattle.gix_hash.proofs.Std.{sym, All-same}
use Rattle.std.proofs.lemmas.List.Filters.{dedup_is}
use Rattle.gix_hash.specs.Words.{AreIdDigits, id_digits, id_kind}
use Rattle.id_lookup.proofs.SortedOnce.{kept_kinds, kept_members, kept_strict, index_of_sorted}
use Rattle.id_lookup.proofs.unique.sort_unique.Goals as goal

pub returns-clause-sorted : goal.returns-clause-sorted
returns-clause-sorted g c = kept_strict _ _ _ c.sort_unstable.ensures.permutation c.sort_unstable.ensures.sorted (dedup_is _ _ _ c.dedup.ensures.filtered)

pub returns-clause-members : goal.returns-clause-members
returns-clause-members g c = kept_members _ _ _ c.sort_unstable.ensures.permutation c.sort_unstable.ensures.sorted (dedup_is _ _ _ c.dedup.ensures.filtered)

pub returns-clause-digits : goal.returns-clause-digits
returns-clause-digits g c = All-same (λ id. AreIdDigits (id_kind id) (id_digits id)) _ _ (sym c.deref.ensures.value) c.note_digits.ensures

pub returns-clause-index : goal.returns-clause-index
returns-clause-index g c = λ kind of_kind.
    index_of_sorted kind _ _ of_kind (returns-clause-members g c) (returns-clause-sorted g c) (λ k d low. (returns-clause-digits g c k d low).0)

pub returns-clause-kinds : goal.returns-clause-kinds
returns-clause-kinds g c = λ kind of_kind. kept_kinds kind _ _ of_kind (returns-clause-members g c)
