-- The abbreviation of the only id that begins with a prefix, which is decided among those that begin with its first digits.
use Rattle.gix_hash.proofs.Std.{◌≡◌, ℕ, ◌+◌, ◌-◌, ◌<◌, ◌≤◌, min, Bool, true, nat_eq, None, Some, List, [], ◌∷◌, ◌++◌, filter, length, get_or, map, take, drop, refl, sym, ap, ◌∙◌, subst, arith, append-nil, Contains, starts_with, drop-cons, length-append, length-drop, length-take, nil_from_length, All-contains, All-from_all_within, Contains-get_or}
use Rattle.id_lookup.specs.Words.{IsIndexOf, IsRun, Kind, KindDigits, ObjectId, first_byte_of, hex_len_of, id_digits, matches}
use Rattle.id_lookup.specs.declared.search.Run.{Run}
use Rattle.id_lookup.proofs.Beginnings.{first_byte_of-begins}
use Rattle.id_lookup.proofs.Filters.{contains_had, contains_kept, filter_within, kept_passes}
use Rattle.id_lookup.proofs.SameMembers.{index-filter, one_position}
use Rattle.id_lookup.proofs.Spelled.{starts_with-BeginsWith}
use Rattle.object_store.specs.Several.{IsAbbreviated, IsAbbreviatedAs}
use Rattle.object_store.specs.Stores.{AreIdsRead, AreMatches, IsAbbreviationOf, IsAbbreviationIn, StoreView}
use Rattle.object_store.specs.declared.abbreviations.Abbreviation.{Abbreviation}
use Rattle.object_store.specs.declared.abbreviations.Abbreviation.TheVariants.{Ambiguous, Missing, Unique}
use Rattle.object_store.specs.declared.abbreviations.AbbreviatedId.{AbbreviatedId}
use Rattle.object_store.proofs.AbbreviationsAmong.{begins_itself, abbreviation_in_read}
use Rattle.object_store.proofs.Prefixes.{begins_whole}
use Rattle.pack_index.proofs.Parts.{begins_less}

-- if the run of a prefix is one long, then the only id that begins with the prefix is the one there
pub only_one : (prefix : KindDigits) (ids : List (List ℕ)) (at : ℕ) → IsRun prefix ids (record { start = at; end = at + 1 }) → matches prefix.digits ids ≡ get_or ids at [] ∷ []
only_one prefix ids at is =
    let one : at + 1 - at ≡ 1 = omega arith in
    sym is.found ∙ ap (λ n. take n (drop at ids)) one ∙ ap (take 1) (drop-cons ids at [] (omega (arith, is.in_range)))

-- as many ids begin with a prefix as its run is long
pub run_length : (prefix : KindDigits) (ids : List (List ℕ)) (run : Run) → IsRun prefix ids run → length (matches prefix.digits ids) ≡ run.end - run.start
run_length prefix ids run is =
    let found : take (run.end - run.start) (drop run.start ids) ≡ matches prefix.digits ids = is.found in
    omega (arith, ap length found, length-take (run.end - run.start) (drop run.start ids), length-drop run.start ids, is.in_range)

-- what passes of an index is the index of what passes
pub index_of_passing : (kind : Kind) (p : List ℕ → Bool) (all whole : List (List ℕ)) → IsIndexOf kind all whole → IsIndexOf kind (filter p all) (filter p whole)
index_of_passing kind p all whole is = record {
  index = index-filter kind p whole is.index;
  members = λ id. (
    λ c. contains_kept p all id ((is.members id).0 (contains_had p whole id c)) (kept_passes p whole id c),
    λ c. contains_kept p whole id ((is.members id).1 (contains_had p all id c)) (kept_passes p all id c),
  );
}

-- the first digits of a prefix have its first byte
module _ (fewest : ℕ) (digits front : List ℕ) (is : front ≡ take fewest digits) where
  size : length front ≡ min fewest (length digits)
  size = ap length is ∙ length-take fewest digits

  pub begins_so : starts_with nat_eq digits front ≡ true
  begins_so = subst (λ (ds : List ℕ). starts_with nat_eq digits ds ≡ true) (sym is) (begins_itself digits fewest)

  pub front_byte : 4 ≤ fewest → 2 ≤ length digits → first_byte_of front ≡ first_byte_of digits
  front_byte enough two = sym (first_byte_of-begins digits front (omega (arith, size, enough, two)) begins_so)

-- so the abbreviation is decided by the ids that begin with the first digits
pub is_abbreviated : (fewest : ℕ) (view : StoreView) (digits front : List ℕ) (ids : List ObjectId) (abbreviation : Abbreviation) → front ≡ take fewest digits → 4 ≤ fewest
    → 2 ≤ length digits → AreMatches view front ids → IsAbbreviatedAs fewest view.kind (map id_digits ids) (matches digits (map id_digits ids)) abbreviation
    → IsAbbreviated fewest view digits abbreviation
is_abbreviated fewest view digits front ids abbreviation is enough two are at = record {
  read = are.read;
  ids_read = subst (λ b. AreIdsRead view b are.read) (front_byte fewest digits front is enough two) are.ids_read;
  found = matches digits (map id_digits ids);
  index = subst (λ (all : List (List ℕ)). IsIndexOf view.kind all (matches digits (map id_digits ids)))
      (filter_within (λ id. starts_with nat_eq id front) (λ id. starts_with nat_eq id digits) begins are.read)
      (index_of_passing view.kind (λ id. starts_with nat_eq id digits) (matches front are.read) (map id_digits ids) are.index);
  says = by abbreviation at;
}
  where
    begins : (id : List ℕ) → starts_with nat_eq id digits ≡ true → starts_with nat_eq id front ≡ true
    begins id = begins_less id digits front (begins_so fewest digits front is)

    by : (a : Abbreviation) → IsAbbreviatedAs fewest view.kind (map id_digits ids) (matches digits (map id_digits ids)) a
        → IsAbbreviatedAs fewest view.kind are.read (matches digits (map id_digits ids)) a
    by Missing none = none
    by Ambiguous many = many
    by (Unique n) found = (
      found.0,
      abbreviation_in_read view.kind fewest are.read (map id_digits ids) front are.index (omega (arith, size fewest digits front is)) (id_digits n.id) n.abbreviation.digits found.1,
      found.2,
    )

-- an id has its abbreviation as the only one that begins with all of its digits
module _ (fewest : ℕ) (view : StoreView) (id : List ℕ) (long : length id ≡ hex_len_of view.kind) where
  abbrev IsLong : List ℕ → Type 0
  IsLong other = length other ≡ hex_len_of view.kind

  itself : starts_with nat_eq id id ≡ true
  itself = begins_whole id

  module _ (read found : List (List ℕ)) (index : IsIndexOf view.kind (matches id read) found) where
    only : (other : List ℕ) → Contains found other → other ≡ id
    only other has =
        let begins = (starts_with-BeginsWith other id).0 (kept_passes (λ x. starts_with nat_eq x id) read other ((index.members other).0 has)) in
        let here : IsLong other = All-contains IsLong found other (All-from_all_within IsLong found index.index.kinds) has in
        let none : begins.0 ≡ [] = nil_from_length begins.0 (omega (arith, ap length begins.1, length-append id begins.0, here, long)) in
        begins.1 ∙ ap (λ (rest : List ℕ). id ++ rest) none ∙ append-nil id

    is_found : Contains read id → Contains found id
    is_found has = (index.members id).1 (contains_kept (λ x. starts_with nat_eq x id) read id has itself)

    none_found : found ≡ [] → ¬ Contains read id
    none_found none has = let there = is_found has in omega (arith, there.1, ap length none)

    not_many : ¬ (1 < length found)
    not_many many =
        let first = only (get_or found 0 []) (Contains-get_or found 0 [] (omega (arith, many))) in
        let second = only (get_or found 1 []) (Contains-get_or found 1 [] many) in
        let same = one_position view.kind found index.index 0 1 (omega (arith, many)) many (first ∙ sym second) in
        omega (arith, same)

    is_only : (other : List ℕ) → found ≡ other ∷ [] → other ≡ id
    is_only other one = only other (subst (λ (xs : List (List ℕ)). Contains xs other) (sym one) (0, omega arith, refl))

  pub abbreviation_missing : IsAbbreviated fewest view id Missing → IsAbbreviationOf fewest view id None
  abbreviation_missing is = record { read = is.read; ids_read = is.ids_read; is = none_found is.read is.found is.index is.says }

  pub abbreviation_ambiguous : IsAbbreviated fewest view id Ambiguous → IsAbbreviationOf fewest view id None
  abbreviation_ambiguous is = absurd (not_many is.read is.found is.index is.says)

  pub abbreviation_unique : (n : AbbreviatedId) → IsAbbreviated fewest view id (Unique n) → IsAbbreviationOf fewest view id (Some n.abbreviation)
  abbreviation_unique n is = record {
    read = is.read;
    ids_read = is.ids_read;
    is = (
      subst (λ (x : List ℕ). IsAbbreviationIn fewest is.read x n.abbreviation.digits) (is_only is.read is.found is.index (id_digits n.id) is.says.0) is.says.1,
      is.says.2.1,
    );
  }
