-- The first ids that begin with a prefix, which are found among those that begin with its first digits.
use Rattle.gix_hash.proofs.Std.{◌≡◌, ℕ, ◌≤◌, Option, List, ap, arith, count_by-le-length, length, length-filter, length-map, map, refl, subst, sym, take, All, starts_with, nat_eq}
use Rattle.std.specs.Prelude.{Vec}
use Rattle.id_lookup.specs.Words.{IsIndexOf, ObjectId, id_digits, id_kind, matches}
use Rattle.id_lookup.proofs.Filters.{filter_within}
use Rattle.pack_index.proofs.Parts.{begins_less}
use Rattle.object_store.specs.Several.{AreFirstMatches, limited_to}
use Rattle.object_store.specs.Stores.{AreIdsRead, AreMatches, StoreView}
use Rattle.object_store.proofs.Abbreviated.{begins_so, front_byte, index_of_passing}

-- a vector with fewer items
fewer : {A : Type 0} (ids : Vec ObjectId A) (found : List ObjectId) → length found ≤ length ids.items → Vec ObjectId A
fewer ids found low = record ids { len = length found; items = found; ok = (refl, omega (arith, low, ids.ok.0, ids.ok.1)) }

pub first_matches : {A : Type 0} (limit : Option ℕ) (fewest : ℕ) (view : StoreView) (digits front : List ℕ) (ids : Vec ObjectId A) (found : List ObjectId) (first : Vec ObjectId A)
    → front ≡ take fewest digits → 4 ≤ fewest → 2 ≤ length digits → AreMatches view front ids.items
    → map id_digits found ≡ matches digits (map id_digits ids.items) → All (λ id. id_kind id ≡ view.kind) found → first.items ≡ limited_to limit found
    → AreFirstMatches limit view digits first
unfolding fewer
first_matches limit fewest view digits front ids found first is enough two are found_are kinds first_are = record {
  ids = fewer ids found
      (omega (arith, ap length found_are, length-map found id_digits, length-map ids.items id_digits, length-filter (λ id. starts_with nat_eq id digits) (map id_digits ids.items), count_by-le-length (λ id. starts_with nat_eq id digits) (map id_digits ids.items)));
  are_matches = record {
    read = are.read;
    ids_read = subst (λ b. AreIdsRead view b are.read) (front_byte fewest digits front is enough two) are.ids_read;
    index = subst (λ (some : List (List ℕ)). IsIndexOf view.kind (matches digits are.read) some) (sym found_are)
        (subst (λ (all : List (List ℕ)). IsIndexOf view.kind all (matches digits (map id_digits ids.items)))
        (filter_within (λ id. starts_with nat_eq id front) (λ id. starts_with nat_eq id digits) (λ id. begins_less id digits front (begins_so fewest digits front is)) are.read)
        (index_of_passing view.kind (λ id. starts_with nat_eq id digits) (matches front are.read) (map id_digits ids.items) are.index));
    kinds = kinds;
  };
  first_are = first_are;
}
