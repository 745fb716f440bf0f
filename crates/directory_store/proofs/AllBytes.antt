-- What a store that lists the loose objects with one first byte has of the objects with any.
use mathlib.Core.Logic.{∥∥₁_map}
use Rattle.gix_hash.proofs.Std.{◌≡◌, ◌∷◌, ◌<◌, ◌≤◌, [], ℕ, Bool, Contains, Contains-get_or, List, get_or, arith, inl, inr, length, nat_eq, range_with_len, refl, starts_with, subst, sym}
use Rattle.std.proofs.lemmas.List.FromFn.{get_or-range_with_len, length-range_with_len}
use Rattle.gix_hash.specs.Words.{first_byte_of}
use Rattle.gix_hash.specs.declared.Kind.{Kind}
use Rattle.id_lookup.specs.Words.{IsIndexOf, matches}
use Rattle.id_lookup.proofs.Beginnings.{first_byte_of-begins}
use Rattle.id_lookup.proofs.Filters.{contains_had, contains_kept, kept_passes}
use Rattle.id_lookup.proofs.SameMembers.{part_is}
use Rattle.object_store.proofs.Whole.{abbreviation_among, read_had, read_has}
use Rattle.object_store.specs.Stores.{AreIdsRead, IsAbbreviationIn, StoreView}
use Rattle.repositories.specs.Answers.{Answers}
use Rattle.directory_store.specs.Loose.{bytes_asked}
use Rattle.directory_store.specs.Opened.{AreObjects, AreRight, HasAll, IsObject}
use Rattle.directory_store.specs.Stores.{IsListedBy}
use Rattle.directory_store.specs.declared.loose.LooseIds.{LooseIds}
use Rattle.directory_store.specs.declared.loose.LooseIds.TheVariants as loose_ids
use Rattle.directory_store.specs.declared.multi.Purpose.{Purpose}
use Rattle.directory_store.proofs.Wholes.{contained, found_members}

in_range : (n byte : ℕ) → byte < n → Contains (range_with_len 0 n) byte
in_range n byte low =
    let is : get_or (range_with_len 0 n) byte 0 ≡ byte = omega (arith, get_or-range_with_len 0 n byte 0 low) in
    subst (Contains (range_with_len 0 n)) is (Contains-get_or (range_with_len 0 n) byte 0 (omega (arith, low, length-range_with_len 0 n)))

-- a list of one has nothing else
pub only_one : {X : Type 0} (only other : X) → Contains (only ∷ []) other → other ≡ only
only_one only other has = grind arith

-- a byte of which loose objects are listed is one of the bytes that are asked for
asked : (which : LooseIds) (byte : ℕ) → byte < 256 → IsListedBy which byte → Contains (bytes_asked which) byte
unfolding bytes_asked
asked loose_ids.All byte low is = in_range 256 byte low
asked (loose_ids.WithFirstByte only) byte low is = subst (λ b. Contains (only ∷ []) b) (sym (is only refl)) (Contains-get_or (only ∷ []) 0 0 (omega arith))

-- and all that are asked for are bytes, if one of which they are listed is
asked_all : (which : LooseIds) (first byte : ℕ) → first < 256 → IsListedBy which first → Contains (bytes_asked which) byte → Contains (bytes_asked loose_ids.All) byte
unfolding bytes_asked
asked_all loose_ids.All first byte low is has = has
asked_all (loose_ids.WithFirstByte only) first byte low is has = in_range 256 byte (omega (arith, low, is only refl, only_one only byte has))

module _ (at : Answers) (which : LooseIds) (kind : Kind) (directories : List (List ℕ)) (first : ℕ) (low : first < 256) (listed : IsListedBy which first) where
  -- the objects that are asked for are among all, and all with this first byte are asked for
  among_all : (digits : List ℕ) → IsObject at kind which directories digits → IsObject at kind loose_ids.All directories digits
  among_all digits is = (
    is.0,
    is.1,
    elim is.2 [
      | inl packed ↦ inl packed
      | inr loose ↦ inr (asked_all which first (first_byte_of digits) low listed loose.0, loose.1)
    ],
  )

  all_asked : (digits : List ℕ) → first_byte_of digits ≡ first → IsObject at kind loose_ids.All directories digits → IsObject at kind which directories digits
  all_asked digits same is = (
    is.0,
    is.1,
    elim is.2 [
      | inl packed ↦ inl packed
      | inr loose ↦ inr (subst (Contains (bytes_asked which)) (sym same) (asked which first low listed), loose.1)
    ],
  )

module _ (at : Answers) (purpose : Purpose) (which : LooseIds) (directories objects : List (List ℕ)) (view : StoreView) (has : HasAll at purpose which directories view)
    (right : AreRight at purpose view.kind directories) (are : AreObjects at view.kind loose_ids.All directories objects) where
  -- what is found in the store are these objects that begin with the digits
  pub found_of_all : (prefix : List ℕ) (read found : List (List ℕ)) → IsListedBy which (first_byte_of prefix) → 2 ≤ length prefix → AreIdsRead view (first_byte_of prefix) read
      → IsIndexOf view.kind (matches prefix read) found → found ≡ matches prefix objects
  found_of_all prefix read found listed long ids_read index =
      let p : List ℕ → Bool = λ id. starts_with nat_eq id prefix in
      let first = first_byte_of prefix in
      let low = ids_read.small in
      let members = found_members at purpose which directories view prefix read found has right long ids_read index in
      part_is view.kind p objects objects found (record { index = are.index; members = λ digits. (λ is. is, λ is. is) })
      (record {
        index = index.index;
        members = λ digits. (
          λ is.
              let there = (members digits).0 is in
              let object = contained objects digits (∥∥₁_map there.1 (λ one. (are.members digits).1 (among_all at which view.kind directories first low listed digits one))) in
              contains_kept p objects digits object there.0,
          λ is.
              let begins = kept_passes p objects digits is in
              let same = first_byte_of-begins digits prefix long begins in
              (members digits).1 (begins, ∣ all_asked at which view.kind directories first low listed digits same ((are.members digits).0 (contains_had p objects digits is)) ∣₁),
        );
      })

  -- and an abbreviation among the ids that were read is one among all of these objects
  pub abbreviation_of_all : (read : List (List ℕ)) (least : ℕ) (id name : List ℕ) → IsListedBy which (first_byte_of id) → AreIdsRead view (first_byte_of id) read → 2 ≤ least
      → IsAbbreviationIn least read id name → IsAbbreviationIn least objects id name
  abbreviation_of_all read least id name listed ids_read two is =
      let first = first_byte_of id in
      let low = ids_read.small in
      let known = has.are_known right in
      abbreviation_among first read objects
      (λ digits there.
      contained objects digits (∥∥₁_map ((has.members right digits).0 (read_had view first read known ids_read digits there))
      (λ one. (are.members digits).1 (among_all at which view.kind directories first low listed digits one))))
      (λ digits same there.
      read_has view first read known ids_read digits same ((has.members right digits).1
      ∣ all_asked at which view.kind directories first low listed digits same ((are.members digits).0 there) ∣₁))
      least id name two refl is
