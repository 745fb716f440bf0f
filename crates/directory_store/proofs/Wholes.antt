-- What a store has of which nothing is skipped.
use mathlib.Core.Logic.{∥∥₁_elim, ∥∥₁_map, ∥∥₁_prop}
use Rattle.std.proofs.Props.{props}
use Rattle.gix_hash.proofs.Std.{◌≡◌, ◌∙◌, ◌∷◌, ◌++◌, ◌↔◌, ◌≢◌, ◌≤◌, [], ℕ, All, All-head, All-map, All-tail, Bool, Contains, Err, IfOk, IsTrue, List, None, Ok, Option, Result, Some, ap, arith, flat_map, get_or, length, length-append, map, map-id, map-map, nat_eq, nil_from_length, none-some, refl, starts_with, subst, sym, unwrap_or}
use Rattle.object_store.proofs.LooseParts.{any_decides}
use Rattle.gix_hash.specs.Words.{first_byte_of}
use Rattle.id_lookup.specs.Words.{IsIndexOf, matches}
use Rattle.id_lookup.proofs.Filters.{contains_had, contains_kept, kept_passes}
use Rattle.object_store.proofs.Held.{no_tables}
use Rattle.object_store.proofs.Whole.{read_matches}
use Rattle.object_store.specs.Stores.{AreIdsRead, AreKnown, StoreView, ids_held}
use Rattle.pack_index.specs.Lazy.{HaveRightCounts, IndexView, LazyIndex, Tables, seen}
use Rattle.repositories.specs.Answers.{Answers, IfKnown}
use Rattle.repositories.specs.Walks.{with_alternates}
use Rattle.repositories.specs.declared.finding.ObjectDirectory.{ObjectDirectory}
use Rattle.directory_store.specs.Loose.{HasLoose, bytes_asked}
use Rattle.directory_store.specs.Opened.{AreLooseOf, AreOpened, AreRight, HasAll, HasAllOf, IsObject, place_of}
use Rattle.directory_store.specs.Stores.{only_of}
use Rattle.directory_store.specs.declared.error.Error.{Error}
use Rattle.directory_store.specs.declared.loose.LooseIds.{LooseIds}
use Rattle.directory_store.specs.declared.loose.LooseObjects.{LooseObjects}
use Rattle.directory_store.specs.declared.multi.Purpose.{Purpose}
use Rattle.directory_store.proofs.Held.{are_known, ids_are}
use Rattle.directory_store.proofs.LooseMembers.{loose_members}

-- a list that is known to contain an id contains it
pub contained : (ids : List (List ℕ)) (id : List ℕ) → ∥ Contains ids id ∥₁ → Contains ids id
contained ids id has = (any_decides ids id).0 (∥∥₁_elim has (hlevel props) (any_decides ids id).1)

-- options of which none is missing are known
module _ {X : Type 0} (d : X) where
  none_missing : (xs : List (Option X)) → All (λ (x : Option X). x ≢ None) xs → xs ≡ map Some (map (λ (x : Option X). unwrap_or x d) xs)
  none_missing [] are = refl
  none_missing (None ∷ xs) are = absurd (All-head (λ (x : Option X). x ≢ None) None xs are refl)
  none_missing (Some x ∷ xs) are = ap (λ (rest : List (Option X)). Some x ∷ rest) (none_missing xs (All-tail (λ (x : Option X). x ≢ None) (Some x) xs are))

-- what is known of the pack indexes of a store
module _ (view : StoreView) (is : ∥ AreKnown view ∥₁) where
  abbrev seen_of : List (Option Tables)
  seen_of = map (λ (pack : IndexView). pack.tables) view.packs

  abbrev some_of : Option Tables → Tables
  some_of one = unwrap_or one no_tables

  abbrev IsThere : Option Tables → Type 0
  IsThere one = one ≢ None

  are_tables : (k : AreKnown view) → map some_of seen_of ≡ k.tables
  are_tables k = ap (map some_of) k.known ∙ map-map some_of Some k.tables ∙ map-id k.tables

  are_there : (k : AreKnown view) → All IsThere seen_of
  are_there k = subst (All IsThere) (sym k.known) (All-map IsThere Some k.tables (λ i d low missing. none-some (get_or k.tables i d) (sym missing)))

  pub known_again : AreKnown view
  known_again = record {
    tables = map some_of seen_of;
    known = none_missing no_tables seen_of (∥∥₁_elim is (hlevel props) are_there);
    are_counted = ∥∥₁_elim is (hlevel props) (λ k. subst (All HaveRightCounts) (sym (are_tables k)) k.are_counted);
  }

  pub ids_again : (k : AreKnown view) → ids_held view known_again ≡ ids_held view k
  unfolding known_again
  ids_again k = ap (λ (all : List Tables). flat_map (λ (one : Tables). one.ids) all ++ view.loose) (are_tables k)

-- what is found in a store that has all objects of object directories are those that begin with the digits
pub found_members : (at : Answers) (purpose : Purpose) (which : LooseIds) (directories : List (List ℕ)) (view : StoreView) (prefix : List ℕ) (read found : List (List ℕ))
    → HasAll at purpose which directories view → (right : AreRight at purpose view.kind directories) → 2 ≤ length prefix → AreIdsRead view (first_byte_of prefix) read → IsIndexOf view.kind (matches prefix read) found
    → (digits : List ℕ) → Contains found digits ↔ (IsTrue (starts_with nat_eq digits prefix) × ∥ IsObject at view.kind which directories digits ∥₁)
found_members at purpose which directories view prefix read found has right long ids_read index digits =
    let p : List ℕ → Bool = λ id. starts_with nat_eq id prefix in
    let all = ids_held view (has.are_known right) in
    let same : matches prefix read ≡ matches prefix all = read_matches view (first_byte_of prefix) read (has.are_known right) ids_read prefix long refl in (
      λ is.
          let there : Contains (matches prefix all) digits = subst (λ (l : List (List ℕ)). Contains l digits) same ((index.members digits).0 is) in
          (kept_passes p all digits there, (has.members right digits).0 (contains_had p all digits there)),
      λ (begins, is).
          let there : Contains (matches prefix all) digits = contains_kept p all digits ((has.members right digits).1 is) begins in
          (index.members digits).1 (subst (λ (l : List (List ℕ)). Contains l digits) (sym same) there),
    )

-- what is known of a store
module _ (answers : Option Answers) (purpose : Purpose) (objects : ObjectDirectory) (directories : List (List ℕ)) (skipped : List Error) (paths : List (List ℕ)) (indexes : List LazyIndex)
    (loose : LooseObjects) (before : List LooseObjects)
    (opened : ∥ (skipped ≡ [] → IfKnown (λ at. AreOpened at purpose objects directories paths indexes) answers) ∥₁)
    (listed : ∥ IfKnown (λ at. All (AreLooseOf at objects.kind directories) (loose ∷ before)) answers ∥₁) where
  abbrev view_of : StoreView
  view_of = record { kind = objects.kind; packs = map seen indexes; paths = paths; loose = loose.table.ids; listed = only_of loose.which }

  module _ (at : Answers) (known : answers ≡ Some at) (right : AreRight at purpose objects.kind directories) (found : AreOpened at purpose objects directories paths indexes)
      (are : All (AreLooseOf at objects.kind directories) (loose ∷ before)) where
    abbrev members_of : (digits : List ℕ) → Contains loose.table.ids digits
        ↔ ((directory : List ℕ) × Contains directories directory × Contains (bytes_asked loose.which) (first_byte_of digits) × HasLoose at objects.kind directory digits)
    members_of = loose_members at objects.kind loose.which directories loose.directories.items loose.table.ids
        (All-head (AreLooseOf at objects.kind directories) loose before are) loose.all

    abbrev known_of : AreKnown view_of
    known_of = are_known at purpose loose.which view_of directories found.packs found.listed indexes refl found.read members_of right

    abbrev ids_of : (id : List ℕ) → Contains (ids_held view_of known_of) id ↔ IsObject at objects.kind loose.which directories id
    ids_of = ids_are at purpose loose.which view_of directories found.packs found.listed indexes refl found.read members_of right

  pub has_all : skipped ≡ [] → IfKnown (λ at. HasAllOf at purpose loose.which objects view_of) answers
  has_all none at known = (
    directories,
    ∥∥₁_elim opened (hlevel props) (λ found. (found none at known).alternates),
    record {
      are_known = λ right. known_again view_of (∥∥₁_elim opened ∥∥₁_prop (λ found. ∥∥₁_map listed (λ are. known_of at known right (found none at known) (are at known))));
      members = λ right id. (
        λ is. ∥∥₁_elim opened ∥∥₁_prop (λ found. ∥∥₁_map listed (λ are.
            let of = found none at known in
            (ids_of at known right of (are at known) id).0 (subst (λ (l : List (List ℕ)). Contains l id) (ids_again view_of _ (known_of at known right of (are at known))) is))),
        λ is. contained _ id (∥∥₁_elim is ∥∥₁_prop (λ object. ∥∥₁_elim opened ∥∥₁_prop (λ found. ∥∥₁_map listed (λ are.
            let of = found none at known in
            subst (λ (l : List (List ℕ)). Contains l id) (sym (ids_again view_of _ (known_of at known right of (are at known)))) ((ids_of at known right of (are at known) id).1 object))))),
      );
    },
  )

-- it is the same of another place that is the same
pub moved : (at : Answers) (purpose others_purpose : Purpose) (which other : LooseIds) (objects others : ObjectDirectory) (view : StoreView) → purpose ≡ others_purpose → which ≡ other
    → place_of objects ≡ place_of others → HasAllOf at purpose which objects view → HasAllOf at others_purpose other others view
moved at purpose others_purpose which other objects others view asked same place has = (
  has.0,
  subst (λ (p : List ℕ × List (List ℕ)). with_alternates p.0 p.1 at ≡ Some (has.0, 0)) place has.1,
  subst (λ p. HasAll at p other has.0 view) asked (subst (λ w. HasAll at purpose w has.0 view) same has.2),
)

-- the parts of lists that are empty together
pub both_nil : {B : Type 0} (xs ys : List B) → xs ++ ys ≡ [] → (xs ≡ []) × (ys ≡ [])
both_nil xs ys none = (
  nil_from_length xs (omega (arith, ap length none, length-append xs ys)),
  nil_from_length ys (omega (arith, ap length none, length-append xs ys)),
)

-- what holds of anything holds of the result of a call
pub if_any : {X E : Type 0} (P : X → Type 0) → ((x : X) → P x) → (r : Result X E) → IfOk r P
if_any P all (Ok x) = all x
if_any P all (Err e) = tt
