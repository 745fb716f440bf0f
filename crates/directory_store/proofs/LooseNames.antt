-- The loose objects that the names in fan-out directories say.
use Rattle.gix_hash.proofs.Std.{◌≡◌, ◌≢◌, ◌↔◌, ◌∙◌, ◌++◌, ◌∷◌, ◌+◌, ◌<◌, ◌≤◌, ◌/◌, ◌%◌, ℕ, All, Contains, Contains-append_left, Err, IsNone, List, [], None, Ok, Option, Result, Some, ap, arith, drop, get_or, get_or-map, inl, inr, length, map, map-id, map-range_with_len_more, option_map, range_with_len, refl, subst, sym, take, unwrap_or}
use Rattle.std.specs.Global.{Global}
use Rattle.std.specs.Prelude.{String, Vec}
use Rattle.std.specs.Result.{result_ok}
use Rattle.std.specs.declared.io.ErrorKind.{ErrorKind}
use Rattle.std.proofs.lemmas.List.Elements.{Contains-push, Contains-push_cases}
use Rattle.gix_hash.proofs.SpellingLaws.{spelling-injective}
use Rattle.gix_hash.specs.Words.{AreIdDigits, first_byte_of, hex_letter, id_digits, spelling}
use Rattle.gix_hash.specs.declared.Kind.{Kind}
use Rattle.gix_hash.specs.declared.Kind.TheVariants.{Sha1, Sha256}
use Rattle.gix_hash.specs.declared.ObjectId.{ObjectId}
use Rattle.repositories.specs.Answers.{◌>>=◌, Answers}
use Rattle.repositories.specs.Lookups.{if_there}
use Rattle.repositories.specs.Stores.{byte_hex}
use Rattle.repositories.specs.Walks.{state_at}
use Rattle.repositories.specs.declared.directories.Found.{Found}
use Rattle.repositories.specs.declared.state.FileState.{FileState}
use Rattle.directory_store.specs.Loose.{AreLooseIn, AreNamesIn, fan_out_in, listed_in}
use Rattle.directory_store.specs.Packs.{split_names}
use Rattle.directory_store.specs.Stores.{AppendsLooseIds}
use Rattle.directory_store.proofs.FileNames.{are_got}

-- nothing is listed where nothing is
unlisted : (answer : Result (List ℕ) ErrorKind) → ((names : List ℕ) → answer ≢ Ok names) → unwrap_or (result_ok answer) [] ≡ []
unlisted (Ok names) none = absurd (none names refl)
unlisted (Err kind) none = refl

pub missing_is_unlisted : (at : Answers) (path : List ℕ) (state : Option FileState) → state_at path at ≡ Some state → IsNone state → listed_in path at ≡ []
missing_is_unlisted at path (Some state) is none = absurd (cc none)
missing_is_unlisted at path None is none = go (at.look path) refl is
  where
    go : (answer : Result Found ErrorKind) → at.look path ≡ answer → (if_there answer >>= λ (found : Option Found). Some (option_map (λ (found : Found). found.state) found)) ≡ Some None → listed_in path at ≡ []
    go (Ok found) looked is = absurd (cc is)
    go (Err kind) looked is = unlisted (at.names path) (λ listed. at.missing path listed kind looked)

long : (kind : Kind) (digits : List ℕ) → AreIdDigits kind digits → 2 ≤ length digits
long Sha1 digits are = omega (arith, are.0)
long Sha256 digits are = omega (arith, are.0)

module _ (at : Answers) (directory : List ℕ) where
  -- what is listed in the fan-out directory of these letters has a name
  abbrev Lists : List ℕ → List ℕ → Type 0
  Lists letters name = Contains (split_names (listed_in (directory ++ 47 ∷ letters) at)) name

  -- digits that are spelled by a name in the fan-out directory of a byte are those of a name in the one of the first two of them
  two_digits : (byte : ℕ) (digits : List ℕ) → 2 ≤ length digits → All (λ d. d < 16) digits
      → ((name : List ℕ) × Lists (byte_hex byte) name × (byte_hex byte ++ name ≡ spelling hex_letter digits))
      ↔ ((first_byte_of digits ≡ byte) × Lists (spelling hex_letter (take 2 digits)) (spelling hex_letter (drop 2 digits)))
  two_digits byte [] many small = absurd (omega arith)
  two_digits byte (x ∷ []) many small = absurd (omega arith)
  two_digits byte (x ∷ (y ∷ digits)) many small =
      let rest = spelling hex_letter digits in
      let one : x < 16 = small 0 0 (omega arith) in
      let two : y < 16 = small 1 0 (omega arith) in (
        λ named.
            let both = spelling-injective (byte / 16 ∷ byte % 16 ∷ []) (x ∷ y ∷ []) (ap (take 2) named.2) in
            let high : byte / 16 ≡ x = cc both in
            let low : byte % 16 ≡ y = cc both in
            (omega arith, subst (λ (letters : List ℕ). Lists letters rest) (ap (take 2) named.2) (subst (Lists (byte_hex byte)) (ap (drop 2) named.2) named.1)),
        λ has.
            let high : byte / 16 ≡ x = omega (arith, has.0) in
            let low : byte % 16 ≡ y = omega (arith, has.0) in
            let letters : byte_hex byte ≡ spelling hex_letter (x ∷ y ∷ []) = λ i. hex_letter (high i) ∷ hex_letter (low i) ∷ [] in
            (rest, subst (λ (letters : List ℕ). Lists letters rest) (sym letters) has.1, ap (λ (letters : List ℕ). letters ++ rest) letters),
      )

  -- no ids of no fan-out directory
  pub no_part : (kind : Kind) (ids : List ObjectId) → ids ≡ [] → AreLooseIn at kind [] directory (map id_digits ids)
  no_part kind ids none digits = (
    λ has. absurd (omega (arith, (subst (λ (ids : List ObjectId). Contains (map id_digits ids) digits) none has).1)),
    λ has. absurd (omega (arith, has.0.1)),
  )

  -- the ids of one fan-out directory more
  pub one_part : (kind : Kind) (bytes : List ℕ) (byte : ℕ) (names : List ℕ) (old new : List ObjectId) → names ≡ listed_in (directory ++ 47 ∷ byte_hex byte) at
      → AppendsLooseIds kind byte (split_names names) old new → AreLooseIn at kind bytes directory (map id_digits old) → AreLooseIn at kind (bytes ++ byte ∷ []) directory (map id_digits new)
  one_part kind bytes byte names old new are gets before digits =
      let listed = split_names (listed_in (directory ++ 47 ∷ byte_hex byte) at) in
      let all = are_got kind byte listed old new (subst (λ (names : List ℕ). AppendsLooseIds kind byte (split_names names) old new) are gets) digits in (
        λ has. elim (all.0 has) [
          | inl there ↦ (let is = (before digits).0 there in (Contains-append_left bytes (byte ∷ []) (first_byte_of digits) is.0, is.1))
          | inr named ↦ (let is = (two_digits byte digits (long kind digits named.0) named.0.1).0 (named.1, named.2, named.3) in
              (subst (Contains (bytes ++ byte ∷ [])) (sym is.0) (Contains-push bytes byte), record { of_kind = named.0; named = is.1 }))
        ],
        λ has. elim (Contains-push_cases bytes byte (first_byte_of digits) has.0) [
          | inl there ↦ all.1 (inl ((before digits).1 (there, has.1)))
          | inr is ↦ (let named = (two_digits byte digits (long kind digits has.1.of_kind) has.1.of_kind.1).1 (sym is, has.1.named) in all.1 (inr (has.1.of_kind, named.0, named.1, named.2)))
        ],
      )

-- the names at a position
pub at_position : (at : Answers) (byte index : ℕ) (paths : List (String Global)) (names : List (Vec ℕ Global)) (path : String Global) → AreNamesIn at byte paths names → index < length paths
    → path ≡ get_or paths index path → get_or (map (λ (n : Vec ℕ Global). n.items) names) index [] ≡ listed_in (fan_out_in byte path) at
at_position at byte index paths names path are low is =
    let listed : String Global → List ℕ = λ directory. listed_in (fan_out_in byte directory) at in
    ap (λ (all : List (List ℕ)). get_or all index []) are ∙ get_or-map listed paths index path [] low ∙ ap listed (sym is)

-- one byte more
pub one_byte : (bytes : List ℕ) (byte : ℕ) → bytes ≡ range_with_len 0 byte → bytes ++ byte ∷ [] ≡ range_with_len 0 (byte + 1)
one_byte bytes byte are =
    ap (λ (l : List ℕ). l ++ byte ∷ []) (are ∙ sym (map-id (range_with_len 0 byte))) ∙ sym (map-range_with_len_more (λ (b : ℕ). b) 0 byte byte (omega arith)) ∙ map-id (range_with_len 0 (byte + 1))
