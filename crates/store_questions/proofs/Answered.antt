-- What was answered over a store that has all objects of object directories.
use Rattle.gix_hash.proofs.Std.{◌≡◌, ◌∙◌, ℕ, codes, ◌/◌, ◌%◌, ◌<◌, ◌≤◌, ◌∷◌, ◌++◌, [], All, All-append, All-head, All-nil, All-tail, AllZip, Bool, Contains, Contains-get_or, List, None, Option, Some, ap, ap₂, arith, get_or, get_or-map, length, length-map, map, map-append, map-map, nat_eq, refl, starts_with, subst, suc, sym, take-map, unwrap_or, zero}
use Rattle.std.specs.Global.{Global}
use Rattle.std.specs.Prelude.{MatchOption, Vec}
use Rattle.id_lookup.specs.Words.{Kind, KindDigits, ObjectId, first_byte_of, id_digits, matches}
use Rattle.id_lookup.proofs.Beginnings.{first_byte_of-begins}
use Rattle.id_lookup.proofs.Filters.{kept_passes}
use Rattle.object_store.specs.Several.{AreLocated, IsAbbreviated, IsAbbreviatedAs, limited_to}
use Rattle.object_store.specs.Stores.{AreIdsRead, AreMatches, IsAbbreviationIn, StoreView}
use Rattle.object_store.specs.declared.abbreviations.Abbreviation.{Abbreviation}
use Rattle.object_store.specs.declared.abbreviations.Abbreviation.TheVariants.{Ambiguous, Missing, Unique}
use Rattle.object_store.specs.declared.locations.LocatedId.{LocatedId}
use Rattle.object_store.specs.declared.abbreviations.AbbreviatedId.{AbbreviatedId}
use Rattle.repositories.specs.Answers.{Answers}
use Rattle.repositories.specs.declared.finding.ObjectDirectory.{ObjectDirectory}
use Rattle.directory_store.specs.Opened.{AreObjects, AreRight, AreWithAlternates, HasAll}
use Rattle.directory_store.specs.Stores.{IsListedBy}
use Rattle.directory_store.specs.declared.error.Error.{Error}
use Rattle.directory_store.specs.declared.loose.LooseIds.{LooseIds}
use Rattle.directory_store.specs.declared.loose.LooseIds.TheVariants as loose_ids
use Rattle.directory_store.specs.declared.multi.Purpose.{Purpose}
use Rattle.directory_store.proofs.AllBytes.{found_of_all, abbreviation_of_all}
use Rattle.packtool_commands.specs.Stores.{AreAbbreviatedBelow, HasAnsweredEach, IsTextOf, abbreviation_text, found_text, id_line, limit_for, line_with, located_lines, no_answer, no_abbreviation, prefix_of, prefixes_of}
use Rattle.packtool_commands.specs.declared.printing.Wanted.{Wanted}
use Rattle.packtool_commands.specs.declared.printing.NoAnswer.{NoAnswer}
use Rattle.packtool_commands.proofs.AnswerLemmas.{are_long}
use Rattle.packtool_commands.proofs.EachLine.{answered_each, text_seen}
use Rattle.store_questions.specs.Answers.{HasAnsweredLines, IsStatus}
use Rattle.store_questions.specs.Written.{IsAnswerTo, by_first_byte}
use Rattle.packtool_commands.specs.declared.request.Question.{Question}
use Rattle.packtool_commands.specs.declared.request.Question.TheVariants.{Abbreviate, Find, Locate}

zip-map : {X Y : Type 0} (P Q : X → Y → Type 0) (C : X → Type 0) → ((x : X) (y : Y) → C x → P x y → Q x y) → (xs : List X) (ys : List Y) → All C xs → AllZip P xs ys → AllZip Q xs ys
zip-map P Q C f [] [] can all = tt
zip-map P Q C f [] (y ∷ ys) can all = absurd all
zip-map P Q C f (x ∷ xs) [] can all = absurd all
zip-map P Q C f (x ∷ xs) (y ∷ ys) can all = (f x y (All-head C x xs can) all.0, zip-map P Q C f xs ys (All-tail C x xs can) all.1)

-- what holds of each text that was written
each-is : (P Q : List ℕ → List ℕ → Type 0) → ((line text : List ℕ) → P line text → Q line text) → (lines : List (List ℕ)) (old new : Option (List ℕ))
    → HasAnsweredEach P lines old new → HasAnsweredEach Q lines old new
each-is P Q f lines old new has =
    record { texts = has.texts; each = zip-map P Q (λ _. Unit {0}) (λ line text _. f line text) lines has.texts (λ k d low. tt) has.each; written = has.written }

-- a text that is written for what was found is one for what that is seen as
text-is : {X Y : Type 0} (Finds : List ℕ → X → Type 0) (FindsThen : List ℕ → Y → Type 0) (text : List ℕ → X → List ℕ) (textThen : List ℕ → Y → List ℕ) (seen : X → Y)
    → ((digits : List ℕ) (x : X) → Finds digits x → FindsThen digits (seen x)) → ((line : List ℕ) (x : X) → text line x ≡ textThen line (seen x))
    → (line written : List ℕ) (prefix : Option KindDigits)
    → MatchOption prefix (written ≡ line_with line (codes "bad")) (λ p. (x : X) × Finds p.digits x × (written ≡ text line x))
    → MatchOption prefix (written ≡ line_with line (codes "bad")) (λ p. (y : Y) × FindsThen p.digits y × (written ≡ textThen line y))
text-is Finds FindsThen text textThen seen finds same line written None is = is
text-is Finds FindsThen text textThen seen finds same line written (Some p) is = (seen is.0, finds p.digits is.0 is.1, is.2 ∙ same line is.0)

-- the digits of as many ids as the limit allows
map-limited : (limit : Option ℕ) (ids : List ObjectId) → map id_digits (limited_to limit ids) ≡ limited_to limit (map id_digits ids)
map-limited None ids = refl
map-limited (Some n) ids = sym (take-map id_digits n ids)

module _ (at : Answers) (purpose : Purpose) (directories objects : List (List ℕ)) (which : LooseIds) (view : StoreView) (has : HasAll at purpose which directories view)
    (right : AreRight at purpose view.kind directories) (are : AreObjects at view.kind loose_ids.All directories objects) where
  -- prefixes that can be looked up
  abbrev CanAsk : KindDigits → Type 0
  CanAsk prefix = (2 ≤ length prefix.digits) × IsListedBy which (first_byte_of prefix.digits)

  matches_are : (prefix : KindDigits) (ids : Vec ObjectId Global) → CanAsk prefix → AreMatches view prefix.digits ids.items
      → map id_digits ids.items ≡ matches prefix.digits objects
  matches_are prefix ids can found =
      found_of_all at purpose which directories objects view has right are prefix.digits found.read (map id_digits ids.items) can.1 can.0 found.ids_read found.index

  abbrev id_of : LocatedId Global → List ℕ
  id_of located = id_digits located.id

  located_are : (wanted : Wanted) (loose_paths : List ℕ → List (List ℕ)) (prefix : KindDigits) (ids : Vec (LocatedId Global) Global) → CanAsk prefix
      → AreLocated (limit_for wanted) view loose_paths prefix.digits ids.items → map id_of ids.items ≡ limited_to (limit_for wanted) (matches prefix.digits objects)
  located_are wanted loose_paths prefix ids can located =
      let found = located.are_matches in
      let are_ids = found_of_all at purpose which directories objects view has right are prefix.digits found.read (map id_digits located.ids) can.1 can.0 found.ids_read found.index in
      sym (map-map id_digits (λ (l : LocatedId Global). l.id) ids.items) ∙ ap (map id_digits) located.first ∙ map-limited (limit_for wanted) located.ids
      ∙ ap (limited_to (limit_for wanted)) are_ids

  abbreviation_is : (least : ℕ) → 2 ≤ least → (prefix : KindDigits) (abbreviated : Abbreviation) → CanAsk prefix → IsAbbreviated least view prefix.digits abbreviated
      → IsAbbreviatedAs least view.kind objects (matches prefix.digits objects) abbreviated
  abbreviation_is least two prefix abbreviated can is =
      let found : is.found ≡ matches prefix.digits objects =
      found_of_all at purpose which directories objects view has right are prefix.digits is.read is.found can.1 can.0 is.ids_read is.index in
      by abbreviated is.says found
    where
      by : (abbreviated : Abbreviation) → IsAbbreviatedAs least view.kind is.read is.found abbreviated → is.found ≡ matches prefix.digits objects
          → IsAbbreviatedAs least view.kind objects (matches prefix.digits objects) abbreviated
      by Missing none found = sym found ∙ none
      by Ambiguous more found = subst (λ (f : List (List ℕ)). 1 < length f) found more
      by (Unique abbreviated) (only, name, of_kind) found =
          let id = id_digits abbreviated.id in
          let there : Contains is.found id = subst (λ (f : List (List ℕ)). Contains f id) (sym only) (Contains-get_or (id ∷ []) 0 [] (omega arith)) in
          let begins = kept_passes (λ x. starts_with nat_eq x prefix.digits) is.read id ((is.index.members id).0 there) in
          let same : first_byte_of prefix.digits ≡ first_byte_of id = sym (first_byte_of-begins id prefix.digits can.0 begins) in (
            sym found ∙ only,
            abbreviation_of_all at purpose which directories objects view has right are is.read least id abbreviated.abbreviation.digits (subst (IsListedBy which) same can.1)
                (subst (λ byte. AreIdsRead view byte is.read) same is.ids_read) two name,
            of_kind,
          )

  -- what a question finds for lines is what the objects answer
  pub lines_answered : (question : Question) (least : ℕ) (wanted : Wanted) (pack_path : ℕ → List ℕ) (loose_paths : List ℕ → List (List ℕ)) (lines : List (List ℕ))
      (why : Option NoAnswer) (old new : Option (List ℕ)) → 2 ≤ least → All (λ (prefix : KindDigits). IsListedBy which (first_byte_of prefix.digits)) (prefixes_of view.kind lines)
      → HasAnsweredLines Global question wanted least pack_path loose_paths view lines why old new → HasAnsweredEach (IsAnswerTo question least wanted view.kind objects) lines old new
  lines_answered question least wanted pack_path loose_paths lines why old new two listed is = by question is
    where
      can : All CanAsk (prefixes_of view.kind lines)
      can = λ k d low. ((are_long view.kind lines k d low).0, listed k d low)

      by : (question : Question) → HasAnsweredLines Global question wanted least pack_path loose_paths view lines why old new
          → HasAnsweredEach (IsAnswerTo question least wanted view.kind objects) lines old new
      by Find found =
          let finds : List ℕ → Vec ObjectId Global → Type 0 = λ digits ids. map id_digits ids.items ≡ matches digits objects in
          let text : List ℕ → Vec ObjectId Global → List ℕ = λ line ids. found_text (λ front (id : ObjectId). id_line front (id_digits id)) wanted line ids.items in
          each-is (IsTextOf finds text view.kind) (IsAnswerTo Find least wanted view.kind objects)
          (λ line written. text-is finds (λ digits (ids : List (List ℕ)). ids ≡ matches digits objects) text (λ l ids. found_text id_line wanted l ids) (λ ids. map id_digits ids.items)
          (λ digits ids same. same) (λ l ids. text_seen id_line id_digits wanted l ids.items) line written (prefix_of view.kind line)) lines old new
          (answered_each finds text view.kind (λ ids. no_answer wanted ids.items) lines why old new (record {
            results = found.results;
            are_found = zip-map _ (λ (prefix : KindDigits) (ids : Vec ObjectId Global). finds prefix.digits ids) CanAsk matches_are (prefixes_of view.kind lines) found.results can found.are_found;
            first = found.first;
            written = found.written;
          }))
      by Locate found =
          let finds : List ℕ → Vec (LocatedId Global) Global → Type 0 = λ digits ids. map id_of ids.items ≡ limited_to (limit_for wanted) (matches digits objects) in
          let text : List ℕ → Vec (LocatedId Global) Global → List ℕ = λ line ids. found_text (located_lines pack_path) wanted line ids.items in
          each-is (IsTextOf finds text view.kind) (IsAnswerTo Locate least wanted view.kind objects)
          (λ line written is. (
            pack_path,
            text-is finds (λ digits (ids : List (LocatedId Global)). map id_of ids ≡ limited_to (limit_for wanted) (matches digits objects)) text
                (λ l ids. found_text (located_lines pack_path) wanted l ids) (λ ids. ids.items) (λ digits ids same. same) (λ l ids. refl) line written (prefix_of view.kind line) is,
          )) lines old new
          (answered_each finds text view.kind (λ ids. no_answer wanted ids.items) lines why old new (record {
            results = found.results;
            are_found = zip-map _ (λ (prefix : KindDigits) (ids : Vec (LocatedId Global) Global). finds prefix.digits ids) CanAsk (located_are wanted loose_paths) (prefixes_of view.kind lines) found.results can found.are_found;
            first = found.first;
            written = found.written;
          }))
      by Abbreviate found =
          answered_each (λ digits abbreviated. IsAbbreviatedAs least view.kind objects (matches digits objects) abbreviated) abbreviation_text view.kind no_abbreviation lines why old new (record {
            results = found.results;
            are_found = zip-map _ (λ (prefix : KindDigits) abbreviated. IsAbbreviatedAs least view.kind objects (matches prefix.digits objects) abbreviated) CanAsk (abbreviation_is least two)
                (prefixes_of view.kind lines) found.results can found.are_found;
            first = found.first;
            written = found.written;
          })

-- the abbreviations of all objects, of each first byte in one of the stores that were seen
module _ (at : Answers) (purpose : Purpose) (directories objects : List (List ℕ)) (kind : Kind) (right : AreRight at purpose kind directories) (are : AreObjects at kind loose_ids.All directories objects)
    (Sees : StoreView → Type 0) (all : (view : StoreView) → Sees view → (view.kind ≡ kind) × HasAll at purpose loose_ids.All directories view) (least : ℕ) (two : 2 ≤ least) where
  abbrev IsAbbreviatedOne : AbbreviatedId → Type 0
  IsAbbreviatedOne n = IsAbbreviationIn least objects (id_digits n.id) n.abbreviation.digits

  abbrev digits_of : AbbreviatedId → List ℕ
  digits_of n = id_digits n.id

  pub all_abbreviated : (n : ℕ) (abbreviated : List AbbreviatedId) → AreAbbreviatedBelow n least Sees abbreviated → (map digits_of abbreviated ≡ by_first_byte n objects) × All IsAbbreviatedOne abbreviated
  unfolding AreAbbreviatedBelow by_first_byte
  all_abbreviated zero abbreviated none = (ap (map digits_of) none, subst (All IsAbbreviatedOne) (sym none) (All-nil IsAbbreviatedOne))
  all_abbreviated (suc n) abbreviated (before, part, view, below, sees, is, both) =
      let rest = all_abbreviated n before below in
      let seen = all view sees in
      let prefix : List ℕ = n / 16 ∷ n % 16 ∷ [] in
      let byte : n ≡ first_byte_of prefix = omega arith in
      let right' = subst (λ k. AreRight at purpose k directories) (sym seen.0) right in
      let are' = subst (λ k. AreObjects at k loose_ids.All directories objects) (sym seen.0) are in
      let listed : (byte : ℕ) → IsListedBy loose_ids.All byte = λ byte only none. absurd (cc none) in
      let ids : map digits_of part ≡ matches prefix objects =
      found_of_all at purpose loose_ids.All directories objects view seen.1 right' are' prefix is.read (map digits_of part) (listed _) (omega arith)
      (subst (λ b. AreIdsRead view b is.read) byte is.ids_read) is.index in
      let abbreviations : All IsAbbreviatedOne part = λ k d low.
      let id = digits_of (get_or part k d) in
      let there : Contains (map digits_of part) id =
      subst (Contains (map digits_of part)) (get_or-map digits_of part k d [] low) (Contains-get_or (map digits_of part) k [] (omega (arith, low, length-map part digits_of))) in
      let begins = kept_passes (λ x. starts_with nat_eq x prefix) is.read id ((is.index.members id).0 there) in
      let same : n ≡ first_byte_of id = byte ∙ sym (first_byte_of-begins id prefix (omega arith) begins) in
      abbreviation_of_all at purpose loose_ids.All directories objects view seen.1 right' are' is.read least id _ (listed _) (subst (λ b. AreIdsRead view b is.read) same is.ids_read) two (is.abbreviations k d low) in (
        ap (map digits_of) both ∙ map-append digits_of before part ∙ ap₂ (λ (front back : List (List ℕ)). front ++ back) rest.0 ids,
        subst (All IsAbbreviatedOne) (sym both) (All-append IsAbbreviatedOne before part rest.1 abbreviations),
      )

-- a status of 0 or 1 says that nothing was skipped
pub none_skipped : (skipped : List Error) (any : Bool) (status : ℕ) → IsStatus skipped any status → status ≤ 1 → skipped ≡ []
none_skipped [] any status is low = refl
none_skipped (error ∷ skipped) any status is low = absurd (omega (arith, low, is.1 (λ none. cc none)))

-- the directories that a place has are those that are known of it
pub same_directories : (at : Answers) (directory : ObjectDirectory) (some others : List (List ℕ)) → AreWithAlternates at directory some → AreWithAlternates at directory others → some ≡ others
same_directories at directory some others one two = ap (λ (o : Option (List (List ℕ) × ℕ)). (unwrap_or o ([], 0)).0) (sym one ∙ two)
