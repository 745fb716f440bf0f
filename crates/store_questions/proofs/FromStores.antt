-- From what a store was asked to what is written of the objects of the directories.
use Rattle.gix_hash.proofs.Std.{◌≡◌, ◌∙◌, ℕ, ◌≤◌, [], Bool, List, None, Option, Some, arith, subst, sym}
use Rattle.std.specs.Prelude.{IsSomeAnd}
use Rattle.object_store.specs.Stores.{StoreView}
use Rattle.repositories.specs.Answers.{Answers, IfKnown}
use Rattle.repositories.specs.declared.finding.ObjectDirectory.{ObjectDirectory}
use Rattle.directory_store.specs.Opened.{AreObjects, AreRight, AreWithAlternates, HasAll, HasAllOf}
use Rattle.directory_store.specs.declared.error.Error.{Error}
use Rattle.directory_store.specs.declared.loose.LooseIds.{LooseIds}
use Rattle.directory_store.specs.declared.loose.LooseIds.TheVariants as loose_ids
use Rattle.directory_store.specs.declared.multi.Purpose.{Purpose}
use Rattle.directory_store.proofs.Wholes.{moved}
use Rattle.packtool_commands.specs.Stores.{HasAnsweredEach, HasAbbreviatedBelow}
use Rattle.packtool_commands.specs.declared.printing.Wanted.{Wanted}
use Rattle.store_questions.specs.Answers.{IsAnswered, IsStatus, IsStoreOf, purpose_of}
use Rattle.store_questions.specs.Written.{HasAbbreviatedAll, IsAnswerTo}
use Rattle.store_questions.specs.declared.request.Query.{Query}
use Rattle.store_questions.proofs.Answered.{all_abbreviated, lines_answered, none_skipped, same_directories}

-- what follows of the store that is kept, whichever it is
pub of_kept : {S : Type 0} (P : S → Type 0) (Q : Type 0) (kept : Option S) → IsSomeAnd kept P → ((store : S) → P store → Q) → Q
of_kept P Q None has all = absurd has
of_kept P Q (Some store) has all = all store has

module _ {R : Type 0} (answers : R → Option Answers) (query : Query R) (at : Answers) (is : answers query.rt.now ≡ Some at) (directories objects : List (List ℕ))
    (alternates : AreWithAlternates at query.directory.now directories) (right : AreRight at (purpose_of query.question) query.directory.now.kind directories)
    (are : AreObjects at query.directory.now.kind loose_ids.All directories objects) where
  two : 2 ≤ query.least
  two = omega (arith, query.enough)

  -- what a store was asked for lines
  pub asked_written : (wanted : Wanted) (lines : List (List ℕ)) (status : ℕ) (old new : Option (List ℕ)) → status ≤ 1
      → IsAnswered answers query wanted lines status old new → HasAnsweredEach (IsAnswerTo query.question query.least wanted query.directory.now.kind objects) lines old new
  asked_written wanted lines status old new low (which, pack_path, loose_paths, view, skipped, why, asked) =
      let question = query.question in
      let has = asked.objects (none_skipped skipped _ status asked.ended low) at is in
      let all : HasAll at (purpose_of question) which directories view =
      subst (λ (d : List (List ℕ)). HasAll at (purpose_of question) which d view) (same_directories at query.directory.now has.0 directories has.1 alternates) has.2 in
      let right' = subst (λ k. AreRight at (purpose_of question) k directories) (sym asked.kind) right in
      let are' = subst (λ k. AreObjects at k loose_ids.All directories objects) (sym asked.kind) are in
      subst (λ k. HasAnsweredEach (IsAnswerTo question query.least wanted k objects) lines old new) asked.kind
      (lines_answered at (purpose_of question) directories objects which view all right' are' question query.least wanted pack_path loose_paths lines why old new two asked.listed asked.answered)

  -- and for all ids
  pub all_written : (own : ObjectDirectory) (purpose : Purpose) (known : Option Answers) (which : LooseIds) (skipped : List Error) (any : Bool) (status : ℕ) (Sees : StoreView → Type 0)
      (old new : Option (List ℕ)) → status ≤ 1 → IsStatus skipped any status → IsStoreOf query.directory.now (purpose_of query.question) (answers query.rt.now) own purpose known
      → which ≡ loose_ids.All → HasAbbreviatedBelow 256 query.least Sees any old new
      → ((view : StoreView) → Sees view → (view.kind ≡ own.kind) × (skipped ≡ [] → IfKnown (λ at. HasAllOf at purpose which own view) known))
      → HasAbbreviatedAll query.least objects old new
  all_written own purpose known which skipped any status Sees old new low ended of listed has sees =
      let question = query.question in
      let directory = query.directory.now in
      let none = none_skipped skipped any status ended low in
      let all : (view : StoreView) → Sees view → (view.kind ≡ directory.kind) × HasAll at (purpose_of question) loose_ids.All directories view = λ view saw.
      let seen = sees view saw in
      let here = moved at purpose (purpose_of question) which loose_ids.All own directory view of.2 listed of.1 (seen.1 none at (of.3 ∙ is)) in
      (seen.0 ∙ of.0, subst (λ (d : List (List ℕ)). HasAll at (purpose_of question) loose_ids.All d view) (same_directories at directory here.0 directories here.1 alternates) here.2) in
      let abbreviated = all_abbreviated at (purpose_of question) directories objects directory.kind right are Sees all query.least two 256 has.abbreviated has.are_abbreviated in
      record { abbreviated = has.abbreviated; all = abbreviated.0; abbreviations = abbreviated.1; written = has.written }
