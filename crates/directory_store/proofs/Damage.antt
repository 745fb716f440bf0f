-- Which pack indexes are damaged, and which errors say so.
use Rattle.gix_hash.proofs.Std.{◌≡◌, ◌∙◌, ◌++◌, ◌∷◌, [], ℕ, All, All-push, Bool, Contains, Contains-append_left, Contains-append_right, Err, IsOk, List, Ok, Option, Result, ap, arith, false, false≢true, get_or, inl, inr, refl, sym, true}
use Rattle.std.specs.IoError.{error_kind}
use Rattle.std.specs.Global.{Global}
use Rattle.std.specs.Option.{ForSome}
use Rattle.std.specs.Prelude.{String}
use Rattle.std.specs.Result.{result_ok}
use Rattle.std.specs.declared.io.Error.{Error as IoError}
use Rattle.std.specs.declared.io.ErrorKind.{ErrorKind}
use Rattle.std.specs.declared.io.ErrorKind.TheVariants.{NotFound}
use Rattle.gix_hash.specs.declared.Kind.{Kind}
use Rattle.object_store.specs.Stores.{of_index, of_read}
use Rattle.object_store.specs.declared.error.Error.TheVariants as look_up_errors
use Rattle.pack_index.specs.Lazy.{IsOpenFault}
use Rattle.pack_index.specs.declared.lazy_error.LazyError.{LazyError}
use Rattle.pack_index.specs.declared.lazy_error.LazyError.TheVariants.{CountsFall, Head, Memory, NoOffset, Read, WrongCount}
use Rattle.repositories.specs.Answers.{Answers}
use Rattle.directory_store.specs.Packs.{AreOpenOrDamaged, IsDamaged, IsDamagedAt, IsOpenOrDamaged, bytes_at}
use Rattle.directory_store.specs.Stores.{IsIndexError, is_damage, of_look_up}
use Rattle.directory_store.specs.declared.error.Error.{Error}

-- what cannot be read is not damaged
failed : (text : String Global) (error : IoError) (kind : ErrorKind) → is_damage (of_look_up (of_read text error kind)) ≡ true → ⊥
failed text error NotFound is = false≢true is
failed text error _ is = false≢true is

read_failed : (path : List ℕ) (failure : IoError) (error : Error) → IsIndexError path (Read failure) error → is_damage error ≡ true → ⊥
read_failed path failure error (inl (look_up, (text, there, of), same)) is = failed text failure (error_kind failure) (ap is_damage (sym (same ∙ ap of_look_up of)) ∙ is)
read_failed path failure error (inr (memory, same)) is = false≢true (ap is_damage (sym same) ∙ is)

-- the error of a pack index whose bytes, as they were read, have a fault
module _ (at : Answers) (kind : Kind) (path bytes : List ℕ) (read : at.bytes path ≡ Ok bytes) (error : Error) (is : is_damage error ≡ true) where
  said : (fault : LazyError) → ((text : String Global) → of_index text fault ≡ look_up_errors.Index text fault) → IsOpenFault false kind bytes fault → IsIndexError path fault error
      → IsDamagedAt at kind path error
  said fault plain why (inl (look_up, (text, there, of), same)) =
      record { text = text; fault = fault; bytes = bytes; is_error = same ∙ ap of_look_up (of ∙ plain text); is_path = there; is_read = read; is_fault = why }
  said fault plain why (inr (memory, same)) = absurd (false≢true (ap is_damage (sym same) ∙ is))

  damaged : (can_fail : Bool) (fault : LazyError) → IsOpenFault can_fail kind bytes fault → IsIndexError path fault error → IsDamagedAt at kind path error
  damaged can_fail (Read failure) why of = absurd (read_failed path failure error of is)
  damaged can_fail (Memory memory) why of = absurd why
  damaged can_fail (Head head) why of = said (Head head) (λ text. refl) why of
  damaged can_fail (CountsFall byte) why of = said (CountsFall byte) (λ text. refl) why of
  damaged can_fail (WrongCount byte) why of = absurd why
  damaged can_fail (NoOffset object) why of = absurd why

pub answered : (answer : Result (List ℕ) ErrorKind) → IsOk answer → (bytes : List ℕ) × (answer ≡ Ok bytes)
answered (Ok bytes) is = (bytes, refl)
answered (Err kind) is = absurd (false≢true is)

-- the error of a source whose bytes have a fault
pub damage_of : (at : Answers) (kind : Kind) (path : List ℕ) (content : Option (List ℕ)) (can_fail : Bool) (fault : LazyError) (error : Error) → content ≡ bytes_at at path → IsOk (at.bytes path)
    → ForSome content (λ bytes. IsOpenFault can_fail kind bytes fault) → IsIndexError path fault error → is_damage error ≡ true → IsDamagedAt at kind path error
damage_of at kind path content can_fail fault error same read why of is =
    let bytes = answered (at.bytes path) read in
    damaged at kind path bytes.0 bytes.1 error is can_fail fault (why bytes.0 (same ∙ ap result_ok bytes.1)) of

-- one pack index more
module _ (at : Answers) (kind : Kind) (paths opened : List (List ℕ)) (skipped : List Error) (are : AreOpenOrDamaged at kind paths opened skipped) (path : List ℕ) where
  abbrev IsIn : List (List ℕ) → List Error → List ℕ → Type 0
  IsIn = IsOpenOrDamaged at kind

  last : {X : Type 0} (xs : List X) (x : X) → Contains (xs ++ x ∷ []) x
  last xs x = Contains-append_right xs (x ∷ []) x (0, omega arith, refl)

  damaged_still : All (IsDamaged at kind (paths ++ path ∷ [])) skipped
  damaged_still k d low = let one = are.are_damaged k d low in (one.0, Contains-append_left paths (path ∷ []) one.0 one.1, one.2)

  pub one_open : AreOpenOrDamaged at kind (paths ++ path ∷ []) (opened ++ path ∷ []) skipped
  one_open = record {
    each = All-push (IsIn (opened ++ path ∷ []) skipped) paths path (λ k d low. elim (are.each k d low) [
      | inl has ↦ inl (Contains-append_left opened (path ∷ []) (get_or paths k d) has)
      | inr one ↦ inr one
    ]) (inl (last opened path));
    are_damaged = damaged_still;
  }

  pub one_damaged : (error : Error) → IsDamagedAt at kind path error → AreOpenOrDamaged at kind (paths ++ path ∷ []) opened (skipped ++ error ∷ [])
  one_damaged error is = record {
    each = All-push (IsIn opened (skipped ++ error ∷ [])) paths path (λ k d low. elim (are.each k d low) [
      | inl has ↦ inl has
      | inr one ↦ inr (one.0, Contains-append_left skipped (error ∷ []) one.0 one.1, one.2)
    ]) (inr (error, last skipped error, is));
    are_damaged = All-push (IsDamaged at kind (paths ++ path ∷ [])) skipped error damaged_still (path, last paths path, is);
  }
