-- The lines of a text and what is printed for them, one after the other.
use Rattle.gix_hash.proofs.Std.{◌≡◌, ℕ, ◌<◌, ◌≤◌, ◌++◌, Bool, true, false, nat_lt, Option, None, Some, List, [], ◌∷◌, append-nil, flat_map, length, refl, sym, ap, subst, ◌∙◌, arith, if◌then◌else◌, All, option_map, option_to_list, nat_tests, nil_from_length, All-append, All-cons, All-nil}
use Rattle.streams.proofs.LineLemmas.{lines_of-nil}
use Rattle.id_lookup.specs.Words.{Kind, KindDigits, digits_read, hex_len_of, hex_letter, kind_digits}
use Rattle.object_store.specs.Several.{limited_to}
use Rattle.object_store.specs.Stores.{CanLookUp, IsReopened, StoreView}
use Rattle.streams.specs.Streams.{lines_of}
use Rattle.packtool_commands.specs.Stores.{AreListed, found_text, limit_for, no_answer, of_two, prefix_of, prefixes_of}
use Rattle.packtool_commands.specs.declared.prefixes.Line.{Line}
use Rattle.std.specs.Option.{option_map_or, option_or}
use Rattle.packtool_commands.specs.declared.printing.Wanted.{Wanted}
use Rattle.packtool_commands.specs.declared.printing.NoAnswer.{NoAnswer}
use Rattle.packtool_commands.specs.declared.printing.NoAnswer.TheVariants.{Bad}
use Rattle.packtool_commands.specs.declared.printing.Wanted.TheVariants.{All as AllOfThem, Bare, BareOne, One}

-- a text that is empty has no line
pub lines_at_end : (text : List ℕ) → length text ≡ 0 → lines_of text ≡ []
lines_at_end text none = ap lines_of (nil_from_length text none) ∙ lines_of-nil

-- what is printed by the first two is what is printed by all, if only one is asked for
pub text_of_first : {X : Type 0} (text : List ℕ → X → List ℕ) (wanted : Wanted) (line : List ℕ) (found : List X)
    → found_text text wanted line (limited_to (limit_for wanted) found) ≡ found_text text wanted line found
text_of_first text AllOfThem line found = refl
text_of_first text One line [] = refl
text_of_first text One line (x ∷ []) = refl
text_of_first text One line (x ∷ (other ∷ found)) = refl
text_of_first text Bare line found = refl
text_of_first text BareOne line [] = refl
text_of_first text BareOne line (x ∷ []) = refl
text_of_first text BareOne line (x ∷ (other ∷ found)) = refl

-- and so is why they are no answer
pub no_answer_of_first : {X : Type 0} (wanted : Wanted) (found : List X) → no_answer wanted (limited_to (limit_for wanted) found) ≡ no_answer wanted found
no_answer_of_first AllOfThem found = refl
no_answer_of_first One [] = refl
no_answer_of_first One (x ∷ []) = refl
no_answer_of_first One (x ∷ (other ∷ found)) = refl
no_answer_of_first Bare found = refl
no_answer_of_first BareOne [] = refl
no_answer_of_first BareOne (x ∷ []) = refl
no_answer_of_first BareOne (x ∷ (other ∷ found)) = refl

-- what is printed for things of which all are asked for is the text of each, after the line
pub text_of_all : {X : Type 0} (text : List ℕ → X → List ℕ) (line : List ℕ) (found : List X) → 0 < length found
    → found_text text AllOfThem line found ≡ flat_map (text (line ++ 32 ∷ [])) found
text_of_all text line [] some = absurd (omega (arith, some))
text_of_all text line (x ∷ found) some = refl

-- and what is printed for one thing is its text
pub text_of_one : {X : Type 0} (text : List ℕ → X → List ℕ) (line : List ℕ) (found : List X) → length found ≡ 1
    → (found_text text One line found ≡ flat_map (text []) found) × (found_text text BareOne line found ≡ flat_map (text []) found)
text_of_one text line [] one = absurd (omega (arith, one))
text_of_one text line (x ∷ []) one = (sym (append-nil (text [] x)), sym (append-nil (text [] x)))
text_of_one text line (x ∷ (other ∷ found)) one = absurd (omega (arith, one))

-- why the first line that has no answer has none, of those before a line and this one
abbrev pub first_why : {X : Type 0} → (X → Option NoAnswer) → Option NoAnswer → List ℕ × Option X → Option NoAnswer
first_why lacks before answer = option_or before (option_map_or lacks answer.1 (Some Bad))

-- a line, and whether it is a prefix
abbrev pub mark : Line → List ℕ × Bool
mark line = (line.text.now, line.is_prefix)

-- the prefixes among lines have 2 digits or more, and the kind
abbrev pub IsLong : Kind → KindDigits → Type 0
IsLong kind prefix = (2 ≤ length prefix.digits) × (prefix.kind ≡ kind)

not_below : (n : ℕ) → nat_lt n 2 ≡ false → 2 ≤ n
not_below n e = grind (arith, nat_tests)

long_if : (kind : Kind) (ds : List ℕ) (b : Bool) → nat_lt (length ds) 2 ≡ b → All (IsLong kind) (option_to_list (if b then None else Some (kind_digits kind ds)))
long_if kind ds true e = All-nil (IsLong kind)
long_if kind ds false e = All-cons (IsLong kind) (kind_digits kind ds) [] (not_below (length ds) e, refl) (All-nil (IsLong kind))

long_of : (kind : Kind) (b : Bool) (o : Option (List ℕ)) → All (IsLong kind) (option_to_list (if b then None else of_two (option_map (kind_digits kind) o)))
long_of kind true o = All-nil (IsLong kind)
long_of kind false None = All-nil (IsLong kind)
long_of kind false (Some ds) = long_if kind ds (nat_lt (length ds) 2) refl

pub are_long : (kind : Kind) (lines : List (List ℕ)) → All (IsLong kind) (prefixes_of kind lines)
are_long kind [] = All-nil (IsLong kind)
are_long kind (line ∷ lines) =
    All-append (IsLong kind) (option_to_list (prefix_of kind line)) (prefixes_of kind lines)
    (long_of kind (nat_lt (hex_len_of kind) (length line)) (digits_read hex_letter line)) (are_long kind lines)

-- the prefixes that were read of a store's kind can be looked up, also after it was opened again
pub can_look_up : {S : Type 0} {had : S → S → StoreView → Type 0} {view : S → StoreView} {old new : S} (kind : Kind) (lines : List (List ℕ))
    {read prefixes : List KindDigits} → IsReopened had view old new → kind ≡ (view old).kind → AreListed (view old) read → prefixes ≡ read
    → prefixes ≡ prefixes_of kind lines → All (CanLookUp (view new)) prefixes
can_look_up {view = view} {old = old} kind lines is same listed all are k prefix low =
    let long = subst (All (IsLong kind)) (sym are) (are_long kind lines) k prefix low in
    let known = subst (AreListed (view old)) (sym all) listed k prefix low in
    record {
      enough = long.0;
      kind = long.1 ∙ same ∙ sym is.kind;
      listed = λ only e. known only (sym is.listed ∙ e);
    }
