-- What reading an id or a prefix returns.
use Rattle.std.specs.Prelude.{ℕ, ◌<◌, ◌==◌, ◌≡◌, ◌≤◌, Err, List, None, Option, Result, Some, if◌then◌else◌, length, nat_lt, ok_or, option_map}
use Rattle.std.specs.Result.{result_map_both}
use Rattle.id_digits.specs.Digits.{IsUnreadable, ReadsAs, digits_read, hex_letter, reverse_letter}
use Rattle.gix_hash.specs.Ids.{id_digits, id_kind}
use Rattle.gix_hash.specs.Kinds.{IsFullLen, hex_len_of, kind_of_full_len, kind_of_hex_len}
use Rattle.gix_hash.specs.Prefixes.{KindDigits, kind_digits}
use Rattle.gix_hash.specs.declared.alphabet.Alphabet.{Alphabet}
use Rattle.gix_hash.specs.declared.alphabet.Alphabet.TheVariants.{Hex, Reverse}
use Rattle.gix_hash.specs.declared.decode.Error as decode
use Rattle.gix_hash.specs.declared.decode.Error.TheVariants as unread
use Rattle.gix_hash.specs.declared.kind.Kind.{Kind}
use Rattle.gix_hash.specs.declared.object_id.ObjectId.{ObjectId}
use Rattle.gix_hash.specs.declared.prefix.from_hex.Error as from_hex
use Rattle.gix_hash.specs.declared.prefix.from_hex.Error.TheVariants as refused

-- what a reading call returns: the digits that the text reads as, of the kind for its length; or the error for its length, or for its letters
abbrev pub reading_of : {E : Type 0} → Option Kind → Option (List ℕ) → E → E → Result KindDigits E
reading_of None digits wrong_length invalid = Err wrong_length
reading_of (Some kind) digits wrong_length invalid = ok_or (option_map (kind_digits kind) digits) invalid

-- the letters of an alphabet
abbrev pub letter_of : Alphabet → ℕ → ℕ
letter_of Hex = hex_letter
letter_of Reverse = reverse_letter

-- What reading a full id returns.

-- what reading a full id in an alphabet returns: the digits, of the kind whose ids have as many
abbrev pub full_read : (ℕ → ℕ) → List ℕ → Result KindDigits decode.Error
full_read letter text =
    reading_of (kind_of_full_len (length text)) (digits_read letter text) (unread.InvalidHexEncodingLength (length text)) unread.Invalid

-- an id's kind and all its digits
abbrev pub whole_of : ObjectId → KindDigits
whole_of id = kind_digits (id_kind id) (id_digits id)

-- a result with an id, seen by its kind and its digits
abbrev pub result_digits : Result ObjectId decode.Error → Result KindDigits decode.Error
result_digits answer = result_map_both whole_of (λ error. error) answer

-- why a text is no id: no kind has ids of its length, or else some byte is no letter of the alphabet
abbrev pub IsFullRefusal : (ℕ → ℕ) → List ℕ → decode.Error → Type 0
IsFullRefusal letter text (unread.InvalidHexEncodingLength n) = (n ≡ length text) × (¬ IsFullLen (length text))
IsFullRefusal letter text unread.Invalid = IsFullLen (length text) × IsUnreadable letter text

-- the text has as many digits as ids of the kind, and reads as these
pub record IsFullReading (letter : ℕ → ℕ) (text : List ℕ) (id : KindDigits) : Type 0 where
  pub kind : length text ≡ hex_len_of id.kind
  pub reads : ReadsAs letter text id.digits

-- What reading a prefix returns.

-- what reading a prefix of at least `least` digits in an alphabet returns: the digits, of the kind with the shortest ids that have room for them
abbrev pub prefix_read : (ℕ → ℕ) → ℕ → List ℕ → Result KindDigits from_hex.Error
prefix_read letter least text =
    if nat_lt (length text) least then Err (refused.TooShort (length text))
    else reading_of (kind_of_hex_len (length text)) (digits_read letter text) (refused.TooLong (length text)) refused.Invalid

-- why a text is no prefix of at least `least` digits: it is too short, or else too long, or else some byte is no letter of the alphabet
abbrev pub IsPrefixRefusal : (ℕ → ℕ) → ℕ → List ℕ → from_hex.Error → Type 0
IsPrefixRefusal letter least text (refused.TooShort n) = (n ≡ length text) × (length text < least)
IsPrefixRefusal letter least text (refused.TooLong n) = (n ≡ length text) × (least ≤ length text) × (64 < length text)
IsPrefixRefusal letter least text refused.Invalid = (least ≤ length text) × (length text ≤ 64) × IsUnreadable letter text

-- the text has at least `least` digits, the kind is the one with the shortest ids that have room for them, and the text reads as the digits
pub record IsPrefixReading (letter : ℕ → ℕ) (least : ℕ) (text : List ℕ) (prefix : KindDigits) : Type 0 where
  pub long_enough : least ≤ length text
  pub kind : kind_of_hex_len (length text) ≡ Some prefix.kind
  pub reads : ReadsAs letter text prefix.digits

-- what reading a prefix in a given kind returns: the digits, from 1 up to as many as ids of the kind have
abbrev pub prefix_read_in : Kind → (ℕ → ℕ) → List ℕ → Result KindDigits from_hex.Error
prefix_read_in kind letter text =
    if nat_lt (hex_len_of kind) (length text) then Err (refused.TooLong (length text))
    else if length text == 0 then Err (refused.TooShort 0)
    else ok_or (option_map (kind_digits kind) (digits_read letter text)) refused.Invalid

-- why a text is no prefix in a given kind: ids of the kind have fewer digits, or it is empty, or else some byte is no letter of the alphabet
abbrev pub IsRefusalIn : Kind → (ℕ → ℕ) → List ℕ → from_hex.Error → Type 0
IsRefusalIn kind letter text (refused.TooLong n) = (n ≡ length text) × (hex_len_of kind < length text)
IsRefusalIn kind letter text (refused.TooShort n) = (n ≡ 0) × (length text ≡ 0)
IsRefusalIn kind letter text refused.Invalid = (1 ≤ length text) × (length text ≤ hex_len_of kind) × IsUnreadable letter text

-- the text has at least one digit and no more than ids of the kind have, and reads as the digits of the prefix, which has the kind
pub record IsReadingIn (kind : Kind) (letter : ℕ → ℕ) (text : List ℕ) (prefix : KindDigits) : Type 0 where
  pub nonempty : 1 ≤ length text
  pub room : length text ≤ hex_len_of kind
  pub same_kind : prefix.kind ≡ kind
  pub reads : ReadsAs letter text prefix.digits
