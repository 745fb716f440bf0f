-- What the structs hold that cross to C, and which codes functions return.
use Rattle.std.specs.Prelude.{◌≡◌, ◌≢◌, ◌==◌, ◌<◌, ◌≤◌, ◌⊎◌, ℕ, suc, ℤ, pos, negsuc, nat_lt, Bool, true, false, ◌||◌, ◌++◌, if◌then◌else◌, List, ◌∷◌, Option, Some, None, Result, Ok, Err, drop, length, option_map, take}
use Rattle.std.specs.declared.cmp.Ordering.{Ordering}
use Rattle.std.specs.declared.cmp.Ordering.TheVariants.{Less, Equal, Greater}
use Rattle.id_lookup.specs.Words.{Kind, KindDigits, Sha1, Sha256, byte_len_of, digits_of, hex_len_of, hex_letter, kind_digits, number_of, padded, place, prefix_cmp, spelling}
use Rattle.gix_hash.specs.declared.decode.Error as decode
use Rattle.gix_hash.specs.declared.decode.Error.TheVariants as unread
use Rattle.gix_hash.specs.declared.prefix.from_hex.Error as from_hex
use Rattle.gix_hash.specs.declared.prefix.from_hex.Error.TheVariants as refused
use Rattle.gix_hash_c.specs.declared.ids.Id.{Id}
use Rattle.gix_hash_c.specs.declared.prefixes.Prefix.{Prefix}
use Rattle.gix_hash_c.specs.Codes.{BAD_DIGIT, BAD_KIND, BAD_LENGTH, NO_ROOM, OK}

-- the kind that a number names: 1 is SHA-1, and 2 is SHA-256
abbrev pub kind_of_number : ℕ → Option Kind
kind_of_number n = if n == 1 then Some Sha1 else if n == 2 then Some Sha256 else None

-- the kind and the digits of an id in a struct, if its kind is one. Bytes after the digest are not read
abbrev pub id_in : Id → Option KindDigits
id_in id = option_map (λ kind. kind_digits kind (digits_of (take (byte_len_of kind) id.bytes))) (kind_of_number id.kind)

-- the struct holds the id: its kind's number, and its digits followed by zeros
pub record HoldsId (digits : KindDigits) (id : Id) : Type 0 where
  pub kind : id.kind ≡ number_of digits.kind
  pub bytes : digits_of id.bytes ≡ padded 64 digits.digits

-- the digits of a prefix in a struct, if they are 1 to 64. Digits after them are not read
abbrev pub prefix_in : Prefix → Option (List ℕ)
prefix_in prefix =
    if prefix.hex_len == 0 || nat_lt 64 prefix.hex_len then None
    else Some (take prefix.hex_len (digits_of prefix.bytes))

-- the struct holds the digits: their number, and the digits followed by zeros
pub record HoldsDigits (digits : List ℕ) (prefix : Prefix) : Type 0 where
  pub hex_len : prefix.hex_len ≡ length digits
  pub bytes : digits_of prefix.bytes ≡ padded 64 digits

-- what reading an id returns, and leaves
abbrev pub IdAnswer : Result KindDigits decode.Error → ℕ → Id → Id → Type 0
IdAnswer (Ok read) code old new = (code ≡ OK) × HoldsId read new
IdAnswer (Err (unread.InvalidHexEncodingLength n)) code old new = (code ≡ BAD_LENGTH) × (new ≡ old)
IdAnswer (Err unread.Invalid) code old new = (code ≡ BAD_DIGIT) × (new ≡ old)

-- what taking an id from bytes returns, and leaves
abbrev pub BytesAnswer : Option Kind → List ℕ → ℕ → Id → Id → Type 0
BytesAnswer None bytes code old new = (code ≡ BAD_KIND) × (new ≡ old)
BytesAnswer (Some kind) bytes code old new =
    ((code ≡ BAD_LENGTH) × (length bytes ≢ byte_len_of kind) × (new ≡ old))
    ⊎ ((code ≡ OK) × (length bytes ≡ byte_len_of kind) × HoldsId (kind_digits kind (digits_of bytes)) new)

-- what reading a prefix returns, and leaves
abbrev pub PrefixAnswer : Result KindDigits from_hex.Error → ℕ → Prefix → Prefix → Type 0
PrefixAnswer (Ok read) code old new = (code ≡ OK) × HoldsDigits read.digits new
PrefixAnswer (Err refused.Invalid) code old new = (code ≡ BAD_DIGIT) × (new ≡ old)
PrefixAnswer (Err (refused.TooShort n)) code old new = (code ≡ BAD_LENGTH) × (new ≡ old)
PrefixAnswer (Err (refused.TooLong n)) code old new = (code ≡ BAD_LENGTH) × (new ≡ old)

-- what spelling an id returns, and leaves in the buffer, by whether the buffer is too short
abbrev pub SpellingAnswer : Bool → KindDigits → ℕ → List ℕ → List ℕ → Type 0
SpellingAnswer true id code old new = (code ≡ NO_ROOM) × (new ≡ old)
SpellingAnswer false id code old new = (code ≡ OK) × (new ≡ spelling hex_letter id.digits ++ drop (hex_len_of id.kind) old)

-- the result of spelling an id, which is none if its kind is bad
abbrev pub HexAnswer : Option KindDigits → ℕ → List ℕ → List ℕ → Type 0
HexAnswer None code old new = (code ≡ BAD_KIND) × (new ≡ old)
HexAnswer (Some id) code old new = SpellingAnswer (nat_lt (length old) (hex_len_of id.kind)) id code old new

-- what spelling an id as a text of C returns, and leaves in the buffer: a zero ends the digits
abbrev pub TextAnswer : Option KindDigits → ℕ → List ℕ → List ℕ → Type 0
TextAnswer None code old new = (code ≡ BAD_KIND) × (new ≡ old)
TextAnswer (Some id) code old new =
    ((code ≡ NO_ROOM) × (length old ≤ hex_len_of id.kind) × (new ≡ old))
    ⊎ ((code ≡ OK) × (hex_len_of id.kind < length old)
    × (new ≡ spelling hex_letter id.digits ++ 0 ∷ drop (suc (hex_len_of id.kind)) old))

-- the number of an order
abbrev pub order_number : Ordering → ℤ
order_number Less = negsuc 0
order_number Equal = pos 0
order_number Greater = pos 1

-- that there is no order
abbrev pub no_order : ℤ
no_order = pos 2

-- the order of two ids: by kind, and then by digits
abbrev pub ids_order : Option KindDigits → Option KindDigits → ℤ
ids_order (Some a) (Some b) = order_number (prefix_cmp a b)
ids_order (Some a) None = no_order
ids_order None b = no_order

-- the order of a prefix and as many first digits of an id
abbrev pub place_number : Option (List ℕ) → Option KindDigits → ℤ
place_number (Some digits) (Some id) = if nat_lt (hex_len_of id.kind) (length digits) then no_order else order_number (place digits id.digits)
place_number (Some digits) None = no_order
place_number None id = no_order

-- what making an id of a kind returns, and leaves. None stands for a number of no kind
abbrev pub KindIdAnswer : Option KindDigits → ℕ → Id → Id → Type 0
KindIdAnswer None code old new = (code ≡ BAD_KIND) × (new ≡ old)
KindIdAnswer (Some id) code old new = (code ≡ OK) × HoldsId id new
