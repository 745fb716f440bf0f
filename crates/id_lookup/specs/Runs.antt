-- Sorted lists of ids, each given by its digits, and the run of a prefix in one.
use Rattle.std.specs.Prelude.{[], ℕ, ◌+◌, ◌-◌, ◌/◌, ◌<◌, ◌↔◌, ◌∷◌, ◌≡◌, ◌≤◌, Bool, IsTrue, List, drop, filter, length, min, nat_eq, nat_le, nat_lt, slice_index, slice_index_or, slice_range, suc, take, zero}
use Rattle.std.specs.Cmp.Lexicographic.{slice_cmp}
use Rattle.std.specs.List.{All, count_by, starts_with}
use Rattle.std.specs.List.Sorted.{IsSorted, IsSortedWithin}
use Rattle.std.specs.Ordering.{is_ge, is_gt, is_lt, nat_cmp}
use Rattle.std.specs.declared.cmp.Ordering.{Ordering}
use Rattle.std.specs.declared.cmp.Ordering.TheVariants.{Equal, Greater, Less}
use Rattle.gix_hash.specs.Words.{KindDigits, first_byte_of, hex_letter, place, spelling}
use Rattle.id_lookup.specs.declared.search.Bound.{Bound}
use Rattle.id_lookup.specs.declared.search.Bound.TheVariants.{End, Start}
use Rattle.id_lookup.specs.declared.search.Run.{Run}

-- Sorted lists of ids, each given by its digits: in dictionary order, whatever the kinds.

-- no id is below the previous one in dictionary order, in which a list is above each of its beginnings
abbrev pub IsSortedIds : List (List ℕ) → Type 0
IsSortedIds ids = IsSorted (slice_cmp nat_cmp) ids

-- `at` is the first position whose id is below the previous one
pub record IsFirstUnsorted (ids : List (List ℕ)) (at : ℕ) : Type 0 where
  pub has_predecessor : 0 < at
  pub in_range : at < length ids
  pub falls : slice_cmp nat_cmp (slice_index_or ids at []) (slice_index_or ids (at - 1) []) ≡ Less
  pub sorted_before : IsSortedWithin (λ a b. is_lt (slice_cmp nat_cmp a b)) ids 0 at

-- the smallest number of digits of an id of the list, or 64 if it is empty
abbrev pub least_hex_len : List (List ℕ) → ℕ
least_hex_len [] = 64
least_hex_len (id ∷ ids) = min (length id) (least_hex_len ids)

-- whether the id's lowercase hex spelling begins with that of the prefix
abbrev pub begins_with : List ℕ → KindDigits → Bool
begins_with id prefix = starts_with nat_eq (spelling hex_letter id) (spelling hex_letter prefix.digits)

-- the ids that begin with the digits, in their order
abbrev pub matches : List ℕ → List (List ℕ) → List (List ℕ)
matches digits ids = filter (λ id. starts_with nat_eq id digits) ids

-- The run of a prefix in a sorted list: where it is, and what it contains.

-- the run starts after the members that the prefix comes after, and contains those that begin with it. The place of the prefix is Greater
-- against the members before the run, Equal in it, and Less after it
pub record IsRun (prefix : KindDigits) (ids : List (List ℕ)) (run : Run) : Type 0 where
  pub start : run.start ≡ count_by (λ id. is_gt (place prefix.digits id)) ids
  pub end : run.end ≡ run.start + count_by (λ id. begins_with id prefix) ids
  pub in_range : run.end ≤ length ids
  pub members : (k : ℕ) → k < length ids → IsTrue (begins_with (slice_index_or ids k []) prefix) ↔ ((run.start ≤ k) × (k < run.end))
  pub found : slice_range ids run.start run.end ≡ matches prefix.digits ids
  pub before : All (λ id. place prefix.digits id ≡ Greater) (take run.start ids)
  pub within : All (λ id. place prefix.digits id ≡ Equal) (slice_range ids run.start run.end)
  pub after : All (λ id. place prefix.digits id ≡ Less) (drop run.end ids)

-- The two bounds of a run, each as the number of members before it.

-- whether a member is before the bound, by the place of the prefix against that member
abbrev pub is_before_bound : Bound → Ordering → Bool
is_before_bound Start place = is_gt place
is_before_bound End place = is_ge place

-- the bound: the number of members before it
abbrev pub bound_of : Bound → KindDigits → List (List ℕ) → ℕ
bound_of bound prefix ids = count_by (λ id. is_before_bound bound (place prefix.digits id)) ids

-- Counts of the ids of a list by their first byte, which is their first two digits.

-- whether the id's first byte is at most b
abbrev pub is_up_to : ℕ → List ℕ → Bool
is_up_to b id = nat_le (first_byte_of id) b

-- whether it is below b
abbrev pub is_below : ℕ → List ℕ → Bool
is_below b id = nat_lt (first_byte_of id) b

-- whether it is b
abbrev pub has_first_byte : ℕ → List ℕ → Bool
has_first_byte b id = nat_eq (first_byte_of id) b

-- whether it is that of the prefix
abbrev pub shares_first_byte : KindDigits → List ℕ → Bool
shares_first_byte prefix id = has_first_byte (first_byte_of prefix.digits) id

-- for each byte, how many ids have at most that first byte. The digits of the ids are below 16
pub record IsFanOut (counts : List ℕ) (ids : List (List ℕ)) : Type 0 where
  pub up_to : (b : ℕ) → b < 256 → slice_index counts b ≡ count_by (is_up_to b) ids
  pub digits : All (λ id. All (λ d. d < 16) id) ids

-- The part of a list in which a look-up has to search.

-- the part contains both bounds of the prefix's run. It is the run if the prefix has fewer than two digits, and else the members with its first byte
pub record AreCandidates (prefix : KindDigits) (ids : List (List ℕ)) (part : Run) : Type 0 where
  pub above : part.start ≤ bound_of Start prefix ids
  pub below : bound_of End prefix ids ≤ part.end
  pub in_range : part.end ≤ length ids
  pub start : length prefix.digits < 2 → part.start ≡ bound_of Start prefix ids
  pub end : length prefix.digits < 2 → part.end ≡ bound_of End prefix ids
  pub count : 2 ≤ length prefix.digits → part.end ≡ part.start + count_by (shares_first_byte prefix) ids

-- What contracts see of probes.

-- a list of ids by their digits, a prefix, and the number of comparisons so far
pub record Probing : Type 0 where
  pub ids : List (List ℕ)
  pub prefix : KindDigits
  pub asked : ℕ

-- the list is sorted, and each member has at least as many digits as the prefix
pub record CanProbe (prefix : KindDigits) (ids : List (List ℕ)) : Type 0 where
  pub sorted : IsSortedIds ids
  pub enough_digits : All (λ id. length prefix.digits ≤ length id) ids

-- how often n can be halved until nothing is left, but at most the given number of times
unfoldable pub halvings_within : ℕ → ℕ → ℕ
halvings_within zero n = 0
halvings_within (suc most) zero = 0
halvings_within (suc most) (suc n) = suc (halvings_within most (suc n / 2))

-- the bit length of n: the smallest b with n < 2 ^ b
unfoldable pub bits : ℕ → ℕ
bits n = halvings_within n n
