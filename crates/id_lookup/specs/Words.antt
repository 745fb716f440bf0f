-- What other crates cite of look-ups, and of ids, kinds, prefixes and digits, from one place.
unfoldable pub use Rattle.gix_hash.specs.Words.{digits_of, digits_read}
pub use Rattle.gix_hash.specs.Words.{AreIdDigits, BeginsWith, EndsInDigest, IsLetterOf, KindDigits, ReadsAs, byte_len_of, digest, empty_blob_digits, empty_tree_digits, first_byte_of, full_read, hex_len_of, hex_letter, id_bytes, id_digits, id_kind, id_of, kind_by_number, kind_digits, kind_of_full_len, letter_of, null_digits, number_of, oid_bytes, oid_digits, oid_kind, padded, place, prefix_cmp, prefix_read, prefix_read_in, reading_of, result_digits, sealed, spelling, whole_of}
pub use Rattle.gix_hash.specs.declared.Alphabet.TheVariants.{Hex, Reverse}
pub use Rattle.gix_hash.specs.declared.Kind.{Kind}
pub use Rattle.gix_hash.specs.declared.Kind.TheVariants.{Sha1, Sha256}
pub use Rattle.gix_hash.specs.declared.ObjectId.{ObjectId}
pub use Rattle.id_lookup.specs.Runs.{IsFanOut, IsFirstUnsorted, IsRun, IsSortedIds, begins_with, has_first_byte, is_below, is_up_to, least_hex_len, matches}
pub use Rattle.id_lookup.specs.Indexes.{Index, IsAnswer, IsFirstIndexError, IsIndex, IsIndexOf, IsIndexUpTo, IsNotRising, IsShortestAbbreviation, IsShortestAbbreviationFrom, IsWrongKind, part_of}
