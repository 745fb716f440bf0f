-- What other crates cite of ids, kinds, prefixes and digits, from one place.
unfoldable pub use Rattle.id_digits.specs.Digits.{digits_of, digits_read}
pub use Rattle.id_digits.specs.Digits.{IsLetterOf, ReadsAs, first_byte_of, hex_letter, is_digest_len, padded, place, spelling}
pub use Rattle.gix_hash.specs.Kinds.{IsNameOf, IsNoName, byte_len_of, hex_len_of, kind_by_number, kind_of_byte_len, kind_of_full_len, number_of}
pub use Rattle.gix_hash.specs.Ids.{AreIdDigits, empty_blob_digits, empty_tree_digits, id_bytes, id_cmp, id_digits, id_eq, id_kind, null_digits, oid_bytes, oid_digits, oid_kind}
pub use Rattle.gix_hash.specs.Reading.{IsFullReading, IsFullRefusal, full_read, letter_of, prefix_read, prefix_read_in, reading_of, result_digits, whole_of}
pub use Rattle.gix_hash.specs.Prefixes.{BeginsWith, KindDigits, kind_digits, prefix_cmp}
pub use Rattle.gix_hash.specs.PrefixBytes.{id_of}
pub use Rattle.gix_hash.specs.Hashing.{EndsInDigest, WasFed, digest, hasher_kind, sealed}
