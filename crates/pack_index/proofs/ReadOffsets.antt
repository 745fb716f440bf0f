-- The offset of an object, by what was read of it.
use Rattle.gix_hash.proofs.Std.{◌≡◌, ℕ, ◌+◌, ◌-◌, ◌*◌, ◌^◌, ◌<◌, ◌≤◌, inl, inr, None, Some, List, length, refl, sym, ap, ◌∙◌, arith, cases_lt, le-leb, le-ltb, lt-leb, lt-ltb}
use Rattle.id_lookup.specs.Words.{Kind, byte_len_of}
use Rattle.pack_index.specs.Format.{HasOffset, HasTables, ids_start, long_entry, long_table_start, long_word, num_objects, offset_in, offset_table_start, offset_word, tables_end, word_at}
use Rattle.pack_index.specs.Lazy.{offset_at}
use Rattle.pack_index.specs.declared.layout.Layout.TheVariants.{Index}
use Rattle.pack_index.proofs.Heads.{word_within}
use Rattle.streams.specs.Streams.{IsReadAt}

-- by the head, which has the number of objects that the bytes have
module _ (kind : Kind) (bytes head : List ℕ) (count : num_objects head ≡ num_objects bytes) where
  offsets_start : offset_table_start kind head ≡ offset_table_start kind bytes
  offsets_start = ap (λ n. ids_start + byte_len_of kind * n + 4 * n) count

  pub longs_start : long_table_start kind head ≡ long_table_start kind bytes
  longs_start = ap (λ n. ids_start + byte_len_of kind * n + 4 * n + 4 * n) count

  -- the word that was read is that of the id
  pub word_is : (short : List ℕ) (at from : ℕ) → from ≡ offset_table_start kind head + 4 * at → IsReadAt bytes from short → length short ≡ 4
      → word_at short 0 ≡ offset_word kind bytes at
  word_is short at from begins read four =
      let same : from + 0 ≡ offset_table_start kind bytes + 4 * at = omega (arith, begins, offsets_start) in
      word_within bytes from short read 0 (omega (arith, four)) ∙ ap (word_at bytes) same

  -- and it is in the bytes
  pub word_inside : (at from : ℕ) → HasTables kind bytes → at < num_objects head → from ≡ offset_table_start kind head + 4 * at → from + 4 ≤ length bytes
  word_inside at from tables low begins = omega (arith, low, begins, tables.fits, offsets_start, count)

module _ (kind : Kind) (bytes : List ℕ) (at word : ℕ) (is : word ≡ offset_word kind bytes at) where
  pub short_offset : word < long_word → offset_at kind Index bytes at ≡ Some word
  short_offset low =
      let less : offset_word kind bytes at < long_word = omega (arith, is, low) in
      rw (lt-leb long_word (offset_word kind bytes at) less, lt-ltb (offset_word kind bytes at) long_word less) (ap Some (sym is))

  module _ (high : long_word ≤ word) (start end : ℕ) (starts : start ≡ long_table_start kind bytes + 8 * (word - long_word)) (ends : end ≡ tables_end kind bytes) where
    start_is : start ≡ long_entry kind bytes at
    start_is = omega (arith, starts, is)

    long_is : long_word ≤ offset_word kind bytes at
    long_is = omega (arith, is, high)

    pub no_long : end < start + 8 → offset_at kind Index bytes at ≡ None
    no_long outside = rw (le-leb long_word (offset_word kind bytes at) long_is, lt-ltb (tables_end kind bytes) (long_entry kind bytes at + 8) (omega (arith, start_is, ends, outside))) refl

    pub long_offset : start + 8 ≤ end → (offset : ℕ) (long : List ℕ) → IsReadAt bytes start long → length long ≡ 8 → offset ≡ 2 ^ 32 * word_at long 0 + word_at long 4
        → offset_at kind Index bytes at ≡ Some offset
    long_offset inside offset long there eight made =
        let here : start + 0 ≡ long_entry kind bytes at = omega (arith, start_is) in
        let next : start + 4 ≡ long_entry kind bytes at + 4 = omega (arith, start_is) in
        let upper : word_at long 0 ≡ word_at bytes (long_entry kind bytes at) = word_within bytes start long there 0 (omega (arith, eight)) ∙ ap (word_at bytes) here in
        let lower : word_at long 4 ≡ word_at bytes (long_entry kind bytes at + 4) = word_within bytes start long there 4 (omega (arith, eight)) ∙ ap (word_at bytes) next in
        rw (
          le-leb long_word (offset_word kind bytes at) long_is,
          le-ltb (tables_end kind bytes) (long_entry kind bytes at + 8) (omega (arith, start_is, ends, inside)),
          le-ltb (offset_word kind bytes at) long_word long_is,
        ) (ap Some (sym (made ∙ (λ i. 2 ^ 32 * upper i + lower i))))

-- an object whose offset is in a table has it
pub has_offset : (kind : Kind) (bytes : List ℕ) (at : ℕ) → HasOffset kind bytes at → offset_at kind Index bytes at ≡ Some (offset_in kind bytes at)
has_offset kind bytes at has = elim (cases_lt (offset_word kind bytes at) long_word) [
  | inl low ↦ rw (lt-leb long_word (offset_word kind bytes at) low) refl
  | inr high ↦ rw (le-leb long_word (offset_word kind bytes at) high, le-ltb (tables_end kind bytes) (long_entry kind bytes at + 8) (has high)) refl
]
