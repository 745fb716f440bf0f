-- The ids of a bucket, by its bytes.
use Rattle.gix_hash.proofs.Std.{◌≡◌, Bool, true, ℕ, zero, suc, ◌+◌, ◌-◌, ◌*◌, ◌/◌, ◌<◌, ◌≤◌, List, [], ◌∷◌, length, get_or, slice_index, take, drop, sym, ap, ◌∙◌, subst, arith, ◌↔◌, slice_range, IsTrue, All, All-drop, All-take, count_by, mul-le-mul_left, first_chunks, get_or-map, length-map, same_lists, take-take, All-map, filter_passes}
use Rattle.id_lookup.specs.Words.{Kind, Sha1, Sha256, byte_len_of, digits_of, has_first_byte, is_below, is_up_to, part_of}
use Rattle.id_digits.proofs.ByteDigits.{take-digits_of}
use Rattle.id_lookup.proofs.FilterCounted.{filter_counted}
use Rattle.id_lookup.proofs.FirstByteCounts.{count_by-below_0, count_by-up_to, up_to_step}
use Rattle.id_lookup.proofs.PartsInOrder.{below-next, part-run}
use Rattle.pack_index.specs.Format.{IsPackIndex, crc_table_start, digests_in, ids_in}
use Rattle.pack_index.specs.Lazy.{HasBucket, HaveRightCounts, HaveFirstByte, IsBucketFault, IsRunFault, IsReadOrMemory, Tables, bucket_start, counted_with, fan_out, tables_of}
use Rattle.pack_index.specs.declared.layout.Layout.TheVariants.{Index}
use Rattle.pack_index.specs.declared.lazy_error.LazyError.{LazyError}
use Rattle.pack_index.specs.declared.lazy_error.LazyError.TheVariants.{Read, Memory, WrongCount}
use Rattle.pack_index.proofs.Counted.{as_many, digest_digits, length-digests_in}
use Rattle.pack_index.proofs.Ranges.{length-range, part_of_part, range_at, range_within}
use Rattle.streams.specs.Streams.{IsReadAt}

-- a test of whether digests have the first byte, by their bytes
pub have_first : (kind : Kind) (byte : ℕ) (bytes : List ℕ) (chunks : List (List ℕ)) (all : Bool)
    → chunks ≡ first_chunks (byte_len_of kind) (length bytes / byte_len_of kind) bytes
    → IsTrue all ↔ All (λ id. IsTrue (has_first_byte byte (digits_of id))) chunks → IsTrue all ↔ HaveFirstByte byte (digests_in kind bytes)
have_first kind byte bytes chunks all is test =
    let P : List ℕ → Type 0 = λ id. IsTrue (has_first_byte byte id) in
    rw (← is) (
      λ so. All-map P digits_of chunks (test.0 so),
      λ each. test.1 (λ k d low. subst P (get_or-map digits_of chunks k d [] low) (each k [] (omega (arith, low, length-map chunks digits_of)))),
    )

-- a digest in a part of some bytes that is whole digests
digest_in : (kind : Kind) (from count k : ℕ) (bytes part d : List ℕ) → part ≡ take (byte_len_of kind * count) (drop from bytes) → length part ≡ byte_len_of kind * count
    → k < count → get_or (digests_in kind part) k d ≡ digits_of (take (byte_len_of kind) (drop (from + byte_len_of kind * k) bytes))
digest_in kind from count k bytes part d is long low =
    let n = byte_len_of kind in
    let all : length part / n ≡ count = ap (λ m. m / n) long ∙ as_many kind count in
    let next : k + 1 ≤ count = omega (arith, low) in
    digest_digits kind part k d (omega (arith, all, low)) ∙ ap (λ (xs : List ℕ). digits_of (take n (drop (n * k) xs))) is
    ∙ ap digits_of (part_of_part bytes n (n * k) (n * count) from (omega (arith, mul-le-mul_left n next)))

-- some of the ids of a table are in it
pub run_fits : (kind : Kind) (first count at many : ℕ) → at + many ≤ count → first + byte_len_of kind * at + byte_len_of kind * many ≤ first + byte_len_of kind * count
run_fits Sha1 first count at many inside = omega (arith, inside)
run_fits Sha256 first count at many inside = omega (arith, inside)

-- an id has eight bytes and more
pub eight : (kind : Kind) → 8 ≤ byte_len_of kind
eight Sha1 = omega arith
eight Sha256 = omega arith

-- some ids in bytes, one after the other
module _ (kind : Kind) (bytes : List ℕ) (first count : ℕ) (fits : first + byte_len_of kind * count ≤ length bytes) where
  abbrev table : List ℕ
  table = slice_range bytes first (first + byte_len_of kind * count)

  size : first + byte_len_of kind * count - first ≡ byte_len_of kind * count
  size = omega arith

  pub length-ids : length (digests_in kind table) ≡ count
  length-ids = length-digests_in kind table ∙ ap (λ m. m / byte_len_of kind) (length-range bytes first (first + byte_len_of kind * count) fits ∙ size) ∙ as_many kind count

  -- the one at a position, by the bytes from there on
  id_is : (at : ℕ) (d : List ℕ) → at < count → get_or (digests_in kind table) at d ≡ digits_of (take (byte_len_of kind) (drop (first + byte_len_of kind * at) bytes))
  id_is at d low = digest_in kind first count at bytes table d (ap (λ m. take m (drop first bytes)) size) (length-range bytes first (first + byte_len_of kind * count) fits ∙ size) low

  -- so it has the digits of what was read there
  pub id_at : (id : List ℕ) (at : ℕ) → at < count → IsReadAt bytes (first + byte_len_of kind * at) id → length id ≡ byte_len_of kind
      → digits_of id ≡ get_or (digests_in kind table) at []
  id_at id at low read long =
      ap digits_of (read.same ∙ ap (λ m. take m (drop (first + byte_len_of kind * at) bytes)) (omega (arith, long))) ∙ sym (id_is at [] low)

  -- and its first digits are those of the first bytes there
  pub id_begins : (front : List ℕ) (at : ℕ) → at < count → IsReadAt bytes (first + byte_len_of kind * at) front → length front ≡ 8
      → digits_of front ≡ take 16 (get_or (digests_in kind table) at [])
  id_begins front at low read long =
      let n = byte_len_of kind in
      let there = drop (first + n * at) bytes in
      let eight_bytes : first + n * at + length front - (first + n * at) ≡ 8 = omega (arith, long) in
      let begins = read.same ∙ ap (λ m. take m there) eight_bytes ∙ sym (take-take 8 n there (eight kind)) in
      ap digits_of begins ∙ sym (take-digits_of 8 (take n there)) ∙ ap (take 16) (sym (id_is at [] low))

  -- and those of a run are the digests that were read of it
  pub ids_between : (found : List ℕ) (start end : ℕ) → start ≤ end → end ≤ count → IsReadAt bytes (first + byte_len_of kind * start) found
      → length found ≡ byte_len_of kind * (end - start) → slice_range (digests_in kind table) start end ≡ digests_in kind found
  ids_between found start end rise inside stands long =
      let n = byte_len_of kind in
      let ids = digests_in kind table in
      let found_is : found ≡ take (n * (end - start)) (drop (first + n * start) bytes) =
      stands.same ∙ ap (λ m. take m (drop (first + n * start) bytes)) (omega (arith, long)) in
      let many : length (slice_range ids start end) ≡ end - start = length-range ids start end (omega (arith, length-ids, inside)) in
      same_lists (slice_range ids start end) (digests_in kind found)
      (many ∙ sym (length-digests_in kind found ∙ ap (λ m. m / n) long ∙ as_many kind (end - start)))
      (λ k d low.
      let less : k < end - start = omega (arith, many, low) in
      let same : first + n * (start + k) ≡ first + n * start + n * k = omega arith in
      range_at ids start end k d d low ∙ id_is (start + k) d (omega (arith, less, inside, rise))
      ∙ ap (λ m. digits_of (take n (drop m bytes))) same ∙ sym (digest_in kind (first + n * start) (end - start) k bytes found d found_is long less))

-- as many ids have a byte as are counted with it and not before it
count_has : (tables : Tables) (byte : ℕ) → HaveRightCounts tables → byte < 256 → count_by (has_first_byte byte) tables.ids + bucket_start tables.up_to byte ≡ tables.up_to byte
count_has tables zero counts small = omega (arith, counts 0 small, count_by-up_to 0 tables.ids, count_by-below_0 tables.ids)
count_has tables (suc b) counts small =
    let before : suc b - 1 ≡ b = omega arith in
    let step = up_to_step (suc b) tables.ids (omega arith) in
    omega (arith, counts (suc b) small, counts b (omega arith), step, ap (λ n. count_by (is_up_to n) tables.ids) before)

-- if each has the byte, they are all that have it
pub counted_all : (tables : Tables) (byte : ℕ) → HaveRightCounts tables → byte < 256 → HasBucket tables byte → counted_with tables byte ≡ part_of byte tables.ids
counted_all tables byte counts small has =
    filter_counted (has_first_byte byte) tables.ids (bucket_start tables.up_to byte) (tables.up_to byte) has.in_order has.inside has.first
    (omega (arith, count_has tables byte counts small))

-- second digits are below 16
second_digit : (bytes : List ℕ) → slice_index (digits_of bytes) 1 < 16
unfolding digits_of
second_digit [] = omega arith
second_digit (b ∷ bytes) = omega arith

second_digits : (kind : Kind) (bytes : List ℕ) → All (λ id. slice_index id 1 < 16) (ids_in kind bytes)
second_digits kind bytes =
    let table = slice_range bytes 1032 (crc_table_start kind bytes) in
    All-map (λ id. slice_index id 1 < 16) digits_of (first_chunks (byte_len_of kind) (length table / byte_len_of kind) table)
    (λ k d low. second_digit (get_or (first_chunks (byte_len_of kind) (length table / byte_len_of kind) table) k d))

module _ (kind : Kind) (bytes : List ℕ) (byte : ℕ) (index : IsPackIndex kind bytes) (small : byte < 256) where
  start_counted : bucket_start (fan_out bytes) byte ≡ count_by (is_below byte) (ids_in kind bytes)
  start_counted = by byte small
    where
      by : (b : ℕ) → b < 256 → bucket_start (fan_out bytes) b ≡ count_by (is_below b) (ids_in kind bytes)
      by zero low = sym (count_by-below_0 (ids_in kind bytes))
      by (suc b) low = index.ids.counts b (omega arith) ∙ sym (below-next b (ids_in kind bytes))

  -- those that are counted with the byte have it
  have_byte : HaveFirstByte byte (counted_with (tables_of kind Index bytes) byte)
  have_byte =
      let is : part_of byte (ids_in kind bytes) ≡ counted_with (tables_of kind Index bytes) byte =
      sym (part-run (ids_in kind bytes) index.ids.sorted (second_digits kind bytes) byte)
      ∙ (λ i. slice_range (ids_in kind bytes) (sym start_counted i) (sym (index.ids.counts byte small) i)) in
      subst (λ (ids : List (List ℕ)). All (λ id. has_first_byte byte id ≡ true) ids) is (filter_passes (has_first_byte byte) (ids_in kind bytes))

-- why ids of a bucket are not read, from its start to its end, or from one position of it to another if each has the byte
pub bucket_fault : (can_fail : Bool) (tables : Tables) (byte from to : ℕ) (e : LazyError) → byte < 256 → from ≤ to → to ≤ length tables.ids
    → from ≡ bucket_start tables.up_to byte → to ≡ tables.up_to byte → IsRunFault can_fail (slice_range tables.ids from to) byte e → IsBucketFault can_fail tables byte e
bucket_fault can_fail tables byte from to (Read e) small rise inside start end fault = fault
bucket_fault can_fail tables byte from to (Memory e) small rise inside start end fault = tt
bucket_fault can_fail tables byte from to (WrongCount b) small rise inside start end fault = (
  fault.0,
  small,
  omega (arith, rise, start, end),
  omega (arith, inside, end),
  subst (λ (ids : List (List ℕ)). ¬ HaveFirstByte byte ids) (λ i. slice_range tables.ids (start i) (end i)) fault.1,
)
bucket_fault can_fail tables byte from to _ small rise inside start end fault = absurd fault

pub part_fault : (can_fail : Bool) (tables : Tables) (byte from to : ℕ) (e : LazyError) → HasBucket tables byte → bucket_start tables.up_to byte ≤ from → from ≤ to
    → to ≤ tables.up_to byte → IsRunFault can_fail (slice_range tables.ids from to) byte e → IsBucketFault can_fail tables byte e
part_fault can_fail tables byte from to (Read e) has low rise high fault = fault
part_fault can_fail tables byte from to (Memory e) has low rise high fault = tt
part_fault can_fail tables byte from to (WrongCount b) has low rise high fault =
    let start = bucket_start tables.up_to byte in
    let P : List ℕ → Type 0 = λ id. IsTrue (has_first_byte byte id) in
    let ids = counted_with tables byte in
    absurd (fault.1 (subst (All P) (range_within tables.ids start (tables.up_to byte) from to low rise high) (All-take P (to - start - (from - start)) _ (All-drop P (from - start) ids has.first))))
part_fault can_fail tables byte from to _ has low rise high fault = absurd fault

-- a pack index has no fault
pub no_bucket_fault : (can_fail : Bool) (kind : Kind) (bytes : List ℕ) (byte : ℕ) (e : LazyError) → IsPackIndex kind bytes
    → IsBucketFault can_fail (tables_of kind Index bytes) byte e → IsReadOrMemory can_fail e
no_bucket_fault can_fail kind bytes byte (Read e) index fault = fault
no_bucket_fault can_fail kind bytes byte (Memory e) index fault = tt
no_bucket_fault can_fail kind bytes byte (WrongCount b) index fault = fault.4 (have_byte kind bytes byte index fault.1)
no_bucket_fault can_fail kind bytes byte _ index fault = absurd fault
