-- The numbers in the head of a pack index are those of all its bytes.
use Rattle.gix_hash.proofs.Std.{◌≡◌, ℕ, zero, suc, ◌+◌, ◌-◌, ◌*◌, ◌<◌, ◌≤◌, List, [], ◌∷◌, length, get_or, slice_index, take, drop, refl, sym, ap, ◌∙◌, arith, zero-add, get_or-take, get_or-drop}
use Rattle.std.specs.Int.{from_be_bytes, w32}
use Rattle.id_lookup.specs.Words.{Kind, Sha1, Sha256}
use Rattle.pack_index.specs.Format.{BeginsIndex, Each, FillsBytes, HasHead, HasTables, IsFirstNot, IsHeadFault, min_len, num_objects, other_than, word_at}
use Rattle.pack_index.specs.Lazy.{Rises, bucket_start, fan_out}
use Rattle.pack_index.specs.declared.error.Error.{Error}
use Rattle.pack_index.specs.declared.error.Error.TheVariants.{OtherKind, TooShort, Version1, BadMagic, BadVersion, WrongLength}
use Rattle.streams.specs.Streams.{IsReadAt}

-- a byte of bytes that were read
pub byte_within : (bytes : List ℕ) (at : ℕ) (found : List ℕ) → IsReadAt bytes at found → (k : ℕ) → k < length found → slice_index found k ≡ slice_index bytes (at + k)
byte_within bytes at found read k low =
    let n = length found in
    let size : at + n - at ≡ n = omega arith in
    let is : found ≡ take n (drop at bytes) = read.same ∙ ap (λ m. take m (drop at bytes)) size in
    ap (λ (xs : List ℕ). get_or xs k 0) is ∙ get_or-take n (drop at bytes) k 0 low ∙ get_or-drop at bytes k 0

-- a number in them
pub word_within : (bytes : List ℕ) (at : ℕ) (found : List ℕ) → IsReadAt bytes at found → (k : ℕ) → k + 4 ≤ length found → word_at found k ≡ word_at bytes (at + k)
unfolding word_at
word_within bytes at found read k low =
    let byte : (j : ℕ) → j < 4 → get_or found (k + j) 0 ≡ get_or bytes (at + k + j) 0 =
    λ j less. byte_within bytes at found read (k + j) (omega arith) ∙ ap (λ m. get_or bytes m 0) (omega arith) in
    (λ i. from_be_bytes w32 (byte_within bytes at found read k (omega arith) i ∷ byte 1 (omega arith) i ∷ byte 2 (omega arith) i ∷ byte 3 (omega arith) i ∷ []))

module _ (bytes head : List ℕ) (front : IsReadAt bytes 0 head) (long : length head ≡ 1032) where
  pub head_word : (at : ℕ) → at + 4 ≤ 1032 → word_at head at ≡ word_at bytes at
  head_word at low = word_within bytes 0 head front at (omega (arith, long)) ∙ ap (word_at bytes) (zero-add at)

  pub head_count : num_objects head ≡ num_objects bytes
  head_count = head_word 1028 (omega arith)

  pub start_in_head : (byte : ℕ) → byte < 256 → bucket_start (fan_out head) byte ≡ bucket_start (fan_out bytes) byte
  start_in_head zero low = refl
  start_in_head (suc b) low = head_word (8 + 4 * b) (omega arith)

  pub end_in_head : (byte : ℕ) → byte < 256 → fan_out head byte ≡ fan_out bytes byte
  end_in_head byte low = head_word (8 + 4 * byte) (omega arith)

  -- entries that do not fall in the head do not fall in the bytes, and the first that falls is one there
  pub all_rise : Each (Rises (fan_out head)) 256 → Each (Rises (fan_out bytes)) 256
  all_rise rise = λ b low. omega (arith, rise b low, start_in_head b low, end_in_head b low)

  pub first_falls : (byte : ℕ) → IsFirstNot (Rises (fan_out head)) 256 byte → IsFirstNot (Rises (fan_out bytes)) 256 byte
  first_falls byte (low, before, falls) = (
    low,
    λ b less. omega (arith, before b less, start_in_head b (omega (arith, less, low)), end_in_head b (omega (arith, less, low))),
    λ is. falls (omega (arith, is, start_in_head byte low, end_in_head byte low)),
  )

  -- what is said of the head and the length holds of the bytes
  pub begins : (kind : Kind) (len : ℕ) → len ≡ length bytes → BeginsIndex kind head len → HasHead kind bytes
  begins kind len same is = record {
    enough = omega (arith, same, is.enough);
    magic = sym (head_word 0 (omega arith)) ∙ is.magic;
    version = sym (head_word 4 (omega arith)) ∙ is.version;
  }

  pub tables_by_head : (kind : Kind) (len : ℕ) → len ≡ length bytes → FillsBytes kind (num_objects head) len → HasTables kind bytes
  tables_by_head kind len same fills = rw (← same, ← head_count) fills

  head_by_tables : (kind : Kind) (len : ℕ) → len ≡ length bytes → HasTables kind bytes → FillsBytes kind (num_objects head) len
  head_by_tables kind len same tables = rw (same, head_count) tables

  pub head_fault : (kind : Kind) (len : ℕ) → len ≡ length bytes → (e : Error) → IsHeadFault kind head len e → IsHeadFault kind bytes (length bytes) e
  head_fault kind len same TooShort fault = rw (← same) fault
  head_fault kind len same Version1 fault = rw (← same, ← head_word 0 (omega arith), ← head_word 1020 (omega arith)) fault
  head_fault kind len same BadMagic fault = rw (← same, ← head_word 0 (omega arith), ← head_word 1020 (omega arith)) fault
  head_fault kind len same (BadVersion version) fault = rw (← same, ← head_word 0 (omega arith), ← head_word 4 (omega arith)) fault
  head_fault kind len same (OtherKind other) (is, not_full, name, fits) =
      (begins kind len same is, λ has. not_full (head_by_tables kind len same has), name, tables_by_head (other_than kind) len same fits)
  head_fault kind len same WrongLength (is, not_full, none) =
      (begins kind len same is, λ has. not_full (head_by_tables kind len same has), λ has. none (head_by_tables (other_than kind) len same has))
  head_fault kind len same _ fault = fault

-- as many bytes as the smallest index has contain a head
pub head_inside : (kind : Kind) (len : ℕ) → min_len kind ≤ len → 1032 ≤ len
head_inside Sha1 len enough = omega arith
head_inside Sha256 len enough = omega arith

-- if no entry falls, each is at most the last
pub count_inside : (bytes : List ℕ) → Each (Rises (fan_out bytes)) 256 → (byte : ℕ) → byte < 256 → fan_out bytes byte ≤ num_objects bytes
count_inside bytes rise byte low = up (255 - byte) byte (omega (arith, low))
  where
    up : (left b : ℕ) → b + left ≡ 255 → fan_out bytes b ≤ num_objects bytes
    up zero b last = let is : b ≡ 255 = omega (arith, last) in omega (arith, ap (fan_out bytes) is)
    up (suc left) b more = omega (arith, rise (suc b) (omega (arith, more)), up left (suc b) (omega (arith, more)))
