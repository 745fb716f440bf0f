-- How many ids the bytes of a pack index have, and how many digits each.
use Rattle.gix_hash.proofs.Std.{◌≡◌, ℕ, ◌-◌, ◌+◌, ◌*◌, ◌/◌, ◌<◌, ◌≤◌, zero, suc, List, [], ◌∷◌, length, map, get_or, take, drop, refl, sym, ap, subst, ◌∙◌, arith, length-drop, slice_range, drop-drop, get_or-map, length-map, length-take-le, first_chunks}
use Rattle.id_lookup.specs.Words.{Kind, Sha1, Sha256, byte_len_of, digits_of, hex_len_of, least_hex_len}
use Rattle.id_digits.proofs.ByteDigits.{length-digits_of}
use Rattle.pack_index.specs.Format.{HasTables, crc_table_start, digests_in, ids_in, ids_start, num_objects}

-- their bytes
pub length-table : (kind : Kind) (bytes : List ℕ) → HasTables kind bytes → length (slice_range bytes ids_start (crc_table_start kind bytes)) ≡ byte_len_of kind * num_objects bytes
length-table kind bytes tables =
    let behind = length-drop ids_start bytes in
    length-take-le (crc_table_start kind bytes - ids_start) (drop ids_start bytes) (omega (arith, tables.fits)) ∙ omega arith

pub as_many : (kind : Kind) (n : ℕ) → byte_len_of kind * n / byte_len_of kind ≡ n
as_many Sha1 n = omega arith
as_many Sha256 n = omega arith

length-first_chunks : (n k : ℕ) (bytes : List ℕ) → length (first_chunks n k bytes) ≡ k
length-first_chunks n zero bytes = refl
length-first_chunks n (suc k) bytes = ap suc (length-first_chunks n k (drop n bytes))

pub length-digests_in : (kind : Kind) (bytes : List ℕ) → length (digests_in kind bytes) ≡ length bytes / byte_len_of kind
length-digests_in kind bytes =
    length-map (first_chunks (byte_len_of kind) (length bytes / byte_len_of kind) bytes) digits_of ∙ length-first_chunks (byte_len_of kind) (length bytes / byte_len_of kind) bytes

-- as many as are counted
pub length-ids_in : (kind : Kind) (bytes : List ℕ) → HasTables kind bytes → length (ids_in kind bytes) ≡ num_objects bytes
length-ids_in kind bytes tables =
    length-digests_in kind (slice_range bytes ids_start (crc_table_start kind bytes)) ∙ ap (λ n. n / byte_len_of kind) (length-table kind bytes tables)
    ∙ as_many kind (num_objects bytes)

-- the digits of a digest
get_or-first_chunks : {X : Type 0} (n count k : ℕ) (xs d : List X) → k < count → get_or (first_chunks n count xs) k d ≡ take n (drop (n * k) xs)
get_or-first_chunks n zero k xs d low = absurd (omega arith)
get_or-first_chunks n (suc count) zero xs d low = let none : 0 ≡ n * 0 = omega arith in ap (λ j. take n (drop j xs)) none
get_or-first_chunks n (suc count) (suc k) xs d low =
    let next : n + n * k ≡ n * suc k = omega arith in
    get_or-first_chunks n count k (drop n xs) d (omega arith) ∙ ap (take n) (drop-drop (n * k) n xs ∙ ap (λ j. drop j xs) next)

pub digest_digits : (kind : Kind) (bytes : List ℕ) (k : ℕ) (d : List ℕ) → k < length bytes / byte_len_of kind
    → get_or (digests_in kind bytes) k d ≡ digits_of (take (byte_len_of kind) (drop (byte_len_of kind * k) bytes))
digest_digits kind bytes k d low =
    let count = length bytes / byte_len_of kind in
    get_or-map digits_of (first_chunks (byte_len_of kind) count bytes) k d d (omega (arith, low, length-first_chunks (byte_len_of kind) count bytes))
    ∙ ap digits_of (get_or-first_chunks (byte_len_of kind) count k bytes d low)

-- each id has as many digits as its kind
whole : (n k : ℕ) (bytes : List ℕ) → n * k + n ≤ length bytes → length (digits_of (take n (drop (n * k) bytes))) ≡ 2 * n
whole n k bytes room =
    omega (arith, length-digits_of (take n (drop (n * k) bytes)), length-take-le n (drop (n * k) bytes) (omega (arith, room, length-drop (n * k) bytes)))

pub length-digests_in_at : (kind : Kind) (bytes : List ℕ) (k : ℕ) → k < length (digests_in kind bytes) → length (get_or (digests_in kind bytes) k []) ≡ hex_len_of kind
length-digests_in_at Sha1 bytes k low =
    let inside : k < length bytes / 20 = omega (arith, low, length-digests_in Sha1 bytes) in
    ap length (digest_digits Sha1 bytes k [] inside) ∙ whole 20 k bytes (omega (arith, inside))
length-digests_in_at Sha256 bytes k low =
    let inside : k < length bytes / 32 = omega (arith, low, length-digests_in Sha256 bytes) in
    ap length (digest_digits Sha256 bytes k [] inside) ∙ whole 32 k bytes (omega (arith, inside))

-- a prefix of the kind has at most as many digits as each of the ids
least_of : (n : ℕ) (ids : List (List ℕ)) → n ≤ 64 → ((k : ℕ) → k < length ids → length (get_or ids k []) ≡ n) → n ≤ least_hex_len ids
least_of n [] most each = most
least_of n (id ∷ ids) most each = omega (arith, each 0 (omega arith), least_of n ids most (λ k low. each (suc k) (omega (arith, low))))

pub digests_in-reach : (kind : Kind) (bytes : List ℕ) → hex_len_of kind ≤ least_hex_len (digests_in kind bytes)
digests_in-reach Sha1 bytes = least_of 40 (digests_in Sha1 bytes) (omega arith) (length-digests_in_at Sha1 bytes)
digests_in-reach Sha256 bytes = least_of 64 (digests_in Sha256 bytes) (omega arith) (length-digests_in_at Sha256 bytes)

-- so have the digests in chunks of bytes
module _ (kind : Kind) (bytes : List ℕ) (chunks : List (List ℕ)) (is : chunks ≡ first_chunks (byte_len_of kind) (length bytes / byte_len_of kind) bytes) where
  pub chunks-reach : hex_len_of kind ≤ least_hex_len (map digits_of chunks)
  chunks-reach = subst (λ (xs : List (List ℕ)). hex_len_of kind ≤ least_hex_len (map digits_of xs)) (sym is) (digests_in-reach kind bytes)

  pub chunks-long : (k : ℕ) → k < length (map digits_of chunks) → length (get_or (map digits_of chunks) k []) ≡ hex_len_of kind
  chunks-long =
      subst (λ (xs : List (List ℕ)). (k : ℕ) → k < length (map digits_of xs) → length (get_or (map digits_of xs) k []) ≡ hex_len_of kind) (sym is)
      (length-digests_in_at kind bytes)
