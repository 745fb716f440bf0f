-- The order of the first digits of two lists, by how many digits these have in common; and that there is none for too many.
use Rattle.gix_hash.proofs.Std.{◌≡◌, ℕ, zero, suc, ◌+◌, ◌*◌, ◌<◌, ◌≤◌, pos, Bool, true, false, ◌||◌, Equal, List, [], ◌∷◌, length, take, nat_lt, refl, sym, ap, ◌∙◌, arith, ◌==◌, if◌then◌else◌, Some, None, length-take-le, take-take, nat_cmp, ordering_then, slice_cmp, texts_ties, nat_tests}
use Rattle.id_lookup.specs.Words.{Kind, KindDigits, Sha1, Sha256, byte_len_of, digits_of, hex_len_of, place}
use Rattle.id_digits.proofs.ByteDigits.{length-digits_of, take-digits_of}
use Rattle.id_lookup.proofs.CommonDigits.{begins-common, common, cond_yes}
use Rattle.id_lookup.proofs.FirstByteOrder.{by_cmp}
use Rattle.id_lookup.proofs.Spelled.{is_eq-Equal}
use Rattle.gix_hash.proofs.KindFacts.{hex_len_of-bytes}
use Rattle.gix_hash_c.specs.Face.{place_number, prefix_in}

-- more digits are in the order of all
apart-order : (n : ℕ) (x y : List ℕ) → n ≤ length x → n ≤ length y → common x y < n → slice_cmp nat_cmp (take n x) (take n y) ≡ slice_cmp nat_cmp x y
apart-order zero x y within reach many = absurd (omega arith)
apart-order (suc n) [] y within reach many = absurd (omega arith)
apart-order (suc n) (a ∷ xs) [] within reach many = absurd (omega arith)
apart-order (suc n) (a ∷ xs) (b ∷ ys) within reach many =
    by_cmp a b (λ o. ordering_then o (slice_cmp nat_cmp (take n xs) (take n ys)) ≡ ordering_then o (slice_cmp nat_cmp xs ys))
    (λ l. refl)
    (λ l. apart-order n xs ys (omega arith) (omega arith) (omega (arith, cond_yes a b (1 + common xs ys) l)))
    (λ l. refl)

most_bytes : (kind : Kind) → byte_len_of kind ≤ 32
most_bytes Sha1 = omega arith
most_bytes Sha256 = omega arith

-- the first digits of 32 bytes, and those of an id of a kind and of the bytes that such an id has
module _ (kind : Kind) (n k : ℕ) (bytes id own : List ℕ) (most : n ≤ hex_len_of kind) (len : k ≡ byte_len_of kind) (all : length bytes ≡ 32)
    (whole : length id ≡ hex_len_of kind) (is : own ≡ digits_of (take k bytes)) where
  within : n ≤ 2 * k
  within = omega (arith, most, len, hex_len_of-bytes kind)

  long : n ≤ length own
  long = omega (arith, within, length-take-le k bytes (omega (arith, all, len, most_bytes kind)), length-digits_of (take k bytes), ap length is)

  reach : n ≤ length id
  reach = omega (arith, most, whole)

  same : take n (digits_of bytes) ≡ take n own
  same = sym (take-take n (2 * k) (digits_of bytes) within) ∙ ap (take n) (take-digits_of k bytes ∙ sym is)

  -- their place against the id
  pub place-common : n ≤ common own id → place (take n (digits_of bytes)) id ≡ Equal
  place-common few =
      rw same ((is_eq-Equal (place (take n own) id)).0 (sym (texts_ties (take n own) (take (length (take n own)) id)) ∙ begins-common n own id long few))

  pub place-apart : common own id < n → place (take n (digits_of bytes)) id ≡ slice_cmp nat_cmp own id
  place-apart many = rw (same, length-take-le n own long) (apart-order n own id long reach many)

-- no order if the id has fewer digits
pub too_few : (n : ℕ) (bytes : List ℕ) (id : KindDigits) → length bytes ≡ 32 → hex_len_of id.kind < n
    → place_number (prefix_in (record { hex_len = n; bytes = bytes })) (Some id) ≡ pos 2
too_few n bytes id all few = by (n == 0 || nat_lt 64 n) refl
  where
    by : (bad : Bool) → (n == 0 || nat_lt 64 n) ≡ bad → place_number (if bad then None else Some (take n (digits_of bytes))) (Some id) ≡ pos 2
    by true e = refl
    by false e =
        let most : n ≤ 64 = grind (arith, nat_tests) in
        let enough = length-take-le n (digits_of bytes) (omega (arith, all, most, length-digits_of bytes)) in
        let more : nat_lt (hex_len_of id.kind) n ≡ true = grind (arith, nat_tests) in
        rw (enough, more) refl
