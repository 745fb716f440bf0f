-- The digits that a prefix stores: their number, their range and their order.
use Rattle.id_digits.proofs.Std.{◌≡◌, ℕ, ◌<◌, ◌≤◌, sym, ap, ◌∙◌, arith, Ordering, All, nat_cmp, ordering_then, slice_cmp, All-take}
use Rattle.gix_hash.specs.Kinds.{hex_len_of}
use Rattle.gix_hash.specs.Ids.{id_kind, id_bytes, id_digits}
use Rattle.id_digits.specs.Digits.{padded}
use Rattle.gix_hash.specs.PrefixBytes.{IsPacked, packed_digits, packed_digits-digits_of, shown, length-shown}
use Rattle.gix_hash.specs.declared.kind.Kind.{Kind}
use Rattle.gix_hash.specs.declared.kind.Kind.TheVariants.{Sha1, Sha256}
use Rattle.gix_hash.specs.declared.prefix.Prefix.TheInside.{Inside}
use Rattle.id_digits.specs.declared.words.Words.{Words}
use Rattle.id_digits.proofs.NumberParts.{then_assoc}
use Rattle.id_digits.proofs.WordOrder.{slice_cmp-words}

-- no kind has more than 64 digits
most_digits : (kind : Kind) (n : ℕ) → n ≤ hex_len_of kind → n ≤ 64
most_digits Sha1 n h = omega arith
most_digits Sha256 n h = h

pub length-kept : (p : Inside) → IsPacked p → p.hex_len ≤ 64
length-kept p h = most_digits (id_kind p.bytes) p.hex_len h.within

pub shown-below : (p : Inside) → IsPacked p → All (λ d. d < 16) (shown p)
shown-below p h = All-take (λ (d : ℕ). d < 16) p.hex_len (id_digits p.bytes) h.digits_in_range

-- the digits of a prefix, padded and packed, are its bytes
pub packed_digits-shown : (p : Inside) → IsPacked p → packed_digits (padded (hex_len_of (id_kind p.bytes)) (shown p)) ≡ id_bytes p.bytes
packed_digits-shown p h = ap packed_digits (sym h.zeros) ∙ packed_digits-digits_of (id_bytes p.bytes)

-- the words of two prefixes, and then their numbers of digits, compare as their digits
words_order : (p q : Inside) → IsPacked p → IsPacked q
    → ordering_then (ordering_then (nat_cmp p.words.first q.words.first) (nat_cmp p.words.second q.words.second)) (nat_cmp p.hex_len q.hex_len)
    ≡ slice_cmp nat_cmp (shown p) (shown q)
words_order p q h k =
    let len = length-shown p h in
    let other = length-shown q k in
    let most = length-kept p h in
    let other_most = length-kept q k in
    let words : (v w : Words) → Ordering = λ v w. ordering_then (nat_cmp v.first w.first) (nat_cmp v.second w.second) in
    (λ i. ordering_then (words (h.words i) (k.words i)) (nat_cmp (sym len i) (sym other i)))
    ∙ slice_cmp-words (shown p) (shown q) (shown-below p h) (shown-below q k) (omega arith) (omega arith)

-- and so after another comparison
pub words_order-after : (o : Ordering) (p q : Inside) → IsPacked p → IsPacked q
    → ordering_then (ordering_then o (ordering_then (nat_cmp p.words.first q.words.first) (nat_cmp p.words.second q.words.second))) (nat_cmp p.hex_len q.hex_len)
    ≡ ordering_then o (slice_cmp nat_cmp (shown p) (shown q))
words_order-after o p q h k = then_assoc o _ _ ∙ ap (ordering_then o) (words_order p q h k)
