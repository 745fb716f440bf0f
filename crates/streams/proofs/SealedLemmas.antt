-- Which bytes are sealed, and what is held back of those that were read.
use Rattle.gix_hash.proofs.Std.{◌≡◌, ◌≢◌, ◌<◌, ◌≤◌, ◌+◌, ◌-◌, ℕ, List, ◌++◌, length, take, drop, refl, sym, ap, ◌∙◌, arith, append_assoc, length-append, length-drop, min, copy_within, take-add, take-append-add, take-append_seam, drop-append_seam, length-take, nil_from_length, take-append-le, take-paste}
use borrow.Rule.Slice.PartMut.{put_mid, post_of}
use Rattle.gix_hash.specs.Words.{EndsInDigest, byte_len_of, digest, id_bytes}
use Rattle.gix_hash.specs.declared.Kind.{Kind}
use Rattle.gix_hash.specs.declared.Kind.TheVariants.{Sha1, Sha256}
use Rattle.gix_hash.specs.declared.ObjectId.{ObjectId}
use Rattle.streams.specs.Streams.{AreAllBelow, HasEnding, IsEnding}
use Rattle.streams.specs.declared.checking.Ending.{Ending}
use Rattle.streams.specs.declared.checking.Ending.TheVariants.{Sealed, Unsealed}

-- the two parts of a list are determined by the length of the second
same_parts : (a b c d : List ℕ) → a ++ b ≡ c ++ d → length b ≡ length d → (a ≡ c) × (b ≡ d)
same_parts a b c d same len =
    let front : length a ≡ length c = omega (arith, length-append a b, length-append c d, ap length same, len) in (
      sym (take-append_seam a b) ∙ ap (take (length a)) same ∙ ap (λ (n : ℕ). take n (c ++ d)) front ∙ take-append_seam c d,
      sym (drop-append_seam a b) ∙ ap (drop (length a)) same ∙ ap (λ (n : ℕ). drop n (c ++ d)) front ∙ drop-append_seam c d,
    )

-- every digest of the kind has its length
abbrev pub HaveLength : Kind → Type 0
HaveLength kind = (message : List ℕ) → length (id_bytes (digest kind message)) ≡ byte_len_of kind

-- of sealed bytes, the last, as many as a digest has, are the digest of those before them
sealed-end : (kind : Kind) → HaveLength kind → (front tail : List ℕ) → length tail ≡ byte_len_of kind → EndsInDigest kind (front ++ tail)
    → tail ≡ id_bytes (digest kind front)
sealed-end kind lens front tail len is_sealed =
    let message = is_sealed.0 in
    let same = same_parts front tail message (id_bytes (digest kind message)) is_sealed.1 (len ∙ sym (lens message)) in
    same.1 ∙ ap (λ (m : List ℕ). id_bytes (digest kind m)) (sym same.0)

-- sealed bytes are no fewer than those of a digest
sealed-length : (kind : Kind) → HaveLength kind → (bytes : List ℕ) → EndsInDigest kind bytes → byte_len_of kind ≤ length bytes
sealed-length kind lens bytes is_sealed =
    let message = is_sealed.0 in
    omega (arith, ap length is_sealed.1, length-append message (id_bytes (digest kind message)), lens message)

-- no digest of a kind has more than 32 bytes
byte_len_of-most : (kind : Kind) → byte_len_of kind ≤ 32
byte_len_of-most Sha1 = omega arith
byte_len_of-most Sha256 = omega arith

-- bytes of which as many are the last as a digest has, or all of fewer, are not sealed if those are no digest of the others
unsealed : (kind : Kind) → HaveLength kind → (message last : List ℕ) → length last ≤ byte_len_of kind → AreAllBelow (byte_len_of kind) message last
    → id_bytes (digest kind message) ≢ last → ¬ EndsInDigest kind (message ++ last)
unsealed kind lens message last most all differ is_sealed =
    let none : length last < byte_len_of kind → length message ≡ 0 = λ fewer. ap length (all fewer) in
    let full : length last ≡ byte_len_of kind =
    grind (arith, length-append message last, sealed-length kind lens (message ++ last) is_sealed) in
    differ (sym (sealed-end kind lens message last full is_sealed))

-- how the bytes end whose last are these
ends_as : (kind : Kind) → HaveLength kind → (message last : List ℕ) → length last ≤ byte_len_of kind → AreAllBelow (byte_len_of kind) message last
    → (id : ObjectId) → id ≡ digest kind message → (ending : Ending) → IsEnding kind id last ending → HasEnding kind (message ++ last) ending
ends_as kind lens message last most all id digest_is (Sealed found) is =
    (message, ap (λ (tail : List ℕ). message ++ tail) (sym is.1 ∙ ap id_bytes digest_is), is.0 ∙ digest_is)
ends_as kind lens message last most all id digest_is (Unsealed other found) is = record {
  message = message;
  last = last;
  parts = refl;
  all = all;
  not_sealed = unsealed kind lens message last most all (λ same. is.1 (ap id_bytes digest_is ∙ same));
  digest_is = is.0 ∙ digest_is;
  last_is = is.2;
}

-- the same, where more bytes were held back: those before the last, as many as a digest has, belong to the message
pub ends_after : (kind : Kind) → HaveLength kind → (message held more last : List ℕ) → held ≡ more ++ last → AreAllBelow 32 message held
    → length more ≡ length held - byte_len_of kind → (id : ObjectId) → id ≡ digest kind (message ++ more) → (ending : Ending)
    → IsEnding kind id last ending → HasEnding kind (message ++ held) ending
ends_after kind lens message held more last parts all cut id digest_is ending is =
    let most = byte_len_of-most kind in
    let len : length held ≡ length more + length last = ap length parts ∙ length-append more last in
    let none : AreAllBelow (byte_len_of kind) (message ++ more) last = λ fewer.
    rw (all (omega arith)) (nil_from_length more (omega arith)) in
    rw (parts, ← append_assoc) (ends_as kind lens (message ++ more) last (omega arith) none id digest_is ending is)

-- all bytes are held back if those are fewer than the longest digest has
pub all-held : (message last : List ℕ) (total held : ℕ) → length message + held ≡ total → held ≡ min 32 total → length last ≡ held
    → AreAllBelow 32 message last
all-held message last total held counted is_held len fewer =
    nil_from_length message (omega (arith, counted, is_held, len, fewer))

-- what is held back has as many bytes as it is said to
pub length-held : (message buf : List ℕ) (held : ℕ) → held ≤ length buf → length (message ++ take held buf) ≡ length message + held
length-held message buf held room = omega (arith, length-append message (take held buf), length-take held buf)

-- a chunk that was read after what is held back
pub take-read : (held k count : ℕ) (buf chunk : List ℕ) → held ≤ length buf → count ≤ length chunk
    → take (held + count) (put_mid held k buf chunk) ≡ take held buf ++ take count chunk
take-read held k count buf chunk room within =
    let len : held ≡ length (take held buf) = omega (arith, length-take held buf) in
    let after = post_of held k buf in
    ap (λ (n : ℕ). take (n + count) (take held buf ++ (chunk ++ after))) len
    ∙ take-append-add (take held buf) (chunk ++ after) count
    ∙ ap (λ (l : List ℕ). take held buf ++ l) (take-append-le count chunk after within)

-- the buffer contains what is held back and the chunk
pub length-read : (held k count : ℕ) (buf chunk : List ℕ) → held ≤ length buf → count ≤ length chunk
    → held + count ≤ length (put_mid held k buf chunk)
length-read held k count buf chunk room within =
    let after = post_of held k buf in
    let all : length (put_mid held k buf chunk) ≡ length (take held buf) + length (chunk ++ after) = length-append (take held buf) (chunk ++ after) in
    omega (arith, all, length-append chunk after, length-take held buf, room, within)

-- the first bytes of a list, and then those after them, which were copied to its front
before_held : (bytes : List ℕ) (fed end : ℕ) → fed ≤ end → end ≤ length bytes
    → take fed bytes ++ take (end - fed) (copy_within bytes fed end 0) ≡ take end bytes
before_held bytes fed end ordered within =
    let held = take-paste bytes 0 (drop fed bytes) (end - fed) (omega arith) (omega (arith, length-drop fed bytes)) in
    let front : 0 + (end - fed) ≡ end - fed = omega arith in
    let all : fed + (end - fed) ≡ end = omega arith in
    ap (λ (n : ℕ). take fed bytes ++ take n (copy_within bytes fed end 0)) (sym front)
    ∙ ap (λ (l : List ℕ). take fed bytes ++ l) held
    ∙ sym (take-add fed (end - fed) bytes)
    ∙ ap (λ (n : ℕ). take n bytes) all

-- what was fed and is held back after a chunk is what was before it, and the chunk
pub fed_and_held : (message buf chunk : List ℕ) (held k count fed : ℕ) → held ≤ length buf → count ≤ length chunk → fed ≤ held + count
    → (message ++ take fed (put_mid held k buf chunk))
    ++ take (held + count - fed) (copy_within (put_mid held k buf chunk) fed (held + count) 0) ≡ (message ++ take held buf) ++ take count chunk
fed_and_held message buf chunk held k count fed room within ordered =
    let all = put_mid held k buf chunk in
    append_assoc message (take fed all) _
    ∙ ap (λ (l : List ℕ). message ++ l) (before_held all fed (held + count) ordered (length-read held k count buf chunk room within)
    ∙ take-read held k count buf chunk room within)
    ∙ sym (append_assoc message (take held buf) (take count chunk))

-- as many bytes are held back again as a digest has, or all of fewer
pub held_again : (len total held count fed : ℕ) → held ≡ min len total → fed ≡ held + count - len → held + count - fed ≡ min len (total + count)
held_again len total held count fed was is_fed = omega arith
