-- Tables of chunks of multi-pack-indexes.
use Rattle.gix_hash.proofs.Std.{◌≡◌, ◌∙◌, ◌⊎◌, ℕ, zero, suc, ◌+◌, ◌-◌, ◌*◌, ◌^◌, ◌<◌, ◌≤◌, List, ◌++◌, [], ◌∷◌, true, Option, None, Some, false≢true, inl, inr, length, get_or, slice_index, refl, sym, ap, subst, arith, cases_lt, zero-add, append-nil}
use Rattle.std.specs.Option.{MatchOption, is_some}
use Rattle.std.specs.Int.{from_be_bytes, w32}
use Rattle.std.proofs.lemmas.List.{get_or-append-add}
use Rattle.id_lookup.specs.Words.{Kind, byte_len_of}
use Rattle.pack_index.specs.Format.{Each, IsFirstNot, digest_at, word_at}
use Rattle.pack_index.specs.Lazy.{bucket_start, fan_out, up_to_at}
use Rattle.pack_index.specs.Multi.{HasChunks, HasFanOut, IsChunk, IsReadAsMulti, chunk_count, chunk_start}
use Rattle.pack_index.specs.declared.layout.Layout.{Layout}
use Rattle.pack_index.specs.declared.layout.Layout.TheVariants.{Index, Multi}
use Rattle.pack_index.specs.declared.multi.Chunks.{Chunks}
use Rattle.pack_index.proofs.Heads.{byte_within, word_within}
use Rattle.pack_index.proofs.Ranges.{length-range}
use Rattle.streams.specs.Streams.{IsReadAt}

-- what follows from an option's cases
pub follows : {X : Type 0} (A B : Type 0) (P Q : X → Type 0) (o : Option X) → (A → B) → ((x : X) → P x → Q x) → MatchOption o A P → MatchOption o B Q
follows A B P Q None none some is = none is
follows A B P Q (Some x) none some is = some x is

-- a number after some other bytes
pub word_behind : (front bytes : List ℕ) (k : ℕ) → word_at (front ++ bytes) (length front + k) ≡ word_at bytes k
unfolding word_at
word_behind front bytes k =
    let byte : (j : ℕ) → get_or (front ++ bytes) (length front + k + j) 0 ≡ get_or bytes (k + j) 0 =
    λ j. ap (λ n. get_or (front ++ bytes) n 0) (omega arith) ∙ get_or-append-add front bytes (k + j) 0 in
    (λ i. from_be_bytes w32 (get_or-append-add front bytes k 0 i ∷ byte 1 i ∷ byte 2 i ∷ byte 3 i ∷ []))

-- bytes with the same header and the same table have the same chunks
module _ (one two : List ℕ) (byte : (k : ℕ) → k < 8 → slice_index one k ≡ slice_index two k)
    (word : (k : ℕ) → k + 4 ≤ 24 + 12 * chunk_count one → word_at one k ≡ word_at two k) where
  same_chunk : (limit letters start end : ℕ) → IsChunk one limit letters start end → IsChunk two limit letters start end
  same_chunk limit letters start end is =
      let low = is.in_range in record {
        at = is.at;
        in_range = omega (arith, low, byte 6 (omega arith));
        named = sym (word (12 + 12 * is.at) (omega (arith, low))) ∙ is.named;
        first = λ k before same. is.first k before (word (12 + 12 * k) (omega (arith, low, before)) ∙ same);
        begins = is.begins ∙ (λ i. 2 ^ 32 * word (16 + 12 * is.at) (omega (arith, low)) i + word (20 + 12 * is.at) (omega (arith, low)) i);
        ends = is.ends ∙ (λ i. 2 ^ 32 * word (16 + 12 * (is.at + 1)) (omega (arith, low)) i + word (20 + 12 * (is.at + 1)) (omega (arith, low)) i);
        in_order = is.in_order;
        inside = is.inside;
      }

  same_chunks : (kind : Kind) (limit : ℕ) (chunks : Chunks) → 24 + 12 * chunk_count two ≤ length two → HasChunks kind one limit chunks → HasChunks kind two limit chunks
  same_chunks kind limit chunks fits has = record {
    head = record {
      letters = sym (word 0 (omega arith)) ∙ has.head.letters;
      version = sym (byte 4 (omega arith)) ∙ has.head.version;
      digests = sym (byte 5 (omega arith)) ∙ has.head.digests;
      no_base = sym (byte 7 (omega arith)) ∙ has.head.no_base;
      table = fits;
    };
    names = same_chunk limit _ _ _ has.names;
    counts = same_chunk limit _ _ _ has.counts;
    ids = same_chunk limit _ _ _ has.ids;
  }

-- so those of the first bytes are those of all, if as many were read as the longest table needs, or all
module _ (bytes front : List ℕ) (read : IsReadAt bytes 0 front) (kind : Kind) (limit : ℕ) (chunks : Chunks) where
  word : (k : ℕ) → k + 4 ≤ length front → word_at front k ≡ word_at bytes k
  word k low = word_within bytes 0 front read k low ∙ ap (word_at bytes) (zero-add k)

  byte : (k : ℕ) → k < length front → slice_index front k ≡ slice_index bytes k
  byte k low = byte_within bytes 0 front read k low ∙ ap (slice_index bytes) (zero-add k)

  pub chunks_in_all : HasChunks kind front limit chunks → HasChunks kind bytes limit chunks
  chunks_in_all has =
      let table = has.head.table in
      same_chunks front bytes (λ k low. byte k (omega (arith, low, table))) (λ k low. word k (omega (arith, low, table))) kind limit chunks
      (omega (arith, table, byte 6 (omega (arith, table)), read.within)) has

  pub chunks_in_front : chunk_count front < 256 → (length front ≡ length bytes) ⊎ (3084 ≤ length front) → HasChunks kind bytes limit chunks → HasChunks kind front limit chunks
  chunks_in_front small enough has =
      let table = has.head.table in
      let some : 24 ≤ length front = elim enough [ inl all ↦ omega (arith, all, table) | inr many ↦ omega (arith, many) ] in
      let count = byte 6 (omega (arith, some)) in
      let fits : 24 + 12 * chunk_count front ≤ length front = elim enough [ inl all ↦ omega (arith, all, table, count) | inr many ↦ omega (arith, many, small) ] in
      same_chunks bytes front (λ k low. sym (byte k (omega (arith, low, some)))) (λ k low. sym (word k (omega (arith, low, fits, count)))) kind limit chunks fits has

-- 8 zeros and what was read of a fan-out table
abbrev pub with_zeros : List ℕ → List ℕ
with_zeros found = 0 ∷ 0 ∷ 0 ∷ 0 ∷ 0 ∷ 0 ∷ 0 ∷ 0 ∷ (found ++ [])

pub entry_is : (bytes found : List ℕ) (chunks : Chunks) → IsReadAt bytes chunks.counts.start found → length found ≡ 1024
    → Each (λ byte. fan_out (with_zeros found) byte ≡ up_to_at (Multi chunks.counts.start chunks.ids.start) bytes byte) 256
entry_is bytes found chunks read long = λ byte low.
    ap (λ (rest : List ℕ). fan_out (0 ∷ 0 ∷ 0 ∷ 0 ∷ 0 ∷ 0 ∷ 0 ∷ 0 ∷ rest) byte) (append-nil found)
    ∙ word_behind (0 ∷ 0 ∷ 0 ∷ 0 ∷ 0 ∷ 0 ∷ 0 ∷ 0 ∷ []) found (4 * byte) ∙ word_within bytes chunks.counts.start found read (4 * byte) (omega (arith, low, long))

-- tables with the same entries are right for the same chunks
pub same_fan_out : (kind : Kind) (chunks : Chunks) (one two : ℕ → ℕ) → Each (λ byte. one byte ≡ two byte) 256 → HasFanOut kind chunks one → HasFanOut kind chunks two
same_fan_out kind chunks one two same has = record {
  whole = has.whole;
  rises = λ byte low. omega (arith, has.rises byte low, start byte low, same byte low);
  counted = has.counted ∙ ap (λ n. chunks.ids.start + byte_len_of kind * n) (same 255 (omega arith));
}
  where
    start : (byte : ℕ) → byte < 256 → bucket_start one byte ≡ bucket_start two byte
    start zero low = refl
    start (suc before) low = same before (omega arith)

pub no_fall : (P : ℕ → Type 0) (o : Option ℕ) → MatchOption o (Each P 256) (IsFirstNot P 256) → is_some o ≡ true → Each P 256 → ⊥
no_fall P None found some each = false≢true some
no_fall P (Some byte) found some each = found.2 (each byte found.0)

-- there is only one first chunk with some letters
one_chunk : (bytes : List ℕ) (limit letters start end start' end' : ℕ) → IsChunk bytes limit letters start end → IsChunk bytes limit letters start' end' → (start ≡ start') × (end ≡ end')
one_chunk bytes limit letters start end start' end' one two =
    let same : one.at ≡ two.at = elim (cases_lt one.at two.at) [
      | inl less ↦ absurd (two.first one.at less one.named)
      | inr up ↦ elim (cases_lt two.at one.at) [
        | inl less ↦ absurd (one.first two.at less two.named)
        | inr down ↦ omega (arith, up, down)
      ]
    ] in
    (one.begins ∙ ap (chunk_start bytes) same ∙ sym two.begins, one.ends ∙ ap (λ k. chunk_start bytes (k + 1)) same ∙ sym two.ends)

-- so some bytes are read in one way
module _ (kind : Kind) (bytes : List ℕ) (chunks : Chunks) (has : HasChunks kind bytes (digest_at kind bytes) chunks) (layout : Layout) (names : List ℕ)
    (read : IsReadAsMulti kind bytes layout names) where
  same : read.chunks ≡ chunks
  same =
      let limit = digest_at kind bytes in
      let n = one_chunk bytes limit 1347305805 _ _ _ _ read.has.names has.names in
      let c = one_chunk bytes limit 1330201670 _ _ _ _ read.has.counts has.counts in
      let d = one_chunk bytes limit 1330201676 _ _ _ _ read.has.ids has.ids in
      (λ i. record { names = record { start = n.0 i; end = n.1 i }; counts = record { start = c.0 i; end = c.1 i }; ids = record { start = d.0 i; end = d.1 i } })

  pub length-names : length names ≡ chunks.names.end - chunks.names.start
  length-names = ap length read.named ∙ length-range bytes read.chunks.names.start read.chunks.names.end (omega (arith, read.has.names.inside))
      ∙ (λ i. (same i).names.end - (same i).names.start)

  pub has_fan_out : HasFanOut kind chunks (up_to_at (Multi chunks.counts.start chunks.ids.start) bytes)
  has_fan_out = subst (λ (found : Chunks). HasFanOut kind found (up_to_at (Multi found.counts.start found.ids.start) bytes)) same
      (subst (λ (l : Layout). HasFanOut kind read.chunks (up_to_at l bytes)) read.laid_out read.fan_out)

abbrev IsMulti : Layout → Type 0
IsMulti Index = ⊥
IsMulti (Multi counts ids) = Unit {0}

pub not_index : (counts ids : ℕ) → Multi counts ids ≡ Index → ⊥
not_index counts ids is = subst IsMulti is tt
