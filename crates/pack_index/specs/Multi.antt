-- Git's multi-pack-index (gitformat-pack), as far as it is read. Its bytes are: the letters MIDX; its version, that of its digests, the number of its chunks, and
-- that of the multi-pack-indexes that it builds on, in a byte each; the number of its packs, in four bytes; for each chunk its four letters and, in eight bytes,
-- where it begins, and then an entry for where the last one ends; the chunks; and the digest of all before it.
use Rattle.std.specs.Prelude.{◌≡◌, ◌≢◌, ℕ, ◌+◌, ◌*◌, ◌^◌, ◌<◌, ◌≤◌, List, length, slice_index, slice_range}
use Rattle.id_lookup.specs.Words.{Kind, Sha1, Sha256, byte_len_of}
use Rattle.pack_index.specs.Format.{digest_at, word_at}
use Rattle.pack_index.specs.Lazy.{bucket_start, up_to_at}
use Rattle.pack_index.specs.declared.layout.Layout.{Layout}
use Rattle.pack_index.specs.declared.layout.Layout.TheVariants.{Multi}
use Rattle.pack_index.specs.declared.multi.Chunks.{Chunks}

-- the version of the digests of a kind
abbrev pub digest_version : Kind → ℕ
digest_version Sha1 = 1
digest_version Sha256 = 2

-- how many chunks there are
abbrev pub chunk_count : List ℕ → ℕ
chunk_count bytes = slice_index bytes 6

-- the letters of a chunk
abbrev pub chunk_letters : List ℕ → ℕ → ℕ
chunk_letters bytes k = word_at bytes (12 + 12 * k)

-- where it begins; the entry after that of the last chunk says where this one ends
abbrev pub chunk_start : List ℕ → ℕ → ℕ
chunk_start bytes k = 2 ^ 32 * word_at bytes (16 + 12 * k) + word_at bytes (20 + 12 * k)

-- the bytes begin as a multi-pack-index of version 1 and the kind that builds on no other, with the letters MIDX, and have its table of chunks
pub record BeginsMulti (kind : Kind) (bytes : List ℕ) : Type 0 where
  pub letters : word_at bytes 0 ≡ 1296647256
  pub version : slice_index bytes 4 ≡ 1
  pub digests : slice_index bytes 5 ≡ digest_version kind
  pub no_base : slice_index bytes 7 ≡ 0
  pub table : 24 + 12 * chunk_count bytes ≤ length bytes

-- by the table of chunks, the first one with these letters is from one position to another, and ends by a limit
pub record IsChunk (bytes : List ℕ) (limit letters start end : ℕ) : Type 0 where
  pub at : ℕ
  pub in_range : at < chunk_count bytes
  pub named : chunk_letters bytes at ≡ letters
  pub first : (k : ℕ) → k < at → chunk_letters bytes k ≢ letters
  pub begins : start ≡ chunk_start bytes at
  pub ends : end ≡ chunk_start bytes (at + 1)
  pub in_order : start ≤ end
  pub inside : end ≤ limit

-- the first bytes are those of a multi-pack-index that has the three chunks at these positions, which end by a limit: that of the names of packs has the letters
-- PNAM, that of the fan-out table OIDF, and that of the ids OIDL
pub record HasChunks (kind : Kind) (bytes : List ℕ) (limit : ℕ) (chunks : Chunks) : Type 0 where
  pub head : BeginsMulti kind bytes
  pub names : IsChunk bytes limit 1347305805 chunks.names.start chunks.names.end
  pub counts : IsChunk bytes limit 1330201670 chunks.counts.start chunks.counts.end
  pub ids : IsChunk bytes limit 1330201676 chunks.ids.start chunks.ids.end

-- the chunk of the fan-out table has the length of 256 entries, these do not fall, and the chunk of the ids has the length of as many as the last entry says
pub record HasFanOut (kind : Kind) (chunks : Chunks) (up_to : ℕ → ℕ) : Type 0 where
  pub whole : chunks.counts.end ≡ chunks.counts.start + 1024
  pub rises : (byte : ℕ) → byte < 256 → bucket_start up_to byte ≤ up_to byte
  pub counted : chunks.ids.end ≡ chunks.ids.start + byte_len_of kind * up_to 255

-- the bytes are read as a multi-pack-index with this layout and these names of packs: the chunks are before the digest, and the fan-out table is whole, does not
-- fall and counts the ids
pub record IsReadAsMulti (kind : Kind) (bytes : List ℕ) (layout : Layout) (names : List ℕ) : Type 0 where
  pub chunks : Chunks
  pub has : HasChunks kind bytes (digest_at kind bytes) chunks
  pub laid_out : layout ≡ Multi chunks.counts.start chunks.ids.start
  pub fan_out : HasFanOut kind chunks (up_to_at layout bytes)
  pub named : names ≡ slice_range bytes chunks.names.start chunks.names.end
