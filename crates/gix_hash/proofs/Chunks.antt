-- How the chunks of n bytes follow one another.
use Rattle.id_digits.proofs.Std.{◌≡◌, ℕ, zero, suc, ◌+◌, ◌-◌, ◌*◌, ◌/◌, ◌%◌, ◌<◌, ◌≤◌, min, [], ◌∷◌, ◌++◌, length, take, replicate, get_or, refl, arith, length-append, length-replicate, take_more, common_steps}
use Rattle.gix_hash.specs.Hashing.{chunks, last_chunk}

length-last_chunk : (r : ℕ) → length (last_chunk r) ≡ min r 1
unfolding last_chunk
length-last_chunk zero = refl
length-last_chunk (suc r) = omega arith

length-chunks : (n : ℕ) → length (chunks n) ≡ n / 65535 + min (n % 65535) 1
unfolding chunks
length-chunks n = rw (length-append, length-replicate, length-last_chunk)

-- if bytes are left, a chunk of them is left
pub chunk_is_there : (n j : ℕ) → 65535 * j < n → j < length (chunks n)
chunk_is_there n j left = rw length-chunks (omega arith)

-- if no bytes are left, no chunk is
pub chunks_end : (n j : ℕ) → n ≤ 65535 * j → length (chunks n) ≤ j
chunks_end n j none = rw length-chunks (omega arith)

chunk_at : (q r j : ℕ) → j < q + min r 1 → r < 65535
    → get_or (replicate q 65535 ++ last_chunk r) j 0 ≡ min (65535 * q + r - 65535 * j) 65535
unfolding last_chunk
chunk_at q zero j there small = grind (arith, common_steps)
chunk_at q (suc r) j there small = grind (arith, common_steps)

-- the chunk after the first j is what is left, or 65535 bytes of it
pub take-chunks : (n j : ℕ) → 65535 * j < n
    → take (j + 1) (chunks n) ≡ take j (chunks n) ++ min (n - 65535 * j) 65535 ∷ []
unfolding chunks
take-chunks n j left =
    let whole : 65535 * (n / 65535) + n % 65535 ≡ n = omega arith in
    rw (take_more (chunks n) j 0 (chunk_is_there n j left), chunk_at (n / 65535) (n % 65535) j (omega arith) (omega arith), whole)
