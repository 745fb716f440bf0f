-- Writing a list of bytes chunk by chunk.
use Rattle.gix_hash.proofs.Std.{nat_tests, Bool, false, ◌||◌, Ok, ◌≡◌, ◌≢◌, ℕ, ◌+◌, ◌-◌, ◌<◌, Option, Some, None, List, [], ◌++◌, length, take, drop, sym, ap, ◌∙◌, subst, arith, take-append-drop, append-nil, take-add, length-drop, take_rest, Appends-trans, Appends, Keeps}
use Rattle.streams.specs.Streams.{AppendsBeginning, write_fails}
use Rattle.streams.proofs.WritingLemmas.{Appends-kept}

-- the bytes before an index, and then the first ones from there on
pub take-chunk : (at n : ℕ) (bytes : List ℕ) → take at bytes ++ take n (take (length bytes - at) (drop at bytes)) ≡ take (at + n) bytes
take-chunk at n bytes = rw (take_rest bytes at) (sym (take-add at n bytes))

-- what was taken, and then the first bytes of the chunk after it
pub Appends-chunk : (a b c : Option (List ℕ)) (at n : ℕ) (bytes : List ℕ) → Appends a b (take at bytes)
    → Appends b c (take n (take (length bytes - at) (drop at bytes))) → Appends a c (take (at + n) bytes)
Appends-chunk a b c at n bytes first second =
    subst (Appends a c) (take-chunk at n bytes) (Appends-trans a b c _ _ first second)

-- the bytes before an index of the list are a proper beginning of it
pub AppendsBeginning-take : (a b c : Option (List ℕ)) (at : ℕ) (bytes : List ℕ) → at < length bytes → Appends a b (take at bytes) → Keeps b c
    → AppendsBeginning a c bytes
AppendsBeginning-take a b c at bytes short taken kept = record {
  part = take at bytes;
  rest = drop at bytes;
  is_beginning = sym (take-append-drop at bytes);
  is_proper = λ e. absurd (omega (arith, length-drop at bytes, ap length e));
  appends = Appends-kept a b c (take at bytes) taken kept;
}

-- what grew by nothing is kept
Keeps-nil : (a b : Option (List ℕ)) → Appends a b [] → Keeps a b
Keeps-nil None b p = tt
Keeps-nil (Some x) None p = absurd p
Keeps-nil (Some x) (Some y) p = p ∙ append-nil x

-- the same, if the last write took none of the chunk
pub AppendsBeginning-none : (a b c : Option (List ℕ)) (at n : ℕ) (bytes : List ℕ) → n ≡ 0 → at < length bytes → Appends a b (take at bytes)
    → Appends b c (take n (take (length bytes - at) (drop at bytes))) → AppendsBeginning a c bytes
AppendsBeginning-none a b c at n bytes none short taken last =
    AppendsBeginning-take a b c at bytes short taken (Keeps-nil b c (rw none at last))

-- a write that took at least one byte did not fail
pub not_failed : (n : ℕ) (old new : Bool) (chunk : List ℕ) → n ≢ 0 → old ≡ false → new ≡ (old || write_fails {E = Unit {0}} (Ok n) chunk) → new ≡ false
not_failed n old new chunk some stood is = grind (arith, nat_tests)
