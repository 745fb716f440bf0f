-- Lines of which the last are kept back, to be written together.
use Rattle.gix_hash.proofs.Std.{◌≡◌, ℕ, ◌+◌, ◌<◌, arith, Bool, true, Option, List, ◌++◌, take, drop, Result, Err, sym, ap, subst, ◌∙◌, append_assoc, take-append-drop, IsErr, flat_map, range_with_len, flat_map-append, get_or-range_with_len, length-range_with_len, Appends-trans}
use Rattle.object_store.proofs.Held.{flat_map-take}
use Rattle.streams.specs.Streams.{AppendsBeginning, Wrote}
use Rattle.streams.specs.declared.sink.WriteFailed.{WriteFailed}
use Rattle.streams.proofs.WritingLemmas.{Wrote-stop, Wrote-then}
use Rattle.packtool_commands.specs.Files.{KeepsBack}

-- another line after those that are kept, or after the last of them
pub keeps_more : (a b c : Option (List ℕ)) (kept last next lines line : List ℕ) → KeepsBack a b kept lines → KeepsBack b c last kept → next ≡ last ++ line
    → KeepsBack a c next (lines ++ line)
keeps_more a b c kept last next lines line before after is = record {
  written = before.written ++ after.written;
  all = ap (λ (l : List ℕ). l ++ line) (before.all ∙ ap (λ (l : List ℕ). before.written ++ l) after.all ∙ sym (append_assoc before.written after.written last))
      ∙ append_assoc (before.written ++ after.written) last line ∙ ap (λ (l : List ℕ). (before.written ++ after.written) ++ l) (sym is);
  appends = Appends-trans a b c before.written after.written before.appends after.appends;
}

-- where the lines that are kept are written, so are all
pub keeps_written : {S : Type 0} {taken : S → Option (List ℕ)} {has_failed : S → Bool} {a b c : S} (r : Result (Unit {0}) WriteFailed) (kept lines : List ℕ)
    → KeepsBack (taken a) (taken b) kept lines → Wrote taken has_failed b c r kept → Wrote taken has_failed a c r lines
keeps_written r kept lines before w = subst (Wrote _ _ _ _ r) (sym before.all) (Wrote-then r before.written kept before.appends w)

-- and where that stops, so does the write of all and more
pub keeps_stop : {S : Type 0} {taken : S → Option (List ℕ)} {has_failed : S → Bool} {a c : S} (b : S) (r : Result (Unit {0}) WriteFailed)
    (kept lines more : List ℕ) → IsErr r → KeepsBack (taken a) (taken b) kept lines → AppendsBeginning (taken b) (taken c) kept → has_failed c ≡ true
    → Wrote taken has_failed a c r (lines ++ more)
keeps_stop {S} {taken} {has_failed} {a} {c} b r kept lines more is before part failed =
    let stopped : Wrote taken has_failed b c (Err (record {})) kept = record { written = tt; not_failed = tt; part = part; failed = failed } in
    Wrote-stop r lines more is (keeps_written (Err (record {})) kept lines before stopped)

-- the lines of the first elements, and those of the rest
pub lines_split : {X : Type 0} (line : X → List ℕ) (xs : List X) (k : ℕ) → flat_map line xs ≡ flat_map line (take k xs) ++ flat_map line (drop k xs)
lines_split line xs k = ap (flat_map line) (sym (take-append-drop k xs)) ∙ flat_map-append line (take k xs) (drop k xs)

-- the line of one index more
pub lines_more : (line : ℕ → List ℕ) (n k : ℕ) → k < n → flat_map line (take (k + 1) (range_with_len 0 n)) ≡ flat_map line (take k (range_with_len 0 n)) ++ line k
lines_more line n k low =
    flat_map-take line (range_with_len 0 n) k 0 (omega (arith, low, length-range_with_len 0 n))
    ∙ ap (λ i. flat_map line (take k (range_with_len 0 n)) ++ line i) (get_or-range_with_len 0 n k 0 low ∙ omega arith)
