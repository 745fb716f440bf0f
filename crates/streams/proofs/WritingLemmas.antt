-- What was taken, after one write and another.
use Rattle.gix_hash.proofs.Std.{Appends, Keeps, ◌≡◌, Bool, Option, Some, None, ℕ, ◌+◌, ◌<◌, List, [], ◌∷◌, ◌++◌, length, get_or, take, drop, Result, Ok, Err, IsErr, OnErr, flat_map, refl, sym, ap, subst, ◌∙◌, append_assoc, take-append-drop, Appends-trans, drop_more, flat_map-append}
use Rattle.streams.specs.Streams.{AppendsBeginning, AppendsAtMost, Wrote}
use Rattle.streams.specs.declared.sink.WriteFailed.{WriteFailed}

-- what is kept has grown by nothing
pub Appends-kept : (a b c : Option (List ℕ)) (bytes : List ℕ) → Appends a b bytes → Keeps b c → Appends a c bytes
Appends-kept None b c bytes p q = tt
Appends-kept (Some x) None c bytes p q = absurd p
Appends-kept (Some x) (Some y) None bytes p q = absurd q
Appends-kept (Some x) (Some y) (Some z) bytes p q = q ∙ p

-- a proper beginning of the bytes is a beginning of them, or all
pub part_written : (a b : Option (List ℕ)) (bytes : List ℕ) → AppendsBeginning a b bytes → AppendsAtMost a b bytes
part_written a b bytes p = record { part = p.part; rest = p.rest; is_beginning = p.is_beginning; written = p.appends }

-- a part of a chunk, after what was taken before, is a part of both
pub AppendsBeginning-after : (a b c : Option (List ℕ)) (taken chunk : List ℕ) → Appends a b taken → AppendsBeginning b c chunk → AppendsBeginning a c (taken ++ chunk)
AppendsBeginning-after a b c taken chunk before last = record {
  part = taken ++ last.part;
  rest = last.rest;
  is_beginning = ap (λ (all : List ℕ). taken ++ all) last.is_beginning ∙ sym (append_assoc taken last.part last.rest);
  is_proper = last.is_proper;
  appends = Appends-trans a b c taken last.part before last.appends;
}

-- a part of a message is a part of it and more
pub AppendsBeginning-more : (a b : Option (List ℕ)) (message more : List ℕ) → AppendsBeginning a b message → AppendsBeginning a b (message ++ more)
AppendsBeginning-more a b message more p = record {
  part = p.part;
  rest = p.rest ++ more;
  is_beginning = ap (λ (all : List ℕ). all ++ more) p.is_beginning ∙ append_assoc p.part p.rest more;
  is_proper = λ none. p.is_proper (nil-front p.rest more none);
  appends = p.appends;
}
  where
    nil-front : (xs ys : List ℕ) → xs ++ ys ≡ [] → xs ≡ []
    nil-front [] ys e = refl
    nil-front (x ∷ xs) ys e = cc

-- a fact holds where there is an error, if it holds
pub OnErr-of : {T E : Type 0} (r : Result T E) (P : Type 0) → P → OnErr r P
OnErr-of (Ok x) P p = tt
OnErr-of (Err e) P p = p

-- where the first of two writes stops, so do both
pub Wrote-stop : {S : Type 0} {taken : S → Option (List ℕ)} {has_failed : S → Bool} {a b : S} {e : WriteFailed} (r : Result (Unit {0}) WriteFailed)
    (first more : List ℕ) → IsErr r → Wrote taken has_failed a b (Err e) first → Wrote taken has_failed a b r (first ++ more)
Wrote-stop (Ok x) first more is w = cc
Wrote-stop (Err e) first more is w = record { written = tt; not_failed = tt; part = AppendsBeginning-more _ _ first more w.part; failed = w.failed }

-- where it does not, the second says how both end
pub Wrote-then : {S : Type 0} {taken : S → Option (List ℕ)} {has_failed : S → Bool} {a b c : S} (r : Result (Unit {0}) WriteFailed) (first more : List ℕ)
    → Appends (taken a) (taken b) first → Wrote taken has_failed b c r more → Wrote taken has_failed a c r (first ++ more)
Wrote-then (Ok x) first more before w = record { written = Appends-trans _ _ _ first more before w.written; not_failed = w.not_failed; part = tt; failed = tt }
Wrote-then (Err e) first more before w = record { written = tt; not_failed = tt; part = AppendsBeginning-after _ _ _ first more before w.part; failed = w.failed }

-- the lines before one, that line, and those after it
pub lines_around : {X : Type 0} (line : X → List ℕ) (xs : List X) (k : ℕ) (d : X) → k < length xs
    → flat_map line xs ≡ flat_map line (take k xs) ++ (line (get_or xs k d) ++ flat_map line (drop (k + 1) xs))
lines_around {X} line xs k d within =
    let parts : xs ≡ take k xs ++ get_or xs k d ∷ drop (k + 1) xs =
    sym (take-append-drop k xs) ∙ ap (λ (rest : List X). take k xs ++ rest) (drop_more xs k d within) in
    ap (flat_map line) parts ∙ flat_map-append line (take k xs) (get_or xs k d ∷ drop (k + 1) xs)

-- where the write of a line stops, after the lines before it, so does that of all lines
pub Wrote-line : {S X : Type 0} {taken : S → Option (List ℕ)} {has_failed : S → Bool} {a b c : S} {e : WriteFailed} (r : Result (Unit {0}) WriteFailed)
    (line : X → List ℕ) (xs : List X) (k : ℕ) (d : X) → k < length xs → IsErr r → Appends (taken a) (taken b) (flat_map line (take k xs))
    → Wrote taken has_failed b c (Err e) (line (get_or xs k d)) → Wrote taken has_failed a c r (flat_map line xs)
Wrote-line r line xs k d within is before w =
    subst (Wrote _ _ _ _ _) (sym (lines_around line xs k d within))
    (Wrote-then r (flat_map line (take k xs)) (line (get_or xs k d) ++ flat_map line (drop (k + 1) xs)) before
    (Wrote-stop r (line (get_or xs k d)) (flat_map line (drop (k + 1) xs)) is w))
