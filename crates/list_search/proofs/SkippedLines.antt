-- What a search does with a chunk, step by step: lines that are skipped, and lines that are read.
use Rattle.gix_hash.proofs.Std.{◌-◌, ◌/◌, Bool, true, false, nat_eq, IsTrue, take-append-drop, ◌≡◌, ◌≢◌, ℕ, zero, suc, ◌+◌, ◌*◌, ◌<◌, ◌≤◌, List, [], ◌∷◌, ◌++◌, map, length, take, drop, refl, sym, ap, subst, ◌∙◌, arith, append_assoc, append-nil, take-add, length-append, length-take, length-drop, suc-mul, nat_tests, length-take-le, map-append, take_all, take_more, first_chunks}
use Rattle.id_lookup.specs.Words.{ObjectId, id_digits}
use Rattle.id_digits.specs.Letters.{is_line_len}
use Rattle.list_search.specs.Lists.{IsListRefusal, ended}
use Rattle.list_search.specs.SearchStates.{AreLinesOf, HasFound, HasSearched, HasSkipped, HasTaken, IsRefusedIn, Searches, Takes}
use Rattle.list_search.specs.declared.error.SearchError.{SearchError}
use Rattle.list_search.specs.declared.error.SearchError.TheVariants.{Memory}
use Rattle.list_search.specs.declared.finder.Finder.{Finder}
use Rattle.list_search.specs.declared.list_reader.ListReader.{ListReader}
use Rattle.list_search.specs.declared.search.Search.{Search}
use Rattle.list_search.proofs.ChunkLemmas.{first_of_taken, some_after, whole_taken}

pub lines_counted : (n : ℕ) (lines : List (List ℕ)) (ids : List ObjectId) → AreLinesOf n lines ids → length ids ≡ length lines
lines_counted n [] [] h = refl
lines_counted n [] (id ∷ ids) h = absurd h
lines_counted n (line ∷ lines) [] h = absurd h
lines_counted n (line ∷ lines) (id ∷ ids) h = ap suc (lines_counted n lines ids h.1)

length-first_chunks : (size k : ℕ) (chunk : List ℕ) → length (first_chunks size k chunk) ≡ k
length-first_chunks size zero chunk = refl
length-first_chunks size (suc k) chunk = ap suc (length-first_chunks size k (drop size chunk))

-- the lines of a length that a chunk has room for
pub record HasRoom (size k n : ℕ) : Type 0 where
  pub some : 0 < size
  pub within : k * size ≤ n
  pub fewer : k ≤ k * size

pub whole_lines : (size n : ℕ) → IsTrue (is_line_len size) → HasRoom size (n / size) n
whole_lines size n is = by (nat_eq size 41) refl
  where
    by : (b : Bool) → nat_eq size 41 ≡ b → HasRoom size (n / size) n
    by true short = let same : size ≡ 41 = grind (arith, nat_tests, short) in rw same record { some = omega arith; within = omega arith; fewer = omega arith }
    by false long = let same : size ≡ 65 = grind (arith, nat_tests, is, long) in rw same record { some = omega arith; within = omega arith; fewer = omega arith }

-- whole lines are taken as their ids, if no line has begun
lines_taken : (size k : ℕ) (chunk : List ℕ) (ids more : List ObjectId) (kept : List ℕ) (len : ℕ) (text : List ℕ) → 0 < size → k * size ≤ length chunk → len ≡ 0
    → AreLinesOf (size - 1) (first_chunks size k chunk) more → HasTaken ids kept len text → HasTaken (ids ++ more) kept len (text ++ take (k * size) chunk)
lines_taken size zero chunk ids [] kept len text some room empty lines h =
    let none : 0 * size ≡ 0 = omega arith in
    rw (append-nil ids, none, append-nil text) h
lines_taken size zero chunk ids (id ∷ more) kept len text some room empty lines h = absurd lines
lines_taken size (suc k) chunk ids [] kept len text some room empty lines h = absurd lines
lines_taken size (suc k) chunk ids (id ∷ more) kept len text some room empty lines h =
    let parts : suc k * size ≡ size + k * size = omega (arith, suc-mul k size) in
    let fits : size + k * size ≤ length chunk = rw parts at room in
    let line = take size chunk in
    let long : length line ≡ size = length-take-le size chunk (omega (arith, fits)) in
    let is_ended : line ≡ ended (take (size - 1) line) =
    sym (take_all (size - 1 + 1) line (omega (arith, long))) ∙ take_more line (size - 1) 0 (omega (arith, long)) ∙ ap (λ b. take (size - 1) line ++ b ∷ []) lines.0.feed in
    let first : HasTaken (ids ++ id ∷ []) kept len (text ++ line) =
    subst (λ l. HasTaken (ids ++ id ∷ []) kept len (text ++ l)) (sym is_ended) (whole_taken ids _ kept kept len text (take (size - 1) line) id empty lines.0.reads h refl) in
    let rest = lines_taken size k (drop size chunk) (ids ++ id ∷ []) more kept len (text ++ line) some (omega (arith, fits, length-drop size chunk)) empty lines.1 first in
    rw (parts, take-add size (k * size) chunk, ← append_assoc text line (take (k * size) (drop size chunk)), ← append_assoc ids (id ∷ []) more) rest

module _ {A : Type 0} (search : Search) (digits : List ℕ) where
  -- lines that are skipped
  pub skipped : (size : ℕ) (reader reader' : ListReader A) (finder finder' : Finder A) (chunk : List ℕ) (k bytes : ℕ)
      → HasSkipped search digits (size - 1) (first_chunks size k chunk) finder finder' → HasRoom size k (length chunk) → bytes ≡ k * size
      → reader.len ≡ 0 → reader.ids.items ≡ [] → finder.count ≡ reader.dropped
      → reader'.dropped ≡ reader.dropped + k → reader'.ids ≡ reader.ids → reader'.line ≡ reader.line → reader'.len ≡ reader.len
      → Searches search digits reader reader' finder finder' (take bytes chunk)
  skipped size reader reader' finder finder' chunk k bytes h room are between none count dropped ids line len =
      let many : length h.ids ≡ k = lines_counted (size - 1) _ h.ids h.each ∙ length-first_chunks size k chunk in
      let same : reader'.ids.items ≡ [] = ap (λ v. v.items) ids ∙ none in
      record {
        onward = λ text s.
            let before : HasTaken s.earlier reader.line reader.len text = rw (none, append-nil s.earlier) at s.taken in
            let after = lines_taken size k chunk s.earlier h.ids reader.line reader.len text room.some room.within between h.each before in
            record {
              earlier = s.earlier ++ h.ids;
              dropped = omega (arith, length-append s.earlier h.ids, s.dropped, dropped, many);
              found = subst (λ all. HasFound search digits all finder') (sym (map-append id_digits s.earlier h.ids)) (h.found (map id_digits s.earlier) s.found);
              taken = rw (same, append-nil (s.earlier ++ h.ids), line, len, are) after;
            };
        empty = same;
        count = omega (arith, h.counted, many, count, dropped);
        short = omega (arith, dropped, len, are, room.fewer, length-take bytes chunk, room.within);
      }

  -- none are
  pub none_skipped : (reader : ListReader A) (finder : Finder A) (chunk : List ℕ) → reader.ids.items ≡ [] → finder.count ≡ reader.dropped
      → Searches search digits reader reader finder finder (take 0 chunk)
  none_skipped reader finder chunk none count = record {
    onward = λ text s. rw (append-nil text) s;
    empty = none;
    count = count;
    short = omega arith;
  }

  -- one step after another
  pub searches_more : (reader reader' reader'' : ListReader A) (finder finder' finder'' : Finder A) (a b c : List ℕ) → Searches search digits reader reader' finder finder' a
      → Searches search digits reader' reader'' finder' finder'' b → a ++ b ≡ c → Searches search digits reader reader'' finder finder'' c
  searches_more reader reader' reader'' finder finder' finder'' a b c first second is = record {
    onward = λ text s.
        subst (HasSearched search digits reader'' finder'') (append_assoc text a b ∙ ap (λ l. text ++ l) is) (second.onward (text ++ a) (first.onward text s));
    empty = second.empty;
    count = second.count;
    short = omega (arith, first.short, second.short, ap length is, length-append a b);
  }

  -- as far as an index of a chunk, and from there on
  pub searches_on : (reader reader' reader'' : ListReader A) (finder finder' finder'' : Finder A) (chunk : List ℕ) (end n : ℕ)
      → Searches search digits reader reader' finder finder' (take end chunk)
      → Searches search digits reader' reader'' finder' finder'' (take n (take (length chunk - end) (drop end chunk)))
      → Searches search digits reader reader'' finder finder'' (take (end + n) chunk)
  searches_on reader reader' reader'' finder finder' finder'' chunk end n first second =
      let rest : take (length chunk - end) (drop end chunk) ≡ drop end chunk = take_all (length chunk - end) (drop end chunk) (omega (arith, length-drop end chunk)) in
      searches_more reader reader' reader'' finder finder' finder'' _ _ _ first second (ap (λ l. take end chunk ++ take n l) rest ∙ sym (take-add end n chunk))

  -- bytes that are refused after others
  pub refused_after : (reader reader' : ListReader A) (finder finder' : Finder A) (a b c all : List ℕ) (error : SearchError) → Searches search digits reader reader' finder finder' a
      → IsRefusedIn search digits reader' finder' b error → a ++ (b ++ c) ≡ all → IsRefusedIn search digits reader finder all error
  refused_after reader reader' finder finder' a b c all error first refused is = λ text more s.
      subst (λ l. IsListRefusal l error)
      (append_assoc text a (b ++ (c ++ more)) ∙ ap (λ l. text ++ l) (ap (λ l. a ++ l) (sym (append_assoc b c more)) ∙ sym (append_assoc a (b ++ c) more) ∙ ap (λ l. l ++ more) is))
      (refused (text ++ a) (c ++ more) (first.onward text s))

  -- lines that are read, and looked up
  pub read_searches : (reader reader' reader'' : ListReader A) (finder finder' : Finder A) (chunk : List ℕ) (part : List ObjectId) → Takes reader reader' chunk
      → reader.ids.items ≡ [] → finder.count ≡ reader.dropped → part ≡ reader'.ids.items
      → ((ids : List (List ℕ)) → HasFound search digits ids finder → HasFound search digits (ids ++ map id_digits part) finder') → finder'.count ≡ finder.count + length part
      → reader''.ids.items ≡ [] → reader''.dropped ≡ reader'.dropped + length reader'.ids.items → reader''.line ≡ reader'.line → reader''.len ≡ reader'.len
      → Searches search digits reader reader'' finder finder' chunk
  read_searches reader reader' reader'' finder finder' chunk part takes none count same known counted empty dropped line len = record {
    onward = λ text s. record {
      earlier = s.earlier ++ part;
      dropped = omega (arith, length-append s.earlier part, s.dropped, dropped, takes.dropped, ap length same);
      found = subst (λ all. HasFound search digits all finder') (sym (map-append id_digits s.earlier part)) (known (map id_digits s.earlier) s.found);
      taken = rw (empty, append-nil (s.earlier ++ part), line, len, same) (takes.taken s.earlier text s.taken);
    };
    empty = empty;
    count = omega (arith, counted, count, dropped, takes.dropped, ap length same);
    short = omega (arith, takes.short, takes.dropped, dropped, len, ap length none);
  }

  -- memory ran out after ids
  pub refused_memory : (reader reader' : ListReader A) (finder : Finder A) (chunk : List ℕ) (error : SearchError) → Takes reader reader' chunk → error ≡ Memory
      → reader'.ids.items ≢ [] → IsRefusedIn search digits reader finder chunk error
  refused_memory reader reader' finder chunk error takes is some = λ text more s.
      rw (is, ← append_assoc text chunk more)
      (first_of_taken _ reader'.line reader'.len (text ++ chunk) (takes.taken s.earlier text s.taken) more (some_after s.earlier reader'.ids.items some))

pub two_parts : (chunk : List ℕ) (end : ℕ) → take end chunk ++ take (length chunk - end) (drop end chunk) ≡ chunk
two_parts chunk end =
    let rest : take (length chunk - end) (drop end chunk) ≡ drop end chunk = take_all (length chunk - end) (drop end chunk) (omega (arith, length-drop end chunk)) in
    rw rest (take-append-drop end chunk)
