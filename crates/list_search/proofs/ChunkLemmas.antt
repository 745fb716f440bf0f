-- What a list reader has taken, line by line.
use Rattle.gix_hash.proofs.Std.{◌≡◌, ◌≢◌, ℕ, ◌+◌, ◌-◌, ◌<◌, ◌≤◌, false, Option, Some, None, List, [], ◌∷◌, ◌++◌, length, take, drop, map, get_or, set, refl, arith, sym, ap, ◌∙◌, subst, append_assoc, append-nil, drop-cons, length-drop, get_or-drop, take-add, Result, Ok, Err, All, IsOk, flat_map, nat_tests, nil_from_length, length-map, map-append, length-append, take_more_set, take_more, take_all, take-append-le, drop-drop, All-append, All-push, All-head, All-tail, All-nil, All-cons, flat_map-append, AllZip, slice_range}
use Rattle.std.specs.Result.{result_ok}
use Rattle.id_lookup.specs.Words.{IsLetterOf, Kind, KindDigits, ObjectId, ReadsAs, digits_read, full_read, hex_letter, id_digits, id_kind, kind_of_full_len, reading_of, whole_of}
use Rattle.gix_hash.specs.declared.decode.Error.{Error}
use Rattle.gix_hash.specs.declared.decode.Error.TheVariants.{InvalidHexEncodingLength, Invalid}
use Rattle.streams.specs.Streams.{is_line_feed, lines_of}
use Rattle.list_search.specs.Lists.{IsFirstRead, IsLine, IsLineOf, IsListRefusal, NoBadLineEnded, ended, ids_read, list_read}
use Rattle.list_search.specs.SearchStates.{HasIdLine, HasTaken, Takes}
use Rattle.list_search.specs.declared.error.SearchError.{SearchError}
use Rattle.list_search.specs.declared.list_reader.ListReader.{ListReader}
use Rattle.list_search.specs.declared.error.SearchError.TheVariants.{BadLine, Memory}
use Rattle.streams.proofs.LineLemmas.{lines_of-ended, lines_of-last, lines_of-nil}
use Rattle.id_digits.proofs.ReadingFacts.{ReadsAs-digits_read}
use Rattle.list_search.proofs.Results.{LinesHold, ids_read-bad, ids_read-means, ids_read-of}

-- whole lines, and then more
lines_of-lines : (lines : List (List ℕ)) (more : List ℕ) → All IsLine lines → lines_of (flat_map ended lines ++ more) ≡ lines ++ lines_of more
lines_of-lines [] more each = refl
lines_of-lines (line ∷ lines) more each =
    ap lines_of (append_assoc (line ++ 10 ∷ []) (flat_map ended lines) more ∙ append_assoc line (10 ∷ []) (flat_map ended lines ++ more))
    ∙ lines_of-ended line (flat_map ended lines ++ more) (All-head IsLine line lines each)
    ∙ ap (λ r. line ∷ r) (lines_of-lines lines more (All-tail IsLine line lines each))

-- each line reads as the id at its index
abbrev ReadAs : List (List ℕ) → List ObjectId → Type 0
ReadAs lines ids = map (full_read hex_letter) lines ≡ map (λ id. Ok (whole_of id)) ids

-- so each line is one of the id's digits
are_ids : (lines : List (List ℕ)) (ids : List ObjectId) → ReadAs lines ids → AllZip IsLineOf lines (map id_digits ids)
are_ids [] [] reads = tt
are_ids [] (id ∷ ids) reads = cc reads
are_ids (line ∷ lines) [] reads = cc reads
are_ids (line ∷ lines) (id ∷ ids) reads = ((id_kind id, cc reads), are_ids lines ids (cc reads))

-- the first line reads, if a line was read as an id, or else if the first of the rest does
first_read : (lines : List (List ℕ)) (ids : List ObjectId) (rest : List (List ℕ)) → ReadAs lines ids → (ids ≡ [] → IsFirstRead rest) → IsFirstRead (lines ++ rest)
first_read [] [] rest reads after = after refl
first_read [] (id ∷ ids) rest reads after = cc reads
first_read (line ∷ lines) [] rest reads after = cc reads
first_read (line ∷ lines) (id ∷ ids) rest reads after = let first : full_read hex_letter line ≡ Ok (whole_of id) = cc reads in rw first refl

-- each of the lines reads
all_read : (lines : List (List ℕ)) (ids : List ObjectId) → ReadAs lines ids → All (λ line. IsOk (full_read hex_letter line)) lines
all_read [] ids reads = All-nil (λ line. IsOk (full_read hex_letter line))
all_read (line ∷ lines) [] reads = cc reads
all_read (line ∷ lines) (id ∷ ids) reads =
    let first : full_read hex_letter line ≡ Ok (whole_of id) = cc reads in
    let others : ReadAs lines ids = cc reads in
    All-cons (λ l. IsOk (full_read hex_letter l)) line lines (rw first refl) (all_read lines ids others)

-- what was taken, of a reader with these parts
module _ (ids : List ObjectId) (kept : List ℕ) (len : ℕ) (text : List ℕ) (h : HasTaken ids kept len text) where
  -- the lines of what was taken and of more, where the line that did not end goes on or ends
  lines_of-more : (more : List ℕ) → lines_of (text ++ more) ≡ h.lines ++ lines_of (h.last ++ more)
  lines_of-more more =
      ap (λ t. lines_of (t ++ more)) h.text_is ∙ ap lines_of (append_assoc (flat_map ended h.lines) h.last more)
      ∙ lines_of-lines h.lines (h.last ++ more) h.each_a_line

  lines_of-taken : (more : List ℕ) → lines_of (text ++ 10 ∷ more) ≡ h.lines ++ h.last ∷ lines_of more
  lines_of-taken more = lines_of-more (10 ∷ more) ∙ ap (λ r. h.lines ++ r) (lines_of-ended h.last more h.not_ended)

  -- no bad line ended in it
  pub no_bad_line : NoBadLineEnded text
  no_bad_line = record {
    lines = h.lines;
    last = h.last;
    text_is = h.text_is;
    read = all_read h.lines ids h.read;
    not_ended = h.not_ended;
  }

  -- the line that did not end reads as no id
  pub refused_line : (more : List ℕ) (error : Error) (n : ℕ) → Err error ≡ full_read hex_letter h.last → n ≡ length ids + 1 → list_read (text ++ 10 ∷ more) ≡ Err (BadLine n error)
  refused_line more error n refused count =
      let number : 1 + length h.lines ≡ n = omega (arith, count, ap length h.read, length-map h.lines (full_read hex_letter), length-map {B = Result KindDigits Error} ids (λ id. Ok (whole_of id))) in
      ap (ids_read 1) (lines_of-taken more) ∙ ids_read-bad 1 h.lines h.last (lines_of more) error (all_read h.lines ids h.read) (sym refused)
      ∙ ap (λ k. Err (BadLine k error)) number

  -- it reads, and so does the first line
  pub first_read-taken : (more : List ℕ) → IsOk (full_read hex_letter h.last) → IsFirstRead (lines_of (text ++ 10 ∷ more))
  first_read-taken more read = rw (lines_of-taken more) (first_read h.lines ids (h.last ∷ lines_of more) h.read (λ none. read))

  -- or an id was taken
  pub first_of_taken : (more : List ℕ) → ids ≢ [] → IsFirstRead (lines_of (text ++ more))
  first_of_taken more some = rw (lines_of-more more) (first_read h.lines ids (lines_of (h.last ++ more)) h.read (λ none. absurd (some none)))

  -- the line that did not end goes on, reads as an id, and is ended
  pub ended_taken : (rest : List ℕ) (new_ids : List ObjectId) (new_kept : List ℕ) (new_len : ℕ) (id : ObjectId) → IsLine rest
      → full_read hex_letter (h.last ++ rest) ≡ Ok (whole_of id) → new_ids ≡ ids ++ id ∷ [] → new_len ≡ 0 → HasTaken new_ids new_kept new_len (text ++ ended rest)
  ended_taken rest new_ids new_kept new_len id is_line reads pushed empty = record {
    lines = h.lines ++ (h.last ++ rest) ∷ [];
    last = [];
    text_is =
        ap (λ t. t ++ ended rest) h.text_is ∙ append_assoc (flat_map ended h.lines) h.last (ended rest)
        ∙ ap (λ r. flat_map ended h.lines ++ r) (sym (append_assoc h.last rest (10 ∷ [])) ∙ sym (append-nil (ended (h.last ++ rest))))
        ∙ sym (flat_map-append ended h.lines ((h.last ++ rest) ∷ []))
        ∙ sym (append-nil (flat_map ended (h.lines ++ (h.last ++ rest) ∷ [])));
    each_a_line = All-push IsLine h.lines (h.last ++ rest) h.each_a_line (All-append (λ b. is_line_feed b ≡ false) h.last rest h.not_ended is_line);
    not_ended = All-nil (λ b. is_line_feed b ≡ false);
    read =
        map-append (full_read hex_letter) h.lines ((h.last ++ rest) ∷ []) ∙ ap (λ r. r ++ full_read hex_letter (h.last ++ rest) ∷ []) h.read
        ∙ ap (λ r. map (λ i. Ok (whole_of i)) ids ++ r ∷ []) reads
        ∙ sym (map-append (λ i. Ok (whole_of i)) ids (id ∷ [])) ∙ ap (map (λ i. Ok (whole_of i))) (sym pushed);
    last_len = empty;
    last_kept = rw empty refl;
  }

  -- it is longer by a byte
  pub longer_taken : (new_kept : List ℕ) (b : ℕ) → is_line_feed b ≡ false → take 64 (h.last ++ b ∷ []) ≡ take (len + 1) new_kept
      → HasTaken ids new_kept (len + 1) (text ++ b ∷ [])
  longer_taken new_kept b plain kept_more = record {
    lines = h.lines;
    last = h.last ++ b ∷ [];
    text_is = ap (λ t. t ++ b ∷ []) h.text_is ∙ append_assoc (flat_map ended h.lines) h.last (b ∷ []);
    each_a_line = h.each_a_line;
    not_ended = All-push (λ c. is_line_feed c ≡ false) h.last b h.not_ended plain;
    read = h.read;
    last_len = omega (arith, h.last_len, length-append h.last (b ∷ []));
    last_kept = kept_more;
  }

  -- no line is begun: the text is a list
  pub list_taken : len ≡ 0 → list_read text ≡ Ok (map id_digits ids)
  list_taken empty =
      let none : h.last ≡ [] = nil_from_length h.last (omega (arith, h.last_len)) in
      ap (λ t. ids_read 1 (lines_of t)) (h.text_is ∙ ap (λ r. flat_map ended h.lines ++ r) none)
      ∙ ap (ids_read 1) (lines_of-lines h.lines [] h.each_a_line ∙ ap (λ r. h.lines ++ r) lines_of-nil ∙ append-nil h.lines)
      ∙ ids_read-of 1 h.lines (map id_digits ids) (are_ids h.lines ids h.read)

  -- a line that is not empty reads alike with its line feed and without
  pub lines_of-unended : 0 < len → lines_of (text ++ 10 ∷ []) ≡ lines_of text
  lines_of-unended some =
      lines_of-taken []
      ∙ ap (λ r. h.lines ++ h.last ∷ r) lines_of-nil
      ∙ ap (λ r. h.lines ++ r) (sym (lines_of-last h.last (omega (arith, h.last_len)) h.not_ended))
      ∙ sym (lines_of-lines h.lines h.last h.each_a_line) ∙ ap lines_of (sym h.text_is)

pub some_after : (earlier part : List ObjectId) → part ≢ [] → earlier ++ part ≢ []
some_after [] part some = some
some_after (id ∷ earlier) part some = λ none. cc none

-- the first line of a list of at least one id reads
pub first_of_list : (text : List ℕ) (ids : List ObjectId) → list_read text ≡ Ok (map id_digits ids) → ids ≢ [] → IsFirstRead (lines_of text)
first_of_list text ids reads some = by_lines (lines_of text) ids (subst (LinesHold 1 (lines_of text)) reads (ids_read-means 1 (lines_of text))) some
  where
    by_lines : (lines : List (List ℕ)) (ids : List ObjectId) → AllZip IsLineOf lines (map id_digits ids) → ids ≢ [] → IsFirstRead lines
    by_lines lines [] each some = absurd (some refl)
    by_lines [] (id ∷ ids) each some = absurd each
    by_lines (line ∷ lines) (id ∷ ids) each some = rw each.0.1 refl

-- texts of the same lines are rejected for the same errors
pub refuses_same : (a b : List ℕ) (e : SearchError) → lines_of a ≡ lines_of b → IsListRefusal a e → IsListRefusal b e
refuses_same a b (BadLine n error) same h = ap (ids_read 1) (sym same) ∙ h
refuses_same a b Memory same h = subst IsFirstRead same h
refuses_same a b error same h = absurd h

-- one step of a reader after another
pub takes_more : {A : Type 0} (old mid new : ListReader A) (x y z : List ℕ) → Takes old mid x → Takes mid new y → x ++ y ≡ z → Takes old new z
takes_more old mid new x y z first second is = record {
  taken = λ earlier text h.
      subst (HasTaken (earlier ++ new.ids.items) new.line new.len) (append_assoc text x y ∙ ap (λ l. text ++ l) is)
      (second.taken earlier (text ++ x) (first.taken earlier text h));
  dropped = second.dropped ∙ first.dropped;
  short = omega (arith, first.short, second.short, ap length is, length-append x y);
}

-- a range of a chunk, in two parts
pub range_parts : (chunk : List ℕ) (start mid end : ℕ) → start ≤ mid → mid ≤ end → slice_range chunk start mid ++ slice_range chunk mid end ≡ slice_range chunk start end
range_parts chunk start mid end low high =
    let whole : mid - start + (end - mid) ≡ end - start = omega arith in
    let there : start + (mid - start) ≡ mid = omega arith in
    sym (ap (λ n. take n (drop start chunk)) (sym whole) ∙ take-add (mid - start) (end - mid) (drop start chunk)
    ∙ ap (λ l. take (mid - start) (drop start chunk) ++ take (end - mid) l) (drop-drop (mid - start) start chunk ∙ ap (λ n. drop n chunk) there))

pub take_range : (chunk : List ℕ) (at next : ℕ) → at ≤ next → take at chunk ++ slice_range chunk at next ≡ take next chunk
take_range chunk at next low =
    let whole : at + (next - at) ≡ next = omega arith in sym (ap (λ n. take n chunk) (sym whole) ∙ take-add at (next - at) chunk)

-- a range of no byte, and of one
pub range_none : (chunk : List ℕ) (at : ℕ) → slice_range chunk at at ≡ []
range_none chunk at = let none : at - at ≡ 0 = omega arith in rw none refl

pub range_one : (chunk : List ℕ) (at : ℕ) → at < length chunk → slice_range chunk at (at + 1) ≡ get_or chunk at 0 ∷ []
range_one chunk at within = let one : at + 1 - at ≡ 1 = omega arith in rw (one, drop-cons chunk at 0 within) refl

-- a line that is kept whole
pub short_line : (line : List ℕ) (len : ℕ) (kept : List ℕ) → len ≡ length line → len ≤ 64 → take 64 line ≡ take len kept → line ≡ take len kept
short_line line len kept is short same = sym (take_all 64 line (omega arith)) ∙ same

-- a byte more of a line
pub kept_short : (line kept : List ℕ) (len b : ℕ) → length kept ≡ 64 → len ≡ length line → take 64 line ≡ take len kept → len < 64
    → take 64 (line ++ b ∷ []) ≡ take (len + 1) (set kept len b)
kept_short line kept len b size is same short =
    take_all 64 (line ++ b ∷ []) (omega (arith, length-append line (b ∷ [])))
    ∙ ap (λ r. r ++ b ∷ []) (short_line line len kept is (omega arith) same)
    ∙ sym (take_more_set kept len b (omega arith))

pub kept_long : (line kept : List ℕ) (len b : ℕ) → length kept ≡ 64 → len ≡ length line → take 64 line ≡ take len kept → 64 ≤ len
    → take 64 (line ++ b ∷ []) ≡ take (len + 1) kept
kept_long line kept len b size is same long =
    take-append-le 64 line (b ∷ []) (omega arith) ∙ same ∙ take_all len kept (omega arith) ∙ sym (take_all (len + 1) kept (omega arith))

-- a line feed is no letter
no_line_feed : (c d : ℕ) → IsLetterOf hex_letter c d → is_line_feed c ≡ false
no_line_feed c d is = grind (arith, nat_tests, is.digit, is.same_letter)

-- so what reads as digits has none
IsLine-read : (line ds : List ℕ) → ReadsAs hex_letter line ds → IsLine line
IsLine-read [] ds reads = All-nil (λ b. is_line_feed b ≡ false)
IsLine-read (c ∷ line) [] reads = absurd reads
IsLine-read (c ∷ line) (d ∷ ds) reads = All-cons (λ b. is_line_feed b ≡ false) c line (no_line_feed c d reads.0) (IsLine-read line ds reads.1)

-- what reads as an id reads as digits
pub IsLine-id : (line : List ℕ) (id : KindDigits) → full_read hex_letter line ≡ Ok id → IsLine line
IsLine-id line id reads = by_digits (digits_read hex_letter line) refl (kind_of_full_len (length line)) reads
  where
    by_digits : (digits : Option (List ℕ)) → digits_read hex_letter line ≡ digits → (kind : Option Kind)
        → reading_of kind digits (InvalidHexEncodingLength (length line)) Invalid ≡ Ok id → IsLine line
    by_digits digits is None h = cc h
    by_digits None is (Some kind) h = cc h
    by_digits (Some ds) is (Some kind) h = IsLine-read line ds (ReadsAs-digits_read hex_letter line ds is)

-- a text of which an id was found reads as that
pub id_found : (answer : Result KindDigits Error) (id : KindDigits) → Some id ≡ result_ok answer → Ok id ≡ answer
id_found (Ok read) id is = cc is
id_found (Err error) id is = cc is

-- letters of an id, and a line feed
pub line_taken : (chunk line : List ℕ) (at n next : ℕ) (id : ObjectId) → at + (n + 1) ≤ length chunk → next ≡ at + (n + 1) → line ≡ take n (drop at chunk)
    → get_or chunk (at + n) 0 ≡ 10 → Ok (whole_of id) ≡ full_read hex_letter line → HasIdLine chunk at next id
line_taken chunk line at n next id room there is feed reads =
    let size : next - at ≡ n + 1 = omega arith in
    record {
      line = line;
      is_line = IsLine-id line (whole_of id) (sym reads);
      reads = sym reads;
      is_there =
          ap (λ k. take k (drop at chunk)) size ∙ take_more (drop at chunk) n 0 (omega (arith, length-drop at chunk))
          ∙ ap (λ l. l ++ get_or (drop at chunk) n 0 ∷ []) (sym is)
          ∙ ap (λ b. line ++ b ∷ []) (get_or-drop at chunk n 0 ∙ feed);
      onward = omega arith;
      in_chunk = omega arith;
    }

-- a whole line that reads as an id, if no line was begun
pub whole_taken : (ids new_ids : List ObjectId) (kept new_kept : List ℕ) (len : ℕ) (text line : List ℕ) (id : ObjectId) → len ≡ 0 → full_read hex_letter line ≡ Ok (whole_of id)
    → HasTaken ids kept len text → new_ids ≡ ids ++ id ∷ [] → HasTaken new_ids new_kept len (text ++ ended line)
whole_taken ids new_ids kept new_kept len text line id empty reads h pushed =
    let none : h.last ≡ [] = nil_from_length h.last (omega (arith, h.last_len)) in
    ended_taken ids kept len text h line new_ids new_kept len id (IsLine-id line (whole_of id) reads) (rw none reads) pushed empty

pub line_pushed : (ids new_ids : List ObjectId) (kept new_kept : List ℕ) (len : ℕ) (text chunk : List ℕ) (at next : ℕ) (id : ObjectId) → len ≡ 0
    → (line : HasIdLine chunk at next id) → HasTaken ids kept len text → new_ids ≡ ids ++ id ∷ [] → HasTaken new_ids new_kept len (text ++ slice_range chunk at next)
line_pushed ids new_ids kept new_kept len text chunk at next id empty line h pushed =
    subst (λ bytes. HasTaken new_ids new_kept len (text ++ bytes)) (sym line.is_there) (whole_taken ids new_ids kept new_kept len text line.line id empty line.reads h pushed)
