-- The bytes of a source that a search has taken, read by read, and where the search stops: where the reading does, or at the end of what it is given.
use Rattle.gix_hash.proofs.Std.{◌≡◌, ◌||◌, Bool, false, ℕ, ◌+◌, ◌<◌, ◌≤◌, inl, inr, Option, List, [], ◌++◌, length, take, drop, refl, sym, ap, ◌∙◌, subst, arith, append_assoc, length-append, take-append-drop, append-nil, ◌≢◌, ◌↔◌, true, map, Result, Ok, Err, IfOk, IfErr, IsErrAnd, IsErrOf, IsOk, OnOk, take-take, length-map, Consumes-trans, Consumes-kept, Consumes, Keeps, IsAtEnd, Appends, take-append_seam, false≢true}
use Rattle.id_lookup.specs.Words.{KindDigits, ObjectId, id_digits}
use Rattle.list_search.specs.Searches.{HoldsOfAll, SettlesAll, GivesGoodLines, GivesTooMuch, Fails, Succeeds, FoundHolds, From, Searched, IsOwn, OfAll, Stops, found_among, found_in_list, found_texts, letter_for, prefix_for}
use Rattle.list_search.specs.Lists.{NoBadLineEnded, list_read, IsListRefusal}
use Rattle.list_search.specs.SearchStates.{HasSearched, HasTaken}
use Rattle.list_search.specs.declared.finder.Finder.{Finder}
use Rattle.list_search.specs.declared.list_reader.ListReader.{ListReader}
use Rattle.list_search.specs.declared.search.Search.{Search}
use Rattle.list_search.proofs.ChunkLemmas.{no_bad_line}
use Rattle.std.specs.Result.{MatchResult, result_map_both}
use Rattle.streams.specs.Streams.{printed}
use Rattle.list_search.specs.declared.query.Query.{Query}
use Rattle.gix_hash.specs.declared.prefix.from_hex.Error.{Error as PrefixError}
use Rattle.list_search.specs.declared.error.SearchError.{SearchError}
use Rattle.list_search.specs.declared.error.SearchError.TheVariants.{Prefix, BadLine, Unsorted, PrefixTooLong, WrongKind, NotRising, Memory, Output, Input}
use Rattle.list_search.specs.declared.search.Search.TheVariants.{Sorted, In}
use Rattle.list_search.proofs.Results.{found_holds, result_means}

-- a search has taken all bytes read so far, and `room` bytes more are the most that it may
pub record IsTaken {A : Type 0} (search : Search) (digits : List ℕ) (reader : ListReader A) (finder : Finder A) (most room : ℕ) (old now : Option (List ℕ)) : Type 0 where
  pub text : List ℕ
  pub gives : Consumes old now text
  pub limit : length text + room ≡ most
  pub searched : HasSearched search digits reader finder text

-- one read more
module _ {A : Type 0} {search : Search} {digits : List ℕ} {reader : ListReader A} {finder : Finder A} {most room : ℕ} {old now : Option (List ℕ)}
    (t : IsTaken search digits reader finder most room old now) (new : Option (List ℕ)) where
  -- it failed
  pub stopped_good : Keeps now new → GivesGoodLines most old new
  stopped_good keeps = record {
    text = t.text;
    gives = Consumes-kept old now new t.text t.gives keeps;
    short = omega (arith, t.limit);
    good = no_bad_line _ _ _ t.text t.searched.taken;
  }

  -- it gave no byte: that was all
  pub holds_of_all : (Holds : List ℕ → Type 0) (count : ℕ) (buf : List ℕ) → count ≡ 0 → 0 < length buf
      → Consumes now new (take count buf) × (count ≡ 0 → 0 < length buf → IsAtEnd new) → Holds t.text → HoldsOfAll Holds most old new
  holds_of_all Holds count buf none some read holds = record {
    text = t.text;
    gives = subst (Consumes old new) (append-nil t.text) (Consumes-trans old now new t.text [] t.gives (subst (λ n. Consumes now new (take n buf)) none read.0));
    at_end = read.1 none some;
    short = omega (arith, t.limit);
    holds = holds;
  }

  -- it gave a chunk
  module _ (chunk rest : List ℕ) (gives : Consumes now new (chunk ++ rest)) (fits : length chunk ≤ room) where
    given : Consumes old new ((t.text ++ chunk) ++ rest)
    given = subst (Consumes old new) (sym (append_assoc t.text chunk rest)) (Consumes-trans old now new t.text (chunk ++ rest) t.gives gives)

    -- that settles the error, whatever follows
    pub settled : (Holds : List ℕ → Type 0) → ((more : List ℕ) → Holds (t.text ++ (chunk ++ more))) → SettlesAll Holds most old new
    settled Holds holds = record {
      text = t.text ++ chunk;
      rest = rest;
      gives = given;
      short = omega (arith, t.limit, length-append t.text chunk);
      holds = inl (λ more. subst Holds (sym (append_assoc t.text chunk more)) (holds more));
    }

    -- and more than there was room for
    pub too_much : (new_ids : List ObjectId) (new_kept : List ℕ) (new_len : ℕ) → length chunk ≡ room → 0 < length rest
        → HasTaken new_ids new_kept new_len (t.text ++ chunk) → GivesTooMuch most old new
    too_much new_ids new_kept new_len full some taken =
        let text = t.text ++ chunk in
        let len = length-append t.text chunk in
        let all : length text ≡ most = omega (arith, t.limit, len) in
        record {
          bytes = text ++ rest;
          gives = given;
          too_long = omega (arith, t.limit, len, length-append text rest);
          good =
              subst NoBadLineEnded (sym (ap (λ n. take n (text ++ rest)) (sym all) ∙ take-append_seam text rest))
              (no_bad_line new_ids new_kept new_len text taken);
        }

-- the bytes of a read, as those within the limit and those after them
pub split_read : (now new : Option (List ℕ)) (room count : ℕ) (buf : List ℕ) → room ≤ count → Consumes now new (take count buf)
    → Consumes now new (take room buf ++ drop room (take count buf))
split_read now new room count buf less gives =
    subst (Consumes now new) (sym (take-append-drop room (take count buf)) ∙ ap (λ l. l ++ drop room (take count buf)) (take-take room count buf less)) gives

-- a source that had not failed has not failed after a read that gave bytes
pub not_failed : (before after : Bool) → before ≡ false → after ≡ (before || false) → after ≡ false
not_failed before after stood same = same ∙ ap (λ b. b || false) stood

-- what follows from what holds of all bytes of a source holds of them
pub all_map : {P Q : List ℕ → Type 0} {most : ℕ} {old new : Option (List ℕ)} → HoldsOfAll P most old new → ((text : List ℕ) → P text → Q text) → HoldsOfAll Q most old new
all_map all follows = record { text = all.text; gives = all.gives; at_end = all.at_end; short = all.short; holds = follows all.text all.holds }

-- and it is settled
pub settled_of_all : {P : List ℕ → Type 0} {most : ℕ} {old new : Option (List ℕ)} → HoldsOfAll P most old new → SettlesAll P most old new
settled_of_all {old = old} {new = new} all = record {
  text = all.text;
  rest = [];
  gives = subst (Consumes old new) (sym (append-nil all.text)) all.gives;
  short = all.short;
  holds = inr (all.holds, all.at_end, refl);
}

-- what follows from what is settled is settled
settled_map : {P Q : List ℕ → Type 0} {most : ℕ} {old new : Option (List ℕ)} → SettlesAll P most old new → ((text : List ℕ) → P text → Q text) → SettlesAll Q most old new
settled_map settled follows = record {
  text = settled.text;
  rest = settled.rest;
  gives = settled.gives;
  short = settled.short;
  holds = elim settled.holds [
    | inl whatever ↦ inl (λ more. follows (settled.text ++ more) (whatever more))
    | inr at_end ↦ inr (follows settled.text at_end.0, at_end.1, at_end.2)
  ];
}

-- an error of the list text stops the search, and is none of a read
refused_stops : (search : Search) (digits : List ℕ) (most : ℕ) (old new : Option (List ℕ)) (error : SearchError)
    → SettlesAll (λ text. IsListRefusal text error) most old new
    → Stops (λ text. found_in_list search digits (list_read text)) (From most old new) error × (error ≢ Input)
refused_stops search digits most old new (BadLine n error) stops = (settled_map stops (λ text refused. rw refused refl), λ is. cc is)
refused_stops search digits most old new Memory stops = (stops, λ is. cc is)
refused_stops search digits most old new error stops = absurd (elim stops.holds [ inl whatever ↦ whatever [] | inr at_end ↦ at_end.0 ])

-- and so does an error of the ids, at the end
ids_stop : (answer : List ℕ → Result (List (List ℕ)) SearchError) (given : Searched) (search : Search) (digits : List ℕ) (ids : List (List ℕ)) (error : SearchError)
    → FoundHolds search digits ids (Err error) → OfAll given (λ text. answer text ≡ Err error) → Stops answer given error × (error ≢ Input)
ids_stop answer given (Sorted alphabet) digits ids (Unsorted n) h all = (all, λ is. cc is)
ids_stop answer given (Sorted alphabet) digits ids (PrefixTooLong hex_len least) h all = (all, λ is. cc is)
ids_stop answer given (In kind) digits ids (WrongKind n) h all = (all, λ is. cc is)
ids_stop answer given (In kind) digits ids (NotRising n) h all = (all, λ is. cc is)
ids_stop answer given search digits ids error h all = absurd h

-- what the result of a search over a source says, where `failed` says whether the source has failed
abbrev pub IsExit : {V : Type 0} → Result V SearchError → (V → List (List ℕ)) → Search → List ℕ → Searched → Bool → Type 0
IsExit found view search digits given failed = IfOk found (λ v. OfAll given (λ t. found_in_list search digits (list_read t) ≡ Ok (view v))) × OnOk found (failed ≡ false)
    × IfErr found (Stops (λ t. found_in_list search digits (list_read t)) given) × (IsErrOf found Input ↔ (failed ≡ true))

error_exit : {V : Type 0} (view : V → List (List ℕ)) (search : Search) (digits : List ℕ) (given : Searched) (failed : Bool) (error : SearchError) → failed ≡ false
    → Stops (λ t. found_in_list search digits (list_read t)) given error × (error ≢ Input) → IsExit {V = V} (Err error) view search digits given failed
error_exit view search digits given failed error stands s = (tt, tt, s.0, (λ input. absurd (s.1 (cc input)), λ h. absurd (false≢true (sym stands ∙ h))))

-- with an error of the list text
pub refused_exit : {V : Type 0} (found : Result V SearchError) (view : V → List (List ℕ)) (search : Search) (digits : List ℕ) (most : ℕ) (old new : Option (List ℕ)) (failed : Bool)
    (error : SearchError) → IsErrAnd found (λ e. e ≡ error) → failed ≡ false → SettlesAll (λ text. IsListRefusal text error) most old new
    → IsExit found view search digits (From most old new) failed
refused_exit (Ok v) view search digits most old new failed error is stands stops = absurd is
refused_exit (Err e) view search digits most old new failed error is stands stops =
    error_exit view search digits (From most old new) failed e stands
    (refused_stops search digits most old new e (subst (λ e. SettlesAll (λ text. IsListRefusal text e) most old new) (sym is) stops))

-- with what a finder says at the end
pub end_exit : {V : Type 0} (found : Result V SearchError) (view : V → List (List ℕ)) (search : Search) (digits : List ℕ) (most : ℕ) (old new : Option (List ℕ)) (failed : Bool)
    (ids : List (List ℕ)) → found_among search digits ids ≡ result_map_both view (λ error. error) found → failed ≡ false
    → HoldsOfAll (λ text. list_read text ≡ Ok ids) most old new → IsExit found view search digits (From most old new) failed
end_exit (Ok v) view search digits most old new failed ids is stands all =
    (all_map all (λ text read. rw read is), stands, tt, (λ h. cc h, λ h. absurd (false≢true (sym stands ∙ h))))
end_exit (Err error) view search digits most old new failed ids is stands all =
    error_exit view search digits (From most old new) failed error stands
    (ids_stop _ (From most old new) search digits ids error (subst (FoundHolds search digits ids) is (found_holds search digits ids)) (all_map all (λ text read. rw read is)))

-- its error is none of the other order
fails_own : (search : Search) (prefix : List ℕ) (most : ℕ) (old new : Option (List ℕ)) (error : SearchError) (sink sink' : Option (List ℕ))
    → Fails search prefix (From most old new) error sink sink' → IsOwn search error
fails_own (Sorted alphabet) prefix most old new (WrongKind n) sink sink' h = let m = (result_means (Sorted alphabet) prefix h.1.text (Err (WrongKind n))).0 h.1.holds in m.1
fails_own (Sorted alphabet) prefix most old new (NotRising n) sink sink' h = let m = (result_means (Sorted alphabet) prefix h.1.text (Err (NotRising n))).0 h.1.holds in m.1
fails_own (In kind) prefix most old new (Unsorted n) sink sink' h = let m = (result_means (In kind) prefix h.1.text (Err (Unsorted n))).0 h.1.holds in m.1
fails_own (In kind) prefix most old new (PrefixTooLong hex_len least) sink sink' h = let m = (result_means (In kind) prefix h.1.text (Err (PrefixTooLong hex_len least))).0 h.1.holds in m.1
fails_own (Sorted alphabet) prefix most old new error sink sink' h = tt
fails_own (In kind) prefix most old new error sink sink' h = tt

-- a step that went well gave the value
pub step_gave : {T E : Type 0} {given source : Result T E} {x : T} (D : Type 0) → given ≡ source
    → MatchResult given (λ y. ◌≡◌ {A = Result T D} (Ok x) (Ok y)) (λ _. ⊥) → source ≡ Ok x
step_gave {given = Ok y} D is went = cc (is, went)
step_gave {given = Err e} D is went = absurd went

-- if the prefix reads, the search stops where the reading does, with an error of its own order
module _ (search : Search) (prefix : List ℕ) (start : KindDigits) (reads : prefix_for search prefix ≡ Ok start) (query : Query) (same : query.search ≡ search)
    (same_prefix : query.prefix ≡ start) (most : ℕ) (old new sink sink' : Option (List ℕ)) where
  stops : (error : SearchError) → Stops (λ text. found_in_list query.search query.prefix.digits (list_read text)) (From most old new) error
      → Fails search prefix (From most old new) error sink sink'
  stops (Prefix error) h = absurd h
  stops Output h = absurd h
  stops error h =
      subst (λ (read : Result KindDigits PrefixError). IsOk read × Stops (λ text. found_texts search read (list_read text)) (From most old new) error) (sym reads) (
        refl,
        subst (λ s. Stops (λ text. found_in_list s start.digits (list_read text)) (From most old new) error) same
            (subst (λ (p : KindDigits). Stops (λ text. found_in_list query.search p.digits (list_read text)) (From most old new) error) same_prefix h),
      )

  pub search_stops : (error : SearchError) → Stops (λ text. found_in_list query.search query.prefix.digits (list_read text)) (From most old new) error
      → Fails search prefix (From most old new) error sink sink' × IsOwn search error
  search_stops error h = let fails = stops error h in (fails, fails_own search prefix most old new error sink sink' fails)

  pub search_finds : (items : List ObjectId) (count : ℕ)
      → HoldsOfAll (λ text. found_in_list query.search query.prefix.digits (list_read text) ≡ Ok (map id_digits items)) most old new
      → Appends sink sink' (printed (letter_for search) (map id_digits items)) → count ≡ length items → Succeeds search prefix (From most old new) sink sink' count
  search_finds items count all written counted = all_map all (λ text found. record {
    ids = map id_digits items;
    found = rw (reads, ← same, ← same_prefix) found;
    counted = omega (arith, counted, length-map items id_digits);
    written = written;
  })
