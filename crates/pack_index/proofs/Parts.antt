-- Parts of a bucket, among whose ids are all that begin with the digits of a prefix.
use Rattle.gix_hash.proofs.Std.{◌≡◌, ℕ, ◌+◌, ◌-◌, ◌<◌, ◌≤◌, Bool, true, nat_eq, Some, List, [], ◌++◌, length, get_or, drop, refl, sym, ap, ◌∙◌, subst, arith, slice_range, append-nil, append_assoc, length-take, filter-append, false_from_ne_true, starts_with}
use Rattle.std.specs.Option.{ForSome}
use Rattle.id_lookup.specs.Words.{IsSortedIds, first_byte_of, matches}
use Rattle.id_lookup.specs.declared.search.Run.{Run}
use Rattle.id_lookup.proofs.Beginnings.{first_byte_of-begins, matches-part}
use Rattle.id_lookup.proofs.Filtering.{filter_none}
use Rattle.id_lookup.proofs.Filters.{filter_within}
use Rattle.id_lookup.proofs.Spelled.{starts_with-BeginsWith}
use Rattle.pack_index.proofs.Buckets.{counted_all}
use Rattle.pack_index.proofs.Ranges.{length-range, range_at, split}
use Rattle.pack_index.specs.Lazy.{AreAmong, AreBetween, AreWithin, BucketIds, HasBucket, HaveFirstByte, IsOrdered, IsPartOf, IndexView, Tables, bucket_start, counted_with}

-- what begins with the digits in a part is what does of all that are counted with their first byte
module _ (digits : List ℕ) (counted before names after : List (List ℕ)) (all : counted ≡ before ++ (names ++ after)) (none : matches digits before ≡ []) (none_after : matches digits after ≡ []) where
  matched : matches digits names ≡ matches digits counted
  matched =
      let p : List ℕ → Bool = λ id. starts_with nat_eq id digits in
      sym (ap (matches digits) all ∙ filter-append p before (names ++ after) ∙ (λ i. none i ++ filter-append p names after i)
      ∙ ap (λ (rest : List (List ℕ)). matches digits names ++ rest) none_after ∙ append-nil (matches digits names))

pub part_matches : (tables : Tables) (digits : List ℕ) (part : BucketIds) → AreAmong tables digits part → matches digits part.ids ≡ matches digits (counted_with tables (first_byte_of digits))
part_matches tables digits part among =
    matched digits (counted_with tables (first_byte_of digits)) among.before part.ids among.after among.all among.none_before among.none_after

-- so ids are a part if those before them and those after them do not begin with the digits
are_among : (tables : Tables) (digits : List ℕ) (part : BucketIds) (before after : List (List ℕ)) → HasBucket tables (first_byte_of digits) → 2 ≤ length digits → first_byte_of digits < 256
    → counted_with tables (first_byte_of digits) ≡ before ++ (part.ids ++ after) → part.start ≡ bucket_start tables.up_to (first_byte_of digits) + length before
    → matches digits before ≡ [] → matches digits after ≡ [] → AreAmong tables digits part
are_among tables digits part before after right enough small all start none none_after = record {
  right = right;
  before = before;
  after = after;
  all = all;
  start = start;
  none_before = none;
  none_after = none_after;
  complete = λ counts. matched digits (counted_with tables (first_byte_of digits)) before part.ids after all none none_after
      ∙ ap (matches digits) (counted_all tables (first_byte_of digits) counts small right) ∙ matches-part digits tables.ids enough;
}

-- ids that were read from the start of a bucket to its end
module _ (index : IndexView) (byte from to : ℕ) (part : BucketIds) (are : AreBetween index byte from to part) (tables : Tables) (known : index.tables ≡ Some tables)
    (start : from ≡ bucket_start tables.up_to byte) (end : to ≡ tables.up_to byte) (inside : to ≤ length tables.ids) where
  counted : part.ids ≡ counted_with tables byte
  counted = are.known tables known ∙ (λ i. slice_range tables.ids ((are.start ∙ start) i) ((are.end ∙ end) i))

  whole_right : HasBucket tables byte
  whole_right = record { in_order = omega (arith, are.start, are.end, start, end); inside = omega (arith, inside, end); first = subst (HaveFirstByte byte) counted are.first }

  pub whole_ordered : IsSortedIds part.ids → IsOrdered tables byte
  whole_ordered sorted = record { right = whole_right; sorted = subst IsSortedIds counted sorted }

-- they are a part for all digits with the first byte
pub whole_part : (index : IndexView) (digits : List ℕ) (from to : ℕ) (part : BucketIds) → AreBetween index (first_byte_of digits) from to part → to ≤ index.count
    → 2 ≤ length digits → first_byte_of digits < 256 → ForSome index.tables (λ tables. from ≡ bucket_start tables.up_to (first_byte_of digits))
    → ForSome index.tables (λ tables. to ≡ tables.up_to (first_byte_of digits)) → ForSome index.tables (λ tables. to ≤ length tables.ids) → IsPartOf index digits part
whole_part index digits from to part are inside enough small starts ends within = record {
  kind = are.kind;
  inside = omega (arith, are.end, inside);
  first = are.first;
  known = λ tables known.
      let start = starts tables known in
      let end = ends tables known in
      let byte = first_byte_of digits in
      are_among tables digits part [] [] (whole_right index byte from to part are tables known start end (within tables known)) enough small
      (sym (append-nil part.ids ∙ counted index byte from to part are tables known start end (within tables known))) (omega (arith, are.start, start)) refl refl;
}

-- none of the ids from one position to another begins with the digits
none : (digits : List ℕ) (names : List (List ℕ)) (a b : ℕ) → ((k : ℕ) → a ≤ k → k < b → starts_with nat_eq (get_or names k []) digits ≡ true → ⊥) → matches digits (slice_range names a b) ≡ []
none digits names a b never = filter_none (λ id. starts_with nat_eq id digits) (slice_range names a b) (λ k d less.
    false_from_ne_true _ (λ passes. never (a + k) (omega arith) (omega (arith, length-take (b - a) (drop a names), less))
    (sym (ap (λ (id : List ℕ). starts_with nat_eq id digits) (range_at names a b k d [] less)) ∙ passes)))

-- a part of the positions that the fan-out table counts with the first byte of the digits, and of all that begin with the digits if these ids are sorted
pub record IsNarrowed (tables : Tables) (digits : List ℕ) (part : Run) : Type 0 where
  pub from : bucket_start tables.up_to (first_byte_of digits) ≤ part.start
  pub to : part.end ≤ tables.up_to (first_byte_of digits)
  pub all : AreWithin tables.ids digits (bucket_start tables.up_to (first_byte_of digits)) (tables.up_to (first_byte_of digits)) part.start part.end

-- so ids that were read between two positions by which a bucket that was found sorted was narrowed are a part, too
pub narrowed_part : (index : IndexView) (digits : List ℕ) (from to : ℕ) (part : BucketIds) → AreBetween index (first_byte_of digits) from to part → to ≤ index.count
    → 2 ≤ length digits → first_byte_of digits < 256 → ForSome index.tables (λ tables. IsOrdered tables (first_byte_of digits))
    → ForSome index.tables (λ tables. IsNarrowed tables digits (record { start = from; end = to })) → IsPartOf index digits part
narrowed_part index digits from to part are inside enough small ordered narrowed = record {
  kind = are.kind;
  inside = omega (arith, are.end, inside);
  first = are.first;
  known = λ tables known.
      let ids = tables.ids in
      let start = bucket_start tables.up_to (first_byte_of digits) in
      let end = tables.up_to (first_byte_of digits) in
      let is = narrowed tables known in
      let right = (ordered tables known).right in
      let within = is.all (ordered tables known).sorted in
      let low = is.from in
      let high = is.to in
      let rise : from ≤ to = omega (arith, are.start, are.end) in
      let names : part.ids ≡ slice_range ids from to = are.known tables known ∙ (λ i. slice_range ids (are.start i) (are.end i)) in
      are_among tables digits part (slice_range ids start from) (slice_range ids to end) right enough small
      (split ids start from end low (omega (arith, rise, high)) ∙ ap (λ (rest : List (List ℕ)). slice_range ids start from ++ rest) (split ids from to end rise high)
      ∙ (λ i. slice_range ids start from ++ (sym names i ++ slice_range ids to end)))
      (omega (arith, are.start, low, length-range ids start from (omega (arith, rise, high, right.inside))))
      (none digits ids start from (λ k first last passes. omega (arith, last, (within k first (omega (arith, last, rise, high)) passes).0)))
      (none digits ids to end (λ k first last passes. omega (arith, first, (within k (omega (arith, first, rise, low)) last passes).1)));
}

-- what begins with more digits begins with the first of them
pub begins_less : (id more digits : List ℕ) → starts_with nat_eq more digits ≡ true → starts_with nat_eq id more ≡ true → starts_with nat_eq id digits ≡ true
begins_less id more digits first begins =
    let outer = (starts_with-BeginsWith id more).0 begins in
    let inner = (starts_with-BeginsWith more digits).0 first in
    (starts_with-BeginsWith id digits).1 (inner.0 ++ outer.0, outer.1 ∙ ap (λ (front : List ℕ). front ++ outer.0) inner.1 ∙ append_assoc digits inner.0 outer.0)

-- a part for some digits is one for each that begin with them
pub part_for_more : (index : IndexView) (digits more : List ℕ) (part : BucketIds) → 2 ≤ length digits → starts_with nat_eq more digits ≡ true
    → IsPartOf index digits part → IsPartOf index more part
part_for_more index digits more part enough first is =
    let same : first_byte_of digits ≡ first_byte_of more = sym (first_byte_of-begins more digits enough first) in
    let fewer = filter_within (λ id. starts_with nat_eq id digits) (λ id. starts_with nat_eq id more) (λ id begins. begins_less id more digits first begins) in record {
      kind = is.kind;
      inside = is.inside;
      first = subst (λ byte. HaveFirstByte byte part.ids) same is.first;
      known = λ tables known.
          let among = is.known tables known in record {
            right = subst (HasBucket tables) same among.right;
            before = among.before;
            after = among.after;
            all = subst (λ byte. counted_with tables byte ≡ among.before ++ (part.ids ++ among.after)) same among.all;
            start = subst (λ byte. part.start ≡ bucket_start tables.up_to byte + length among.before) same among.start;
            none_before = sym (fewer among.before) ∙ ap (matches more) among.none_before;
            none_after = sym (fewer among.after) ∙ ap (matches more) among.none_after;
            complete = λ counts. sym (fewer part.ids) ∙ ap (matches more) (among.complete counts) ∙ fewer tables.ids;
          };
    }
