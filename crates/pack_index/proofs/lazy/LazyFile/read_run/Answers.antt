use Rattle.gix_hash.proofs.Std.{◌≡◌, ◌∙◌, ◌+◌, ◌-◌, ◌*◌, ◌/◌, ◌++◌, ℕ, List, length, take, drop, refl, sym, ap, subst, arith, IsTrue, slice_range, false≢true, err_from_is_err_and, take_at}
use Rattle.std.specs.Option.{ForSome}
use Rattle.id_lookup.specs.Words.{byte_len_of}
use Rattle.pack_index.specs.Format.{digests_in}
use Rattle.pack_index.specs.Lazy.{AreBetween, BucketIds, HaveFirstByte, LazyIndex, seen}
use Rattle.pack_index.proofs.Buckets.{ids_between, run_fits}
use Rattle.pack_index.proofs.Counted.{as_many, length-digests_in}
use Rattle.pack_index.proofs.Known.{by_bytes}
use Rattle.streams.specs.Streams.{IsReadAt}
use Rattle.pack_index.proofs.lazy.LazyFile.read_run.Given.{Over}
use Rattle.pack_index.proofs.lazy.LazyFile.read_run.Goals.{After-have_first_byte}
use Rattle.pack_index.proofs.lazy.LazyFile.read_run.Goals as goal

-- what was read is the table, and its ids are those of the run
module _ (g : Over) (c : After-have_first_byte g) where
  abbrev buf : List ℕ
  buf = c.read_exact_at.new.buf

  abbrev items : List ℕ
  items = take c.in_ok-table.table.len (buf ++ drop (length buf) c.in_ok-table.table.items)

  whole : items ≡ buf
  whole = take_at buf (drop (length buf) c.in_ok-table.table.items) c.in_ok-table.table.len (omega (arith, c.deref_mut.ensures.len, c.in_ok-table.ensures.len, c.read_exact_at.auto.buf))

  long : length buf ≡ byte_len_of c.ids-ids.result.kind * (c.args.run.now.end - c.args.run.now.start)
  long = omega (arith, c.ids_len.ensures.len, c.deref_mut.ensures.len, c.in_ok-table.ensures.len, c.read_exact_at.auto.buf)

  as_many_ids : length (digests_in c.ids-ids.result.kind buf) ≡ c.args.run.now.end - c.args.run.now.start
  as_many_ids = length-digests_in c.ids-ids.result.kind buf ∙ ap (λ n. n / byte_len_of c.ids-ids.result.kind) long
      ∙ as_many c.ids-ids.result.kind (c.args.run.now.end - c.args.run.now.start)

  seen_as : digests_in c.ids-ids.result.kind c.deref.result.now ≡ digests_in c.ids-ids.result.kind buf
  seen_as = ap (digests_in c.ids-ids.result.kind) (c.deref.ensures.value ∙ whole)

  of_run : ForSome (seen c.args.self.now).tables (λ tables. digests_in c.ids-ids.result.kind buf ≡ slice_range tables.ids c.args.run.now.start c.args.run.now.end)
  of_run =
      let self = c.args.self.now in
      let ids = c.ids-ids.result in
      let run = c.args.run.now in
      by_bytes self.kind self.layout _ _ (λ bytes is.
      let read = subst (λ n. IsReadAt bytes n buf) c.start_of.ensures (c.in_ok-read_exact_at.ensures.bytes bytes (rw (← c.self.view_is) at is)) in
      sym (ids_between ids.kind bytes ids.start ids.count (c.ids-ids.ensures.inside bytes is) buf run.start run.end c.requires.in_order
      (omega (arith, c.requires.inside, c.ids-ids.ensures.count)) read long)
      ∙ ap (λ (found : List (List ℕ)). slice_range found run.start run.end) (c.ids-ids.ensures.ids bytes is))

pub returns-in_err-read_exact_at-clause-err : goal.returns-in_err-read_exact_at-clause-err
returns-in_err-read_exact_at-clause-err g c =
    let failed = err_from_is_err_and c.from_residual-in_err-read_exact_at.result c.from_residual-in_err-read_exact_at.ensures.1 in
    let self = c.args.self.now in
    let ids = c.ids-ids.result in
    let run = c.args.run.now in
    let fits = run_fits ids.kind ids.start ids.count run.start (run.end - run.start) (omega (arith, c.requires.in_order, c.requires.inside, c.ids-ids.ensures.count)) in
    rw (failed.1, failed.2) (by_bytes self.kind self.layout _ _ (λ bytes is.
    subst (λ (f : LazyIndex). IsTrue f.can_fail) c.self.view_is
    (c.in_err-read_exact_at.ensures.err bytes (rw (← c.self.view_is) at is)
    (omega (arith, fits, c.ids-ids.ensures.inside bytes is, c.start_of.ensures, c.ids_len.ensures.len, c.in_ok-table.ensures.len, c.deref_mut.ensures.len)))))

pub new-requires-2 : goal.new-requires-2
new-requires-2 g c =
    let here = (goal.at.new-requires-2 g c).After-have_first_byte in
    let kind = c.ids-ids.result.kind in
    subst (λ bytes. length bytes ≡ byte_len_of kind * length (digests_in kind bytes)) (sym (whole g here)) (rw (as_many_ids g here) (long g here))

pub returns-then-not-have_first_byte-clause-err : goal.returns-then-not-have_first_byte-clause-err
returns-then-not-have_first_byte-clause-err g c = λ tables is.
    let here = (goal.at.returns-then-not-have_first_byte-clause-err g c).After-have_first_byte in (
      refl,
      λ all. false≢true (sym c.if-not-have_first_byte.true
          ∙ c.have_first_byte.ensures.1 (subst (HaveFirstByte c.args.byte) (sym (of_run g here tables is) ∙ sym (seen_as g here)) all)),
    )

pub returns-clause-ids : goal.returns-clause-ids
returns-clause-ids g c =
    let here = (goal.at.returns-clause-ids g c).After-have_first_byte in
    let run = c.args.run.now in
    let made : List ℕ → BucketIds = λ bytes. record { kind = c.ids-ids.result.kind; start = run.start; ids = digests_in c.ids-ids.result.kind bytes } in
    let end : run.start + length (made (buf g here)).ids ≡ run.end = omega (arith, as_many_ids g here, c.requires.in_order) in
    let is : AreBetween (seen c.args.self.now) c.args.byte run.start run.end (made (buf g here)) = record {
      kind = c.ids-ids.ensures.kind;
      start = refl;
      end = end;
      first = subst (HaveFirstByte c.args.byte) (seen_as g here) (c.have_first_byte.ensures.0 c.if-not-have_first_byte.false);
      known = λ tables known. of_run g here tables known ∙ ap (slice_range tables.ids run.start) (sym end);
    } in
    subst (AreBetween (seen c.args.self.now) c.args.byte run.start run.end) (ap made (sym (whole g here)) ∙ sym c.new-2.ensures) is
