use Rattle.gix_hash.proofs.Std.{◌+◌, ◌*◌, ◌∙◌, ℕ, [], get_or, take, ap, arith, subst, sym, err_from_is_err_and}
use Rattle.id_lookup.specs.Words.{byte_len_of, place}
use Rattle.streams.specs.Streams.{IsReadAt}
use Rattle.pack_index.specs.Lazy.{ids_of}
use Rattle.pack_index.proofs.Buckets.{eight, id_at, id_begins, run_fits}
use Rattle.pack_index.proofs.Fronts.{place-first}
use Rattle.pack_index.proofs.search.place_at.Goals as goal

pub returns-in_default : goal.returns-in_default
returns-in_default g c = record {
  place = λ bytes is.
      let ids = c.args.ids in
      let digits = c.args.prefix.now.digits in
      let first = c.read_exact_at.new.buf in
      let read : IsReadAt bytes (ids.start + byte_len_of ids.kind * c.args.at) first =
      subst (λ (from : ℕ). IsReadAt bytes from first) c.start_of-start.ensures (c.in_ok-read_exact_at.ensures.bytes bytes is) in
      let begins = id_begins ids.kind bytes ids.start ids.count (c.requires.known bytes is) first c.args.at c.requires.inside read (omega (arith, c.read_exact_at.auto.buf)) in
      place-first digits (get_or (ids_of ids bytes) c.args.at []) c.place.result
      (c.place.ensures (take 16 digits) c.requires.front ∙ ap (place (take 16 digits)) begins) c.in_default.not-Equal;
  err = tt;
}

pub returns-in_err-read_exact_at-clause-err : goal.returns-in_err-read_exact_at-clause-err
returns-in_err-read_exact_at-clause-err g c =
    let failed = err_from_is_err_and c.from_residual.result c.from_residual.ensures.1 in
    rw (failed.1) (λ bytes is.
    let fits = run_fits c.args.ids.kind c.args.ids.start c.args.ids.count c.args.at 1 (omega (arith, c.requires.inside)) in
    c.in_err-read_exact_at.ensures.err bytes is (omega (arith, eight c.args.ids.kind, fits, c.requires.known bytes is, c.start_of-start.ensures, c.read_exact_at.auto.buf)))

pub returns-in_ok-read_exact_at-in-Sha1-clause-place : goal.returns-in_ok-read_exact_at-in-Sha1-clause-place
returns-in_ok-read_exact_at-in-Sha1-clause-place g c = λ bytes is.
    let ids = c.args.ids in
    let id = c.read_exact_at-in-Sha1.new.buf in
    let read = subst (λ (from : ℕ). IsReadAt bytes from id) c.start_of-start.ensures (c.in_ok-read_exact_at-in-Sha1.ensures.bytes bytes is) in
    c.cmp_oid.ensures ∙ ap (place c.args.prefix.now.digits) (c.as_oid.ensures.digits
    ∙ id_at ids.kind bytes ids.start ids.count (c.requires.known bytes is) id c.args.at c.requires.inside read (c.read_exact_at-in-Sha1.auto.buf ∙ sym (ap byte_len_of c.in-Sha1.is)))

pub returns-in_ok-read_exact_at-in-Sha256-clause-place : goal.returns-in_ok-read_exact_at-in-Sha256-clause-place
returns-in_ok-read_exact_at-in-Sha256-clause-place g c = λ bytes is.
    let ids = c.args.ids in
    let id = c.read_exact_at-in-Sha256.new.buf in
    let read = subst (λ (from : ℕ). IsReadAt bytes from id) c.start_of-start.ensures (c.in_ok-read_exact_at-in-Sha256.ensures.bytes bytes is) in
    c.cmp_oid-in-Sha256.ensures ∙ ap (place c.args.prefix.now.digits) (c.as_oid-in-Sha256.ensures.digits
    ∙ id_at ids.kind bytes ids.start ids.count (c.requires.known bytes is) id c.args.at c.requires.inside read (c.read_exact_at-in-Sha256.auto.buf ∙ sym (ap byte_len_of c.in-Sha256.is)))

pub returns-in_err-read_exact_at-in-Sha1-clause-err : goal.returns-in_err-read_exact_at-in-Sha1-clause-err
returns-in_err-read_exact_at-in-Sha1-clause-err g c =
    let failed = err_from_is_err_and c.from_residual-in_err-read_exact_at-in-Sha1.result c.from_residual-in_err-read_exact_at-in-Sha1.ensures.1 in
    rw (failed.1) (λ bytes is.
    let fits = run_fits c.args.ids.kind c.args.ids.start c.args.ids.count c.args.at 1 (omega (arith, c.requires.inside)) in
    c.in_err-read_exact_at-in-Sha1.ensures.err bytes is
    (omega (arith, fits, c.requires.known bytes is, ap byte_len_of c.in-Sha1.is, c.start_of-start.ensures, c.read_exact_at-in-Sha1.auto.buf)))

pub returns-in_err-read_exact_at-in-Sha256-clause-err : goal.returns-in_err-read_exact_at-in-Sha256-clause-err
returns-in_err-read_exact_at-in-Sha256-clause-err g c =
    let failed = err_from_is_err_and c.from_residual-in_err-read_exact_at-in-Sha256.result c.from_residual-in_err-read_exact_at-in-Sha256.ensures.1 in
    rw (failed.1) (λ bytes is.
    let fits = run_fits c.args.ids.kind c.args.ids.start c.args.ids.count c.args.at 1 (omega (arith, c.requires.inside)) in
    c.in_err-read_exact_at-in-Sha256.ensures.err bytes is
    (omega (arith, fits, c.requires.known bytes is, ap byte_len_of c.in-Sha256.is, c.start_of-start.ensures, c.read_exact_at-in-Sha256.auto.buf)))
