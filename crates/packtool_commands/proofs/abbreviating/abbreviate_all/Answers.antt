use Rattle.gix_hash.proofs.Std.{◌≢◌, ◌↔◌, ◌⊎◌, ◌∙◌, List, [], refl, sym, subst, arith, flat_map, IsTrue, err_from_is_err_and, Appends, Appends-nil, false≢true}
use Rattle.streams.specs.Streams.{AppendsBeginning}
use Rattle.object_store.specs.declared.abbreviations.AbbreviatedId.{AbbreviatedId}
use Rattle.object_store.proofs.Reopened.{not_reopened, reopened_again}
use Rattle.packtool_commands.specs.Stores.{abbreviated_line}
use Rattle.packtool_commands.proofs.AbbreviatedLemmas.{below_sound, has_abbreviated_more, abbreviated_at_most, abbreviated_part, abbreviated_seen, none_below}
use Rattle.packtool_commands.proofs.abbreviating.abbreviate_all.Goals as goal

pub loop-byte-init : goal.loop-byte-init
loop-byte-init g c = (
  not_reopened g.S.Reopen.had g.S.Store.view c.args.store.now,
  record {
    abbreviated = [];
    are_abbreviated = none_below c.args.least (g.S.Reopen.had c.args.store.now c.args.store.now);
    found = (λ some. absurd (false≢true some), λ some. absurd (some refl));
    written = Appends-nil (g.W.Sink.taken c.args.out.now);
  },
  c.requires.output,
)

pub abbreviated_of-requires-clause-listed : goal.abbreviated_of-requires-clause-listed
abbreviated_of-requires-clause-listed g c = λ only is. c.requires.listed c.loop-byte.byte only (sym c.loop-byte.invariant.0.listed ∙ is)

pub returns-in_err-abbreviated-clause-refused : goal.returns-in_err-abbreviated-clause-refused
returns-in_err-abbreviated-clause-refused g c =
    let failed = err_from_is_err_and c.from_residual.result c.from_residual.ensures.1 in
    let first = c.args.store.now in
    let HadThen = g.S.Reopen.had first c.abbreviated_of.new.store in
    let before = abbreviated_seen c.loop-byte.byte c.args.least _ HadThen c.loop-byte.any _ _ (c.abbreviated_of.ensures.reopened.before first) c.loop-byte.invariant.1 in
    rw (failed.1, failed.2)
    (c.loop-byte.byte, omega (arith, c.loop-byte-test.true), below_sound c.loop-byte.byte c.args.least HadThen before.abbreviated before.are_abbreviated, c.in_err-abbreviated.ensures.err)

pub returns-in_err-abbreviated-clause-part : goal.returns-in_err-abbreviated-clause-part
returns-in_err-abbreviated-clause-part g c =
    let first = c.args.store.now in
    let HadThen = g.S.Reopen.had first c.abbreviated_of.new.store in
    rw (err_from_is_err_and c.from_residual.result c.from_residual.ensures.1).1
    (abbreviated_at_most c.loop-byte.byte c.args.least HadThen c.loop-byte.any _ _
    (abbreviated_seen c.loop-byte.byte c.args.least _ HadThen c.loop-byte.any _ _ (c.abbreviated_of.ensures.reopened.before first) c.loop-byte.invariant.1))

pub returns-in_err-write_abbreviated-clause-part : goal.returns-in_err-write_abbreviated-clause-part
returns-in_err-write_abbreviated-clause-part g c =
    let first = c.args.store.now in
    let HadThen = g.S.Reopen.had first c.abbreviated_of.new.store in
    let reopened = c.abbreviated_of.ensures.reopened in
    rw (err_from_is_err_and c.from_residual-in_err-write_abbreviated.result c.from_residual-in_err-write_abbreviated.ensures.1).1
    (abbreviated_part c.loop-byte.byte c.args.least HadThen c.loop-byte.any _ _
    (abbreviated_seen c.loop-byte.byte c.args.least _ HadThen c.loop-byte.any _ _ (reopened.before first) c.loop-byte.invariant.1)
    (g.S.Store.view c.abbreviated_of.new.store) _ c.in_ok-abbreviated.abbreviated.items (reopened.has first (c.loop-byte.invariant.0.has first c.requires.has)) c.in_ok-abbreviated.ensures.abbreviated
    (subst (λ (ids : List AbbreviatedId). AppendsBeginning (g.W.Sink.taken c.loop-byte.out) (g.W.Sink.taken c.write_abbreviated.new.out) (flat_map abbreviated_line ids))
    c.deref.ensures.value c.in_err-write_abbreviated.ensures.part))

pub loop-byte-preserved : goal.loop-byte-preserved
loop-byte-preserved g c =
    let first = c.args.store.now in
    let HadLast = g.S.Reopen.had first c.loop-byte.store in
    let HadThen = g.S.Reopen.had first c.abbreviated_of.new.store in
    let seen = g.S.Store.view c.abbreviated_of.new.store in
    let reopened = c.abbreviated_of.ensures.reopened in (
      reopened_again g.S.Reopen.had g.S.Store.view first c.loop-byte.store c.abbreviated_of.new.store c.loop-byte.invariant.0 reopened,
      has_abbreviated_more c.loop-byte.byte c.args.least HadThen c.loop-byte.any _ _
          (abbreviated_seen c.loop-byte.byte c.args.least HadLast HadThen c.loop-byte.any _ _ (reopened.before first) c.loop-byte.invariant.1)
          seen _ c.in_ok-abbreviated.abbreviated.items (reopened.has first (c.loop-byte.invariant.0.has first c.requires.has)) c.in_ok-abbreviated.ensures.abbreviated
          c.is_any-any.result
          (subst (λ (ids : List AbbreviatedId). IsTrue c.is_any-any.result ↔ (IsTrue c.loop-byte.any ⊎ (ids ≢ []))) c.deref-in-loop-byte.ensures.value c.is_any-any.ensures)
          (subst (λ (ids : List AbbreviatedId). Appends (g.W.Sink.taken c.loop-byte.out) (g.W.Sink.taken c.write_abbreviated.new.out) (flat_map abbreviated_line ids))
          c.deref.ensures.value c.in_ok-write_abbreviated.ensures.written),
      c.in_ok-write_abbreviated.ensures.not_failed,
    )
