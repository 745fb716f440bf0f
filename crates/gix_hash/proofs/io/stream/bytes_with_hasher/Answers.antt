use Rattle.id_digits.proofs.Std.{◌≡◌, ◌∙◌, [], ◌++◌, length, ◌+◌, ◌*◌, ◌<◌, arith, refl, append_assoc, length-append, append-nil, length-take, err_from_is_err_and, Consumes-nil, Consumes-trans}
use Rattle.gix_hash.specs.declared.io.error.Error.TheVariants as errors
use Rattle.gix_hash.specs.Hashing.{chunks}
use Rattle.gix_hash.proofs.Chunks.{chunk_is_there, chunks_end}
use Rattle.gix_hash.proofs.Made.{ok-kept, err-made}
use Rattle.gix_hash.proofs.Reaching.{Reaches-none, Reaches-more, heard-more, all_false-more}
use Rattle.gix_hash.proofs.io.stream.bytes_with_hasher.Goals as goal

pub loop-left-init : goal.loop-left-init
loop-left-init g c = (
  0,
  [],
  record {
    counted = omega arith;
    rest = omega arith;
    reported = Reaches-more _ c.args.progress.now _ _ [] _ (Reaches-none _ _) c.init.ensures;
    asked = Reaches-none _ _;
    read = (omega arith, Consumes-nil _);
    kind = refl;
    fed = λ message stood. rw append-nil stood;
  },
)

pub loop-left-preserved : goal.loop-left-preserved
loop-left-preserved g c =
    let known = c.loop-left.invariant.2 in
    let left : 65535 * c.loop-left.invariant.0 < c.args.num_bytes_from_start = omega arith in
    let there = chunk_is_there _ _ left in
    let taken = ok-kept _ _ _ c.map_err.ensures.variant c.in_ok-map_err.was c.read_exact.ensures.bytes in (
      c.loop-left.invariant.0 + 1,
      c.loop-left.invariant.1 ++ c.read_exact.new.buf,
      record {
        counted = omega arith;
        rest = omega arith;
        reported = heard-more _ _ _ _ _ _ _ left (omega arith) known.reported c.inc_by.ensures;
        asked = all_false-more _ _ _ _ _ _ c.if-should_interrupt.false known.asked c.should_interrupt.ensures;
        read = (
          rw length-append (omega (arith, known.read.0, c.read_exact.auto.buf, length-take c.min-count.result c.loop-left.buf)),
          Consumes-trans _ _ _ _ _ known.read.1 taken,
        );
        kind = c.update.ensures.kind ∙ known.kind;
        fed = λ message stood. rw (← append_assoc) (c.update.ensures.fed _ (known.fed message stood));
      },
    )

pub returns-in_err-map_err-clause-err : goal.returns-in_err-map_err-clause-err
returns-in_err-map_err-clause-err g c =
    let known = c.loop-left.invariant.2 in
    let left : 65535 * c.loop-left.invariant.0 < c.args.num_bytes_from_start = omega arith in
    let many : length c.loop-left.invariant.1 ≡ 65535 * c.loop-left.invariant.0 = omega (arith, known.read.0) in
    let given = err_from_is_err_and c.from_residual.result c.from_residual.ensures.1 in
    let cause = err-made _ _ _ _ c.map_err.ensures.cases c.in_err-map_err.was in
    let is_io : c.in_err-map_err.field-0.0 ≡ errors.Io cause.0 = cause.1 in
    rw (given.1, given.2, is_io) (
      c.loop-left.invariant.0,
      chunk_is_there _ _ left,
      known.reported,
      known.asked,
      (_, c.loop-left.invariant.1, (many, known.read.1)),
    )

pub returns-then-should_interrupt-clause-err : goal.returns-then-should_interrupt-clause-err
returns-then-should_interrupt-clause-err g c =
    let known = c.loop-left.invariant.2 in
    let left : 65535 * c.loop-left.invariant.0 < c.args.num_bytes_from_start = omega arith in
    let taken = ok-kept _ _ _ c.map_err.ensures.variant c.in_ok-map_err.was c.read_exact.ensures.bytes in (
      c.loop-left.invariant.0,
      chunk_is_there _ _ left,
      heard-more _ _ _ _ _ _ _ left (omega arith) known.reported c.inc_by.ensures,
      Reaches-more _ _ _ _ _ _ known.asked (rw c.if-should_interrupt.true at c.should_interrupt.ensures),
      (
        c.loop-left.invariant.1 ++ c.read_exact.new.buf,
        (
          rw length-append (omega (arith, known.read.0, c.read_exact.auto.buf, length-take c.min-count.result c.loop-left.buf)),
          Consumes-trans _ _ _ _ _ known.read.1 taken,
        ),
      ),
    )

pub returns-clause-heard : goal.returns-clause-heard
returns-clause-heard g c =
    let known = c.loop-left.invariant.2 in
    let all : length (chunks c.args.num_bytes_from_start) ≡ c.loop-left.invariant.0 =
    omega (arith, chunks_end c.args.num_bytes_from_start c.loop-left.invariant.0 (omega arith)) in
    rw all (Reaches-more _ _ _ _ _ _ known.reported c.show_throughput.ensures)

pub returns-clause-asked : goal.returns-clause-asked
returns-clause-asked g c =
    let known = c.loop-left.invariant.2 in
    let all : length (chunks c.args.num_bytes_from_start) ≡ c.loop-left.invariant.0 =
    omega (arith, chunks_end c.args.num_bytes_from_start c.loop-left.invariant.0 (omega arith)) in
    rw all known.asked
