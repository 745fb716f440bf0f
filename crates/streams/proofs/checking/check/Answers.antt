use Rattle.gix_hash.proofs.Std.{◌≡◌, ◌+◌, ◌-◌, ◌≤◌, ◌++◌, List, ℕ, length, take, sym, ap, subst, ◌∙◌, arith, min, length-take}
use Rattle.std.proofs.lemmas.Slice.{take-put_mid_below}
use borrow.Rule.Slice.PartMut.{put_mid}
use Rattle.streams.specs.Streams.{HasReadCounted}
use Rattle.streams.proofs.SealedLemmas.{all-held, length-held, length-read, fed_and_held, held_again}
use Rattle.streams.proofs.checking.check.Goals as goal

pub returns-then-len-eq0-clause-checked : goal.returns-then-len-eq0-clause-checked
returns-then-len-eq0-clause-checked g c =
    let message = c.chunks.invariant.0 in
    let before = c.chunks.invariant.1 in
    let buf = c.chunks.buf in
    let held = c.chunks.held in
    let room : held ≤ length buf = omega (arith, before.held) in
    let kept = take-put_mid_below held (held + 65536 - held) buf c.next_chunk.new.buf held (omega arith) room in
    let all = all-held message (take held buf) c.chunks.total held before.counted before.held (omega (arith, length-take held buf)) in
    let ending = c.ending_of-ending.ensures message before.kind before.fed (rw kept all) in (
      message ++ take held buf,
      c.in_ok-len.ensures.end c.if-len-eq0.true _ _ before.given,
      rw kept at (c.or_else.ensures c.args.kind message ending before.too (rw kept all)),
    )

pub chunks-preserved : goal.chunks-preserved
chunks-preserved g c =
    let message = c.chunks.invariant.0 in
    let before = c.chunks.invariant.1 in
    let buf = c.chunks.buf in
    let held = c.chunks.held in
    let len = c.in_ok-len.len in
    let chunk = c.next_chunk.new.buf in
    let fed = c.saturating_sub-fed.result in
    let within = c.in_ok-len.ensures.bound in
    let room : held ≤ length buf = omega (arith, before.held) in
    let is_fed : fed ≡ held + len - 32 = omega (arith, c.saturating_sub-fed.ensures) in
    let ordered : fed ≤ held + len = omega arith in
    let all = put_mid held (held + 65536 - held) buf chunk in
    let long = length-read held (held + 65536 - held) len buf chunk room within in
    let same = fed_and_held message buf chunk held (held + 65536 - held) len fed room within ordered in (
      message ++ take fed all,
      record {
        counted = omega (arith, length-held message all fed (omega (arith, ordered, long)), before.counted, ordered, c.in_ok-len.ensures.counted.0);
        held = held_again 32 c.chunks.total held len fed before.held is_fed ∙ ap (min _) (sym c.in_ok-len.ensures.counted.0);
        reads = c.in_ok-len.ensures.not_failed;
        kind = c.update.ensures.kind ∙ before.kind;
        fed = c.update.ensures.fed message before.fed;
        too = c.update-in-chunks.ensures c.args.other message before.too;
        given = rw c.copy_within.ensures.after (subst (λ (bytes : List ℕ). HasReadCounted (g.R.Source.remaining c.args.input.now) (g.R.Source.remaining c.next_chunk.new.input) bytes c.next_chunk.new.total) (sym same) (c.in_ok-len.ensures.given _ _ before.given));
      },
    )
