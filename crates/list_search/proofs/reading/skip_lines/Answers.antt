use Rattle.gix_hash.proofs.Std.{refl, [], ◌*◌, ◌/◌, ◌-◌, ◌+◌, length, sym, ap, subst, ◌∙◌, arith, mul_comm}
use Rattle.list_search.proofs.SkippedLines.{none_skipped, skipped, whole_lines}
use Rattle.list_search.proofs.reading.skip_lines.Goals as goal
use Rattle.list_search.specs.SearchStates.{HasSkipped, Searches}

pub returns-then-has_begun_line-clause-searches : goal.returns-then-has_begun_line-clause-searches
returns-then-has_begun_line-clause-searches g c = none_skipped _ _ c.args.reader.now c.args.finder.now c.args.chunk.now c.requires.empty c.requires.count

pub returns-then-not-skip-clause-searches : goal.returns-then-not-skip-clause-searches
returns-then-not-skip-clause-searches g c =
    subst (λ finder. Searches c.args.query.now.search c.args.query.now.prefix.digits c.args.reader.now c.args.reader.now c.args.finder.now finder []) (sym (c.skip.ensures.none c.if-not-skip.true))
    (none_skipped _ _ c.args.reader.now c.args.finder.now c.args.chunk.now c.requires.empty c.requires.count)

pub returns-clause-searches : goal.returns-clause-searches
returns-clause-searches g c =
    let chunk = c.args.chunk.now in
    let size = g.row.LINE in
    let k = length chunk / size in
    let many = c.as_chunks.ensures.front_len in
    skipped _ _ size c.args.reader.now c.skip-2.new.self c.args.finder.now c.skip.new.self chunk k (size * length c.as_chunks.result.0.now)
    (subst (λ lines. HasSkipped c.args.query.now.search c.args.query.now.prefix.digits (size - 1) lines c.args.finder.now c.skip.new.self) c.as_chunks.ensures.front (c.skip.ensures.skipped c.if-not-skip.false))
    (whole_lines size (length chunk) c.requires.line) (mul_comm size _ ∙ ap (λ n. n * size) many) (c.if-has_begun_line.ensures.0 refl)
    c.requires.empty c.requires.count (c.skip-2.ensures.dropped ∙ ap (λ n. c.args.reader.now.dropped + n) many) c.skip-2.ensures.ids c.skip-2.ensures.line c.skip-2.ensures.len

pub returns-clause-within : goal.returns-clause-within
returns-clause-within g c =
    let room = whole_lines g.row.LINE (length c.args.chunk.now) c.requires.line in
    omega (arith, mul_comm g.row.LINE (length c.as_chunks.result.0.now), ap (λ n. n * g.row.LINE) c.as_chunks.ensures.front_len, room.within)
