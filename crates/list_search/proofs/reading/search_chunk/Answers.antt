use Rattle.gix_hash.proofs.Std.{◌+◌, ◌-◌, ◌++◌, [], length, take, drop, ap, ◌∙◌, take-append-drop, append-nil, err_from_is_err_and, on_ok_weaker, IfErr-weaker}
use Rattle.list_search.proofs.SkippedLines.{none_skipped, searches_on, searches_more, refused_after, two_parts}
use Rattle.list_search.proofs.reading.search_chunk.Goals as goal

pub returns : goal.returns
returns g c =
    let chunk = c.args.chunk.now in
    let middle = c.rest_of_line-start.result + c.skip_lines.result in
    let end = middle + c.skip_lines-end.result in
    let rest = take (length chunk - end) (drop end chunk) in
    let first = searches_on c.args.query.now.search c.args.query.now.prefix.digits _ _ _ _ _ _ chunk c.rest_of_line-start.result c.skip_lines.result c.in_ok-read_chunk.ensures.ok c.skip_lines.ensures.searches in
    let second = searches_on c.args.query.now.search c.args.query.now.prefix.digits _ _ _ _ _ _ chunk middle c.skip_lines-end.result first c.skip_lines-end.ensures.searches in
    record {
      ok = on_ok_weaker c.read_chunk-2.result (λ last. searches_more c.args.query.now.search c.args.query.now.prefix.digits _ _ _ _ _ _ (take end chunk) rest chunk second last (two_parts chunk end)) c.read_chunk-2.ensures.ok;
      err = IfErr-weaker c.read_chunk-2.result _ _ (λ e refused. refused_after c.args.query.now.search c.args.query.now.prefix.digits _ _ _ _ (take end chunk) rest [] chunk e second refused
          (ap (λ l. take end chunk ++ l) (append-nil rest) ∙ two_parts chunk end)) c.read_chunk-2.ensures.err;
    }

pub returns-in_err-read_chunk-clause-err : goal.returns-in_err-read_chunk-clause-err
returns-in_err-read_chunk-clause-err g c =
    let p = err_from_is_err_and c.from_residual.result c.from_residual.ensures.1 in
    let start = c.rest_of_line-start.result in
    rw (p.1, p.2) (refused_after _ _ _ _ _ _ [] _ (drop start c.args.chunk.now) c.args.chunk.now _ (none_skipped _ _ _ _ [] c.requires.empty c.requires.count)
    c.in_err-read_chunk.ensures.err (take-append-drop start c.args.chunk.now))
