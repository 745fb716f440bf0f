use Rattle.gix_hash.proofs.Std.{◌≡◌, ◌+◌, ◌-◌, take, drop, ap, arith}
use Rattle.list_search.proofs.ChunkLemmas.{line_taken, id_found}
use Rattle.list_search.proofs.list_reader.id_line_at.Goals as goal

pub returns-in-Some : goal.returns-in-Some
returns-in-Some c =
    let chunk = c.args.chunk.now in
    let at = c.args.at in
    let digits = c.len_in_hex-digits.result in
    let size : at + digits - at ≡ digits = omega arith in
    line_taken chunk _ at digits _ c.in-Some.id (omega arith) (omega arith) (ap (λ k. take k (drop at chunk)) size) (omega arith)
    (id_found _ _ c.in-Some.ensures)
