use Rattle.gix_hash.proofs.Std.{◌≡◌, ◌∙◌, ◌^◌, ◌<◌, false, length, sym, arith, rules, err_from_is_err_and, false≢true, get_or-replicate}
use Rattle.pack_index.specs.Format.{Each}
use Rattle.pack_index.specs.Lazy.{Rises, fan_out}
use Rattle.pack_index.proofs.Heads.{all_rise, begins, first_falls, head_fault, head_inside, tables_by_head}
use Rattle.pack_index.proofs.Layouts.{index_layout}
use Rattle.pack_index.proofs.lazy.LazyFile.open.Goals as goal

pub returns-in_err-read_exact_at-clause-err : goal.returns-in_err-read_exact_at-clause-err
returns-in_err-read_exact_at-clause-err g c =
    let failed = err_from_is_err_and c.from_residual-in_err-read_exact_at.result c.from_residual-in_err-read_exact_at.ensures.1 in
    rw (failed.1, failed.2) (λ bytes is.
    c.in_err-read_exact_at.ensures.err bytes is (omega (arith, c.in_ok-len.ensures.len bytes is, head_inside c.args.kind c.in_ok-len.len (omega (arith, c.if-len-len_in_bytes.false, c.len_in_bytes.ensures)))))

pub returns-in_err-check_head-clause-err : goal.returns-in_err-check_head-clause-err
returns-in_err-check_head-clause-err g c =
    let failed = err_from_is_err_and c.from_residual-in_err-check_head.result c.from_residual-in_err-check_head.ensures.1 in
    let long : length c.read_exact_at.new.buf ≡ 1032 = first_of (search rules, omega arith) in
    rw (failed.1, failed.2) (λ bytes is.
    head_fault bytes c.read_exact_at.new.buf (c.in_ok-read_exact_at.ensures.bytes bytes is) long c.args.kind c.in_ok-len.len (c.in_ok-len.ensures.len bytes is) _ c.in_err-check_head.ensures.err)

pub returns-in-Some-clause-err : goal.returns-in-Some-clause-err
returns-in-Some-clause-err g c =
    let head = c.read_exact_at.new.buf in
    let long : length head ≡ 1032 = first_of (search rules, omega arith) in
    λ bytes is.
    let front = c.in_ok-read_exact_at.ensures.bytes bytes is in
    let same = c.in_ok-len.ensures.len bytes is in (
      begins bytes head front long c.args.kind c.in_ok-len.len same c.in_ok-check_head.ensures.head,
      tables_by_head bytes head front long c.args.kind c.in_ok-len.len same c.in_ok-check_head.ensures.tables,
      first_falls bytes head front long c.in-Some.byte c.in-Some.ensures,
    )

pub returns-clause-head : goal.returns-clause-head
returns-clause-head g c =
    let long : length c.read_exact_at.new.buf ≡ 1032 = first_of (search rules, omega arith) in
    λ bytes is. begins bytes c.read_exact_at.new.buf (c.in_ok-read_exact_at.ensures.bytes bytes is) long c.args.kind c.in_ok-len.len (c.in_ok-len.ensures.len bytes is) c.in_ok-check_head.ensures.head

pub returns-clause-counts : goal.returns-clause-counts
returns-clause-counts g c =
    let long : length c.read_exact_at.new.buf ≡ 1032 = first_of (search rules, omega arith) in
    let rise : Each (Rises (fan_out c.read_exact_at.new.buf)) 256 = search rules in
    λ bytes is. all_rise bytes c.read_exact_at.new.buf (c.in_ok-read_exact_at.ensures.bytes bytes is) long rise

pub invariant_of-result : goal.invariant_of-result
invariant_of-result g c =
    let head = c.read_exact_at.new.buf in
    let long : length head ≡ 1032 = first_of (search rules, omega arith) in
    let rise : Each (Rises (fan_out head)) 256 = search rules in
    let room : c.in_ok-len.len < 2 ^ 64 = first_of (search rules, omega arith) in (
      rise,
      omega (arith, c.in_ok-check_head.ensures.tables.fits, room),
      λ bytes is.
          let front = c.in_ok-read_exact_at.ensures.bytes bytes is in
          let same = c.in_ok-len.ensures.len bytes is in
          let tables = tables_by_head bytes head front long c.args.kind c.in_ok-len.len same c.in_ok-check_head.ensures.tables in (
            index_layout c.args.kind bytes head front long tables _ (omega (arith, same, c.len_in_bytes-2.ensures)),
            λ k low set. absurd (false≢true (sym (get_or-replicate 256 k false false low) ∙ set)),
          ),
    )
