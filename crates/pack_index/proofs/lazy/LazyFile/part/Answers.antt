use Rattle.gix_hash.proofs.Std.{◌≡◌, ◌∙◌, ℕ, Bool, List, Some, true, false, inl, inr, get_or, option_map, sym, ap, subst, arith, IsTrue, cases_lt, err_from_is_err_and, get_or-set_other, slice_set, IfErr-weaker}
use Rattle.std.proofs.lemmas.Result.{IfOk-weaker}
use Rattle.std.specs.Option.{ForSome}
use Rattle.pack_index.specs.Format.{Each}
use Rattle.pack_index.specs.Lazy.{AreWithin, IsOrdered, LazyIndex, bucket_start, seen, tables_of}
use Rattle.pack_index.proofs.Buckets.{bucket_fault, part_fault}
use Rattle.pack_index.proofs.Known.{by_bytes}
use Rattle.pack_index.proofs.Parts.{IsNarrowed, narrowed_part, whole_ordered, whole_part}
use Rattle.pack_index.proofs.lazy.LazyFile.part.Given.{Over}
use Rattle.pack_index.proofs.lazy.LazyFile.part.Goals.{After-read_run, then-is_sorted, else-is_sorted}
use Rattle.pack_index.proofs.lazy.LazyFile.part.Goals as goal

-- the positions that were found are a part of the bucket
module _ (g : Over) (c : After-read_run g) where
  narrowed : ForSome (seen c.args.self.now).tables (λ tables. IsNarrowed tables c.args.prefix.now.digits c.in_ok-part.part)
  narrowed tables known =
      let self = c.args.self.now in
      let part = c.in_ok-part.part in
      let found = c.in_ok-part.ensures in
      let run = c.run_of-run.result in
      let within : ForSome (seen self).tables (λ tables. AreWithin tables.ids c.args.prefix.now.digits run.start run.end part.start part.end) =
      by_bytes self.kind self.layout _ _ (λ bytes is.
      subst (λ (ids : List (List ℕ)). AreWithin ids c.args.prefix.now.digits run.start run.end part.start part.end) (c.ids.ensures.ids bytes is)
      (found.all bytes (rw (← c.self.view_is) at is))) in
      let start = c.run_of-run.ensures.start tables known ∙ ap (bucket_start tables.up_to) c.first_byte-byte.ensures in
      let end = c.run_of-run.ensures.end tables known ∙ ap tables.up_to c.first_byte-byte.ensures in record {
        from = omega (arith, start, found.from);
        to = omega (arith, end, found.to);
        all = rw (← start, ← end) (within tables known);
      }

pub returns-then-reads_part-clause-part : goal.returns-then-reads_part-clause-part
returns-then-reads_part-clause-part g c =
    let here = (goal.at.returns-then-reads_part-clause-part g c).After-read_run in
    let part = c.in_ok-part in
    let byte = c.first_byte-byte.ensures in
    IfOk-weaker c.read_run.result _ _
    (λ read are.
    narrowed_part (seen c.args.self.now) c.args.prefix.now.digits part.part.start part.part.end read (rw (← byte) are)
    (omega (arith, part.ensures.to, c.run_of-run.ensures.inside)) c.requires.enough (rw (← byte) c.first_byte-byte.type_inv)
    (rw (← byte) (c.reads_part.ensures c.if-reads_part.true)) (narrowed g here)) c.read_run.ensures.ids

pub returns-then-reads_part-clause-err : goal.returns-then-reads_part-clause-err
returns-then-reads_part-clause-err g c =
    let here = (goal.at.returns-then-reads_part-clause-err g c).After-read_run in
    let part = c.in_ok-part in
    let byte = c.first_byte-byte.ensures in
    rw (← byte)
    (IfErr-weaker c.read_run.result _ _
    (λ e fault tables known.
    let within = narrowed g here tables known in
    part_fault c.args.self.now.can_fail tables c.first_byte-byte.result part.part.start part.part.end e (c.reads_part.ensures c.if-reads_part.true tables known).right
    (omega (arith, within.from, ap (bucket_start tables.up_to) byte)) part.ensures.in_order (omega (arith, within.to, ap tables.up_to byte)) (fault tables known)) c.read_run.ensures.err)

pub returns-in_err-bucket-clause-err : goal.returns-in_err-bucket-clause-err
returns-in_err-bucket-clause-err g c =
    let failed = err_from_is_err_and c.from_residual-in_err-bucket.result c.from_residual-in_err-bucket.ensures.1 in
    let run = c.run_of-run.ensures in
    let byte = c.first_byte-byte.ensures in
    rw (failed.1, failed.2, ← byte) (λ tables known.
    bucket_fault c.args.self.now.can_fail tables c.first_byte-byte.result c.run_of-run.result.start c.run_of-run.result.end _ c.first_byte-byte.type_inv run.in_order
    (run.ids tables known) (run.start tables known) (run.end tables known) (c.in_err-bucket.ensures.err tables known))

pub returns-clause-part : goal.returns-clause-part
returns-clause-part g c =
    let run = c.run_of-run in
    let byte = c.first_byte-byte.ensures in
    whole_part (seen c.args.self.now) c.args.prefix.now.digits run.result.start run.result.end c.in_ok-bucket.bucket (rw (← byte) c.in_ok-bucket.ensures.ids)
    run.ensures.inside c.requires.enough (rw (← byte) c.first_byte-byte.type_inv) (rw (← byte) run.ensures.start) (rw (← byte) run.ensures.end) run.ensures.ids

-- one flag more
noted : (P : ℕ → Type 0) (flags : List Bool) (n : ℕ) → P n → Each (λ k. IsTrue (get_or flags k false) → P k) 256
    → Each (λ k. IsTrue (get_or (slice_set flags n true) k false) → P k) 256
noted P flags n new each k low is =
    elim (cases_lt k n) [
      | inl less ↦ each k low (sym (get_or-set_other flags n k true false (λ e. omega (arith, e, less))) ∙ is)
      | inr up ↦ elim (cases_lt n k) [
        | inl less ↦ each k low (sym (get_or-set_other flags n k true false (λ e. omega (arith, e, less))) ∙ is)
        | inr down ↦ let same : n ≡ k = omega (arith, up, down) in subst P same new
      ]
    ]

pub invariant_of-self : goal.invariant_of-self
invariant_of-self g c =
    let run = c.run_of-run.ensures in
    elim c.if-is_sorted.branch [
      | then-is_sorted w ↦ rw (w.self-inside-is) (
        c.self.invariant.0,
        c.self.invariant.1,
        λ bytes is.
            let inv = c.self.invariant.2 bytes is in
            let tables = tables_of c.self.inside.kind c.self.inside.layout bytes in
            let known : (seen c.args.self.now).tables ≡ Some tables =
            sym (ap (λ (f : LazyIndex). (seen f).tables) c.self.view_is) ∙ ap (option_map (tables_of c.self.inside.kind c.self.inside.layout)) is in
            let ordered = whole_ordered (seen c.args.self.now) c.first_byte-byte.result c.run_of-run.result.start c.run_of-run.result.end c.in_ok-bucket.bucket
            c.in_ok-bucket.ensures.ids tables known (run.start tables known) (run.end tables known) (run.ids tables known) (c.is_sorted.ensures w.if-is_sorted.true) in
            (inv.0, noted (IsOrdered tables) c.self.inside.ordered w.from.result (rw w.from.ensures ordered) inv.1),
      )
      | else-is_sorted w ↦ rw (w.self-inside-is) c.self.invariant
    ]
