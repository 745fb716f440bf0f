use Rattle.gix_hash.proofs.Std.{◌∙◌, sym, err_from_is_err_and}
use Rattle.id_lookup.proofs.Beginnings.{first_byte_of-begins}
use Rattle.object_store.proofs.PartIds.{parts_for_more}
use Rattle.object_store.proofs.parts.Parts.take_part.Goals as goal

pub returns-then-begins_with-clause-kept : goal.returns-then-begins_with-clause-kept
returns-then-begins_with-clause-kept g c =
    let last = c.in-Some.last in
    rw (← c.self.view_is) (c.self.invariant.0 last (sym c.take.ensures.value ∙ c.in-Some.is))

pub returns-then-begins_with-clause-read : goal.returns-then-begins_with-clause-read
returns-then-begins_with-clause-read g c =
    let last = c.in-Some.last in
    parts_for_more (g.S.Store.view c.args.self.now.now) last.prefix.digits c.args.prefix.now.digits last.buckets.items (c.begins_with.ensures c.if-begins_with.true)
    (returns-then-begins_with-clause-kept g c)

pub returns-in_err-read_parts-clause-err : goal.returns-in_err-read_parts-clause-err
returns-in_err-read_parts-clause-err g c =
    let p = err_from_is_err_and c.from_residual.result c.from_residual.ensures.1 in
    let byte = first_byte_of-begins c.args.prefix.now.digits c.prefix_to_read-read.result.digits c.prefix_to_read-read.ensures.enough c.prefix_to_read-read.ensures.begins in
    rw (p.1, p.2, byte, ← c.self.view_is) c.in_err-read_parts.ensures.err

pub invariant_of-self-2 : goal.invariant_of-self-2
invariant_of-self-2 g c = (
  λ part is. absurd (let none = c.take.ensures.after in cc),
  λ front is. rw c.read_parts.ensures.same (c.self.invariant.1 front is),
)

pub returns-clause-read : goal.returns-clause-read
returns-clause-read g c =
    parts_for_more (g.S.Store.view c.args.self.now.now) c.prefix_to_read-read.result.digits c.args.prefix.now.digits c.in_ok-read_parts.field-0.items c.prefix_to_read-read.ensures.begins
    (rw (← c.self.view_is) c.in_ok-read_parts.ensures.read)
