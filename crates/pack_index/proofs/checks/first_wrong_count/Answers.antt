use Rattle.gix_hash.proofs.Std.{below_more, sym, ◌∙◌, arith}
use Rattle.pack_index.proofs.checks.first_wrong_count.Goals as goal

pub loop-byte-preserved : goal.loop-byte-preserved
loop-byte-preserved c =
    below_more _ _ c.loop-byte.invariant (sym c.fan_out_entry.ensures ∙ c.if-fan_out_entry-up_to.false ∙ c.up_to.ensures.count _ c.requires.fan_out)

pub returns-else-fan_out_entry-up_to : goal.returns-else-fan_out_entry-up_to
returns-else-fan_out_entry-up_to c = λ b small.
    below_more _ _ c.loop-byte.invariant (sym c.fan_out_entry.ensures ∙ c.if-fan_out_entry-up_to.false ∙ c.up_to.ensures.count _ c.requires.fan_out) b (omega arith)
