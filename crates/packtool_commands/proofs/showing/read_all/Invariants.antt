use Rattle.gix_hash.proofs.Std.{◌≡◌, ◌-◌, ◌^◌, false, vec_len, Consumes}
use Rattle.packtool_commands.proofs.showing.read_all.Given as goal

abbrev pub invariant-chunks : goal.invariant-chunks
invariant-chunks g l =
    Consumes (g.R.Source.remaining l.fn.input) (g.R.Source.remaining l.input) l.text.items × (g.R.Source.has_failed l.input ≡ false)

abbrev pub decreases-chunks : goal.decreases-chunks
decreases-chunks g l = 2 ^ 64 - vec_len l.text
