use Rattle.gix_hash.proofs.Std.{arith, rules, common_steps}
use Rattle.streams.proofs.chunks.next_chunk.Goals as goal

pub returns-clause-counted : goal.returns-clause-counted
returns-clause-counted g c = search rules

pub returns-clause-given : goal.returns-clause-given
returns-clause-given g c = grind (arith, common_steps)
