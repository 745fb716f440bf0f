use Rattle.object_store.proofs.Prefixes.{begins_whole}
use Rattle.object_store.proofs.parts.prefix_to_read.Goals as goal

pub returns-then-hex_len-eq2-clause-begins : goal.returns-then-hex_len-eq2-clause-begins
returns-then-hex_len-eq2-clause-begins g c = begins_whole c.args.prefix.now.digits

pub returns-then-reads_part-clause-begins : goal.returns-then-reads_part-clause-begins
returns-then-reads_part-clause-begins g c = begins_whole c.args.prefix.now.digits
