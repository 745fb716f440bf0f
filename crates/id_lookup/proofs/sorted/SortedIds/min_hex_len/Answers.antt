use Rattle.id_lookup.proofs.Least.{least_hex_len-le}
use Rattle.id_lookup.proofs.sorted.SortedIds.min_hex_len.Goals as goal

pub returns-clause-members : goal.returns-clause-members
returns-clause-members g c = least_hex_len-le c.args.self.now
