use Rattle.id_digits.proofs.Std.{rules}
use Rattle.gix_hash.proofs.prefix.Prefix.from_hex_in.Goals as goal

pub returns-clause-read : goal.returns-clause-read
returns-clause-read c = search rules

pub returns-clause-kind : goal.returns-clause-kind
returns-clause-kind c = search rules
