use Rattle.gix_hash.proofs.Std.{arith}
use Rattle.id_lookup.proofs.Binary.{bits-above, bits-least, bits-half, bits-leading}
use Rattle.id_lookup.proofs.search.bits_of.Goals as goal

pub returns-clause-value : goal.returns-clause-value
returns-clause-value c = let left = bits-leading c.args.n (omega arith) in omega arith

pub returns-clause-above : goal.returns-clause-above
returns-clause-above c = bits-above c.args.n

pub returns-clause-least : goal.returns-clause-least
returns-clause-least c = bits-least c.args.n

pub returns-clause-half : goal.returns-clause-half
returns-clause-half c m some half = bits-half c.args.n m some (omega arith)
