use Rattle.id_digits.proofs.Std.{[]}
use Rattle.gix_hash.proofs.Accepted.{WritesAndFeeds-accepted}
use Rattle.gix_hash.proofs.hashing_laws.hashes_what_was_accepted.Goals as goal

pub returns-clause-together : goal.returns-clause-together
returns-clause-together g c calls reached = WritesAndFeeds-accepted g.T.Write.contents _ _ calls reached

pub returns-clause-fresh : goal.returns-clause-fresh
returns-clause-fresh g c calls reached empty = (WritesAndFeeds-accepted g.T.Write.contents _ _ calls reached).fed [] empty
