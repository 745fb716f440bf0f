use Rattle.id_digits.proofs.Std.{sym, subst}
use Rattle.gix_hash.specs.Hashing.{AreChunks}
use Rattle.gix_hash.proofs.OnlyChunks.{AreChunks-chunks, chunks-unique}
use Rattle.gix_hash.proofs.hashing_laws.only_chunks.Goals as goal

pub returns : goal.returns
returns c lens = (λ same. subst (AreChunks c.args.num_bytes) (sym same) (AreChunks-chunks c.args.num_bytes), chunks-unique c.args.num_bytes lens)
