use Rattle.id_lookup.specs.Words.{Sha1, Sha256}
use Rattle.pack_index.proofs.Buckets.{have_first}
use Rattle.pack_index.proofs.lazy.have_first_byte.Goals as goal

pub returns-in-Sha1 : goal.returns-in-Sha1
returns-in-Sha1 c = rw c.in-Sha1.is (have_first Sha1 c.args.byte c.args.bytes.now _ _ c.as_chunks.ensures.front c.all_have_first_byte.ensures)

pub returns-in-Sha256 : goal.returns-in-Sha256
returns-in-Sha256 c =
    rw c.in-Sha256.is (have_first Sha256 c.args.byte c.args.bytes.now _ _ c.as_chunks-in-Sha256.ensures.front c.all_have_first_byte-in-Sha256.ensures)
