use Rattle.gix_hash.proofs.Std.{◌≤◌, length, subst, arith}
use Rattle.id_lookup.specs.Words.{Sha1, Sha256, hex_len_of}
use Rattle.pack_index.proofs.Counted.{digests_in-reach}
use Rattle.gix_hash_c.proofs.Runs.{found_in}
use Rattle.gix_hash_c.proofs.look_up.find_in.Goals as goal

pub find_assuming_sorted_near-run-requires : goal.find_assuming_sorted_near-run-requires
find_assuming_sorted_near-run-requires c =
    let most = subst (λ kind. length c.args.prefix.now.digits ≤ hex_len_of kind) c.in-Sha1.is c.requires in
    rw c.as_chunks.ensures.front (omega (arith, most, digests_in-reach Sha1 c.args.table.now))

pub find_assuming_sorted_near-run-requires-in-Sha256 : goal.find_assuming_sorted_near-run-requires-in-Sha256
find_assuming_sorted_near-run-requires-in-Sha256 c =
    let most = subst (λ kind. length c.args.prefix.now.digits ≤ hex_len_of kind) c.in-Sha256.is c.requires in
    rw c.as_chunks-in-Sha256.ensures.front (omega (arith, most, digests_in-reach Sha256 c.args.table.now))

pub returns-in-Sha1 : goal.returns-in-Sha1
returns-in-Sha1 c =
    let run = c.find_assuming_sorted_near-run.ensures in
    rw (c.in-Sha1.is, ← c.as_chunks.ensures.front) (found_in c.args.prefix.now _ _ run.in_order run.in_range run.run)

pub returns-in-Sha256 : goal.returns-in-Sha256
returns-in-Sha256 c =
    let run = c.find_assuming_sorted_near-run-in-Sha256.ensures in
    rw (c.in-Sha256.is, ← c.as_chunks-in-Sha256.ensures.front) (found_in c.args.prefix.now _ _ run.in_order run.in_range run.run)
