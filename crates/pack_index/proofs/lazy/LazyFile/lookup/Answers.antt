use Rattle.gix_hash.proofs.Std.{◌+◌, None, Some, arith}
use Rattle.id_lookup.specs.Words.{oid_digits}
use Rattle.pack_index.proofs.LookedUp.{found_counted, found_whole, name_is}
use Rattle.pack_index.proofs.lazy.LazyFile.lookup.Goals as goal

pub returns-in-Some-clause-id : goal.returns-in-Some-clause-id
returns-in-Some-clause-id g c = λ tables is.
    rw c.start.ensures ((name_is tables (oid_digits c.args.id) (c.args.bucket.now.start + c.in-Some.at)
    (found_counted tables c.args.bucket.now (oid_digits c.args.id) (c.requires.known tables is) (Some c.in-Some.at) c.in-Some.ensures)).1)

pub returns-in-Some-clause-found : goal.returns-in-Some-clause-found
returns-in-Some-clause-found g c = λ tables is counts.
    rw c.start.ensures (found_whole tables c.args.bucket.now (oid_digits c.args.id) (c.requires.known tables is) (Some c.in-Some.at) c.in-Some.ensures counts
    (omega (arith, c.first_byte-byte.ensures, c.first_byte-byte.type_inv)))

pub returns-in-None-clause-found : goal.returns-in-None-clause-found
returns-in-None-clause-found g c = λ tables is counts.
    found_whole tables c.args.bucket.now (oid_digits c.args.id) (c.requires.known tables is) None c.in-None.ensures counts
    (omega (arith, c.first_byte-byte.ensures, c.first_byte-byte.type_inv))

pub returns-in-Some-clause-counted : goal.returns-in-Some-clause-counted
returns-in-Some-clause-counted g c = λ tables is.
    rw c.start.ensures (found_counted tables c.args.bucket.now (oid_digits c.args.id) (c.requires.known tables is) (Some c.in-Some.at) c.in-Some.ensures)

pub returns-in-None-clause-counted : goal.returns-in-None-clause-counted
returns-in-None-clause-counted g c = λ tables is.
    found_counted tables c.args.bucket.now (oid_digits c.args.id) (c.requires.known tables is) None c.in-None.ensures
