use Rattle.id_digits.proofs.Std.{◌≡◌, [], ◌∷◌, ◌++◌, codes, refl}
use Rattle.sha1.specs.Sha1 as fips1
use Rattle.sha2.specs.Sha256 as fips256
use Rattle.id_digits.specs.Digits.{digit_below, digits_of}
use Rattle.gix_hash.specs.Ids.{empty_blob_digits, empty_tree_digits, id_digits}
use Rattle.gix_hash.specs.declared.kind.Kind.{Kind}
use Rattle.gix_hash.specs.declared.kind.Kind.TheVariants.{Sha1, Sha256}
use Rattle.gix_hash.specs.Hashing.{digest}
use Rattle.gix_hash.proofs.hashing_laws.well_known_ids.Goals as goal

-- the digests are computed
computed : (kind : Kind)
    → (id_digits (digest kind (codes "blob 0" ++ 0 ∷ [])) ≡ empty_blob_digits kind) × (id_digits (digest kind (codes "tree 0" ++ 0 ∷ [])) ≡ empty_tree_digits kind)
unfolding fips1.first_words fips1.schedule fips1.rounds fips1.compress fips1.hash_after fips1.digest_bytes fips1.sha1
    fips256.first_words fips256.schedule fips256.rounds fips256.compress fips256.hash_after fips256.digest_bytes fips256.sha256 digits_of digit_below
computed Sha1 = (refl, refl)
computed Sha256 = (refl, refl)

pub returns-clause-blob : goal.returns-clause-blob
returns-clause-blob c = (computed c.args.kind).0

pub returns-clause-tree : goal.returns-clause-tree
returns-clause-tree c = (computed c.args.kind).1
