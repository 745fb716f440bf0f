-- Lists that are sorted by an order of their ids, in words of the ids' digits.
use Rattle.gix_hash.proofs.Std.{◌≡◌, ◌+◌, ◌<◌, Bool, List, [], ◌∷◌, length, get_or, map, sym, ap, ◌∙◌, arith, All, IsSortedBy, IsStrictlySortedBy, get_or-map, length-map, Less-from_sorted}
use Rattle.gix_hash.specs.Words.{hex_len_of, id_cmp, id_digits, id_kind}
use Rattle.gix_hash.specs.declared.Kind.{Kind}
use Rattle.gix_hash.specs.declared.ObjectId.{ObjectId}
use Rattle.gix_hash.specs.declared.ObjectId.TheVariants.{Sha1}
use Rattle.id_lookup.specs.Indexes.{IsIndex}
use Rattle.gix_hash.proofs.SpellingLaws.{id_cmp-digits}
use Rattle.id_lookup.proofs.Indexes.{same_kind}

-- a list that is sorted by a test of what f gives is mapped to a sorted one
pub sorted-map : {X Y : Type 0} (f : X → Y) (lt : Y → Y → Bool) (xs : List X) → IsSortedBy (λ a b. lt (f a) (f b)) xs → IsSortedBy lt (map f xs)
sorted-map f lt [] sorted k d low high = absurd (omega arith)
sorted-map f lt (x ∷ xs) sorted k d low high =
    let inside : k + 1 < length (x ∷ xs) = omega (arith, high, length-map (x ∷ xs) f) in
    let here = get_or-map f (x ∷ xs) k x d (omega arith) in
    let next = get_or-map f (x ∷ xs) (k + 1) x d inside in
    rw (here, next) (sorted k x low inside)

module _ (kind : Kind) (ids : List ObjectId) (long : All (λ id. length (id_digits id) ≡ hex_len_of (id_kind id)) ids) where
  -- strictly sorted ids of one kind are an index
  pub index-of_kind : IsStrictlySortedBy id_cmp ids → All (λ id. id_kind id ≡ kind) ids → IsIndex kind (map id_digits ids)
  index-of_kind strict of_kind =
      record {
        kinds = λ k d low high.
            let inside : k < length ids = omega (arith, high, length-map ids id_digits) in
            ap length (get_or-map id_digits ids k (Sha1 []) d inside) ∙ long k (Sha1 []) inside ∙ ap hex_len_of (of_kind k (Sha1 []) inside);
        rises = λ k d high.
            let inside : k + 1 < length ids = omega (arith, high, length-map ids id_digits) in
            let here = get_or-map id_digits ids k (Sha1 []) d (omega arith) in
            let next = get_or-map id_digits ids (k + 1) (Sha1 []) d inside in
            rw (here, next) (sym (id_cmp-digits _ _ (of_kind k (Sha1 []) (omega arith) ∙ sym (of_kind (k + 1) (Sha1 []) inside)))
            ∙ Less-from_sorted id_cmp ids k (k + 1) (Sha1 []) strict (omega arith) inside);
      }

  -- the ids of an index are of its kind
  pub kind-of_index : IsIndex kind (map id_digits ids) → All (λ id. id_kind id ≡ kind) ids
  kind-of_index index k d inside =
      same_kind (id_kind (get_or ids k d)) kind
      (sym (long k d inside) ∙ ap length (sym (get_or-map id_digits ids k d [] inside)) ∙ index.kinds k [] (omega arith) (omega (arith, length-map ids id_digits)))
