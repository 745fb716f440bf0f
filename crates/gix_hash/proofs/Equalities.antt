-- Equality of ids and of prefixes is that of their kinds and digits.
use Rattle.id_digits.proofs.Std.{◌≡◌, ◌↔◌, ℕ, ◌&&◌, List, refl, sym, ap, ◌∙◌, eqb-true, IsTrue, Contains, nat_eq, list_any, list_any-from_Any, pointwise, bytes_decides, and_parts, eq-eqb}
use Rattle.std.proofs.lemmas.Map.Views.{Contains-from_any}
use Rattle.gix_hash.specs.Kinds.{number_of, kind_by_number}
use Rattle.gix_hash.specs.Ids.{id_digits, id_eq, id_kind, oid_digits, oid_eq}
use Rattle.gix_hash.specs.Prefixes.{KindDigits, prefix_eq}
use Rattle.gix_hash.specs.PrefixBytes.{packed_digits, id_of, id_of-parts}
use Rattle.gix_hash.specs.declared.borrowed.oid.{oid}
use Rattle.gix_hash.specs.declared.kind.Kind.{Kind}
use Rattle.gix_hash.specs.declared.object_id.ObjectId.{ObjectId}

-- two tests, of kinds by their numbers and of digits, hold if and only if both are equal
pub both_equal : (k l : Kind) (ds es : List ℕ)
    → IsTrue (nat_eq (number_of k) (number_of l) && pointwise nat_eq ds es) ↔ ((k ≡ l) × (ds ≡ es))
both_equal k l ds es = (
  λ h. (let parts = and_parts (nat_eq (number_of k) (number_of l)) (pointwise nat_eq ds es) h in
      (kind_by_number k l (eqb-true (number_of k) (number_of l) parts.0), (bytes_decides ds es).0 parts.1)),
  λ h. (let kinds = eq-eqb (number_of k) (number_of l) (ap number_of h.0) in
      let digits = (bytes_decides ds es).1 h.1 in
      λ i. kinds i && digits i),
)

-- `==` of owned ids
pub id_eq-parts : (a b : ObjectId) → IsTrue (id_eq a b) ↔ ((id_kind a ≡ id_kind b) × (id_digits a ≡ id_digits b))
id_eq-parts a b = both_equal (id_kind a) (id_kind b) (id_digits a) (id_digits b)

-- `==` of borrowed ids
pub oid_eq-digits : (a b : oid) → IsTrue (oid_eq a b) ↔ (oid_digits a ≡ oid_digits b)
oid_eq-digits a b = bytes_decides (oid_digits a) (oid_digits b)

-- `==` of prefixes
pub prefix_eq-parts : (a b : KindDigits) → IsTrue (prefix_eq a b) ↔ ((a.kind ≡ b.kind) × (a.digits ≡ b.digits))
prefix_eq-parts a b = both_equal a.kind b.kind a.digits b.digits

-- owned ids with the same kind and digits are the same
pub same_id : (a b : ObjectId) → id_kind a ≡ id_kind b → id_digits a ≡ id_digits b → a ≡ b
same_id a b kinds digits = sym (id_of-parts a) ∙ (λ i. id_of (kinds i) (packed_digits (digits i))) ∙ id_of-parts b

-- and so owned ids are equal if and only if they are the same
pub id_eq-same : (a b : ObjectId) → IsTrue (id_eq a b) ↔ (a ≡ b)
id_eq-same a b = (
  λ h. (let parts = (id_eq-parts a b).0 h in same_id a b parts.0 parts.1),
  λ h. (id_eq-parts a b).1 (ap id_kind h, ap id_digits h),
)

-- a list of ids contains an equal one if and only if it contains the id itself
pub Contains-id_eq : (ids : List ObjectId) (id : ObjectId) → IsTrue (list_any (id_eq id) ids) ↔ Contains ids id
Contains-id_eq ids id = (
  Contains-from_any (λ a b. (id_eq-same a b).0) id ids,
  λ h. list_any-from_Any (id_eq id) ids (h.0, id, h.1, h.2, (id_eq-same id id).1 refl),
)
