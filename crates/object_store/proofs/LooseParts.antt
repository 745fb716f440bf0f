-- Where ids are in an index.
use Rattle.gix_hash.proofs.Std.{◌≡◌, ℕ, suc, ◌∷◌, ◌<◌, ◌≤◌, inl, inr, Bool, true, not, nat_eq, List, [], ◌++◌, length, get_or, map, refl, sym, ap, subst, ◌∙◌, arith, append-nil, ◌↔◌, Decides, IsTrue, bytes_eq, bytes_decides, All, Contains, list_any, starts_with, cases_lt, eq-eqb, false≢true, ne_eqb, same_from_decides, length-append, length-map, nil_from_length, All-contains, All-from_all_within, Contains-get_or, Any-from_list_any, list_any-from_Any}
use Rattle.id_lookup.specs.Words.{IsIndex, Kind, ObjectId, Sha1, Sha256, hex_len_of, id_digits, least_hex_len, matches}
use Rattle.id_lookup.proofs.Filters.{contains_had, contains_kept, kept_passes}
use Rattle.id_lookup.proofs.Spelled.{starts_with-BeginsWith}

least_of : (n : ℕ) (ids : List (List ℕ)) → n ≤ 64 → All (λ (id : List ℕ). length id ≡ n) ids → n ≤ least_hex_len ids
least_of n [] most each = most
least_of n (id ∷ ids) most each =
    let one : length id ≡ n = each 0 id (omega arith) in
    let rest = least_of n ids most (λ k d low. each (suc k) d (omega (arith, low))) in
    omega (arith, one, rest)

most_len : (kind : Kind) → hex_len_of kind ≤ 64
most_len Sha1 = omega arith
most_len Sha256 = omega arith

module _ (kind : Kind) (ids : List (List ℕ)) (index : IsIndex kind ids) where
  abbrev IsLong : List ℕ → Type 0
  IsLong id = length id ≡ hex_len_of kind

  lengths : All IsLong ids
  lengths = All-from_all_within IsLong ids index.kinds

  -- each id of an index has as many digits as its kind
  pub index_least : hex_len_of kind ≤ least_hex_len ids
  index_least = least_of (hex_len_of kind) ids (most_len kind) lengths

  -- so an id is one of them if and only if one of them begins with all of its digits
  module _ (digits : List ℕ) (found : List ObjectId) (n : ℕ) (empty : Bool) (are : map id_digits found ≡ matches digits ids) (long : IsLong digits) (many : length found ≡ n)
      (is : empty ≡ nat_eq n 0) where
    abbrev p : List ℕ → Bool
    p id = starts_with nat_eq id digits

    same_length : (id rest : List ℕ) → id ≡ digits ++ rest → IsLong id → id ≡ digits
    same_length id rest split here =
        let none : rest ≡ [] = nil_from_length rest (omega (arith, ap length split, length-append digits rest, here, long)) in
        split ∙ ap (λ (r : List ℕ). digits ++ r) none ∙ append-nil digits

    as_many : length (matches digits ids) ≡ n
    as_many = ap length (sym are) ∙ length-map found id_digits ∙ many

    pub found_decides : IsTrue (not empty) ↔ Contains ids digits
    found_decides = (
      λ some.
          let low : 0 < length (matches digits ids) = elim (cases_lt 0 n) [
            | inl more ↦ omega (arith, as_many, more)
            | inr none ↦ absurd (false≢true (sym (ap not (is ∙ eq-eqb n 0 (omega (arith, none)))) ∙ some))
          ] in
          let id = get_or (matches digits ids) 0 [] in
          let here : Contains (matches digits ids) id = Contains-get_or (matches digits ids) 0 [] low in
          let had : Contains ids id = contains_had p ids id here in
          let begins = (starts_with-BeginsWith id digits).0 (kept_passes p ids id here) in
          subst (Contains ids) (same_length id begins.0 begins.1 (All-contains IsLong ids id lengths had)) had,
      λ has.
          let passes : p digits ≡ true = (starts_with-BeginsWith digits digits).1 ([], sym (append-nil digits)) in
          let kept : Contains (matches digits ids) digits = contains_kept p ids digits has passes in
          ap not (is ∙ ne_eqb n 0 (λ zero. omega (arith, kept.1, as_many, zero))),
    )

-- an id is in a list if and only if an id in it is equal
pub any_decides : (ids : List (List ℕ)) (id : List ℕ) → Decides (list_any (λ other. bytes_eq other id) ids) (Contains ids id)
any_decides ids id = (
  λ yes. let any = Any-from_list_any (λ other. bytes_eq other id) ids yes in subst (Contains ids) ((bytes_decides any.1 id).0 any.4) (any.0, any.2, any.3),
  λ has. list_any-from_Any (λ other. bytes_eq other id) ids (has.0, id, has.1, has.2, (bytes_decides id id).1 refl),
)

pub any_is : (ids : List (List ℕ)) (id : List ℕ) (has : Bool) → IsTrue has ↔ Contains ids id → has ≡ list_any (λ other. bytes_eq other id) ids
any_is ids id has decides = same_from_decides has _ decides (any_decides ids id)
