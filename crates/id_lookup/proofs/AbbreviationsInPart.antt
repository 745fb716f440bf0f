-- A member's abbreviation is decided among the members that begin as the name has to.
use Rattle.gix_hash.proofs.Std.{◌≡◌, ◌≢◌, ℕ, ◌<◌, ◌≤◌, Bool, true, false, nat_eq, List, [], length, filter, get_or, take, inl, inr, sym, ap, ◌∙◌, subst, bytes_decides, starts_with, cases_Bool, false≢true, false_from_ne_true, get_or_default, length-take-le, take-take, Contains-get_or}
use Rattle.gix_hash.specs.declared.Kind.{Kind}
use Rattle.id_lookup.specs.Indexes.{IsIndex, IsShortestAbbreviationFrom}
use Rattle.id_lookup.proofs.Filters.{contains_kept, contains_had}
use Rattle.id_lookup.proofs.SameMembers.{index-filter, one_position}

-- what begins with some first digits of an id begins with fewer of them
begins_fewer : (id member name : List ℕ) (n : ℕ) → name ≡ take (length name) member → n ≤ length name → starts_with nat_eq id name ≡ true
    → starts_with nat_eq id (take n member) ≡ true
begins_fewer id member name n first few begins =
    let front : take n name ≡ take n member = ap (take n) first ∙ take-take n (length name) member few in
    let same : take n name ≡ take n id = ap (take n) ((bytes_decides name (take (length name) id)).0 begins) ∙ take-take n (length name) id few in
    let long : length (take n member) ≡ n = ap length (sym front) ∙ length-take-le n name few in
    (bytes_decides (take n member) (take (length (take n member)) id)).1 (sym front ∙ same ∙ ap (λ k. take k id) (sym long))

module _ (kind : Kind) (p : List ℕ → Bool) (fewest : ℕ) (whole : List (List ℕ)) (at position : ℕ) (name : List ℕ) (index : IsIndex kind whole)
    (decides : (id : List ℕ) → starts_with nat_eq id (take fewest (get_or whole position [])) ≡ true → p id ≡ true)
    (within : at < length (filter p whole)) (inside : position < length whole) (same : get_or whole position [] ≡ get_or (filter p whole) at [])
    (short : IsShortestAbbreviationFrom fewest (filter p whole) at name) where
  first : name ≡ take (length name) (get_or whole position [])
  first = short.first ∙ ap (take (length name)) (sym same)

  -- what fails the test begins otherwise
  other_part : (id : List ℕ) → p id ≡ false → starts_with nat_eq id name ≡ false
  other_part id fails = false_from_ne_true _ (λ begins.
      false≢true (sym fails ∙ decides id (begins_fewer id (get_or whole position []) name fewest first short.long begins)))

  -- and so does another member that passes
  same_part : (k : ℕ) → k < length whole → k ≢ position → p (get_or whole k []) ≡ true → starts_with nat_eq (get_or whole k []) name ≡ false
  same_part k low other here =
      let c = contains_kept p whole (get_or whole k []) (Contains-get_or whole k [] low) here in
      let there : get_or (filter p whole) c.0 [] ≡ get_or whole k [] = sym (get_or_default (filter p whole) c.0 (get_or whole k []) [] c.1) ∙ c.2 in
      let apart : c.0 ≢ at = λ e. other (one_position kind whole index k position low inside (sym there ∙ ap (λ n. get_or (filter p whole) n []) e ∙ sym same)) in
      subst (λ (id : List ℕ). starts_with nat_eq id name ≡ false) there (short.alone c.0 c.1 apart)

  -- so the name among those that pass is that in the whole
  pub abbreviation-whole : IsShortestAbbreviationFrom fewest whole position name
  abbreviation-whole = record {
    first = first;
    long = short.long;
    alone = λ k low other. elim (cases_Bool (p (get_or whole k []))) [
      | inl here ↦ same_part k low other here
      | inr here ↦ other_part (get_or whole k []) here
    ];
    least = λ n few low.
        let r = short.least n few low in
        let id = get_or (filter p whole) r.0 [] in
        let c = contains_had p whole id (Contains-get_or (filter p whole) r.0 [] r.1) in
        let there : get_or whole c.0 [] ≡ id = sym (get_or_default whole c.0 id [] c.1) ∙ c.2 in
        let apart : c.0 ≢ position = λ e. r.2 (one_position kind (filter p whole) (index-filter kind p whole index) r.0 at r.1 within
        (sym there ∙ ap (λ n. get_or whole n []) e ∙ same)) in
        (c.0, c.1, apart, subst (λ (x : List ℕ). starts_with nat_eq x (take n name) ≡ true) (sym there) r.3);
  }
