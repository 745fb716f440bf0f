use Rattle.gix_hash.proofs.Std.{◌≡◌, ◌<◌, ℕ, List, [], length, map, slice_index_or, sym, ap, ◌∙◌, subst, arith, IfSome}
use Rattle.id_lookup.specs.Words.{Kind, KindDigits, digits_of, hex_len_of}
use Rattle.pack_index.specs.Format.{digests_in}
use Rattle.pack_index.proofs.Counted.{length-digests_in_at}
use Rattle.gix_hash_c.proofs.packs.shortest_at.Goals as goal
use Rattle.gix_hash_c.proofs.packs.shortest_at.Goals.{in-Sha1, in-Sha256}

-- an abbreviation of a digest has at most the digits of the kind
all_digits : (kind : Kind) (table : List ℕ) (ids : List (List ℕ)) (at n : ℕ) → ids ≡ digests_in kind table → at < length (digests_in kind table)
    → n ≡ length (slice_index_or ids at []) → n ≡ hex_len_of kind
all_digits kind table ids at n same low is = is ∙ ap (λ (list : List (List ℕ)). length (slice_index_or list at [])) same ∙ length-digests_in_at kind table at low

pub returns-in-Some-clause-in_range : goal.returns-in-Some-clause-in_range
returns-in-Some-clause-in_range c = elim c.match-kind.branch [
  | in-Sha1 w ↦
      let same = ap (λ (chunks : List (List ℕ)). map digits_of chunks) w.as_chunks.ensures.front ∙ ap (λ kind. digests_in kind c.args.table.now) (sym w.in-Sha1.is) in
      let kind = subst (λ prefix. IfSome prefix (λ (p : KindDigits). hex_len_of p.kind ≡ length (slice_index_or (map digits_of w.as_chunks.result.0.now) c.args.at []))) (sym w.abbreviation-is ∙ c.in-Some.is) w.abbreviate_assuming_sorted-abbreviation.ensures.kind in
      omega (arith, c.hex_len.ensures.at_most_kind, all_digits c.args.kind c.args.table.now _ c.args.at _ same c.requires kind)
  | in-Sha256 w ↦
      let same = ap (λ (chunks : List (List ℕ)). map digits_of chunks) w.as_chunks-in-Sha256.ensures.front ∙ ap (λ kind. digests_in kind c.args.table.now) (sym w.in-Sha256.is) in
      let kind = subst (λ prefix. IfSome prefix (λ (p : KindDigits). hex_len_of p.kind ≡ length (slice_index_or (map digits_of w.as_chunks-in-Sha256.result.0.now) c.args.at []))) (sym w.abbreviation-is ∙ c.in-Some.is) w.abbreviate_assuming_sorted-abbreviation-in-Sha256.ensures.kind in
      omega (arith, c.hex_len.ensures.at_most_kind, all_digits c.args.kind c.args.table.now _ c.args.at _ same c.requires kind)
]
