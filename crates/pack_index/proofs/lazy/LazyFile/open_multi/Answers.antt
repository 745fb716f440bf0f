use Rattle.gix_hash.proofs.Std.{◌∙◌, ◌^◌, ◌<◌, ℕ, List, Option, false, refl, sym, subst, arith, rules, err_from_is_err_and, false≢true, get_or-replicate, IfSome}
use Rattle.std.proofs.lemmas.Option.{MatchOption-at_none, MatchOption-at_some}
use Rattle.pack_index.specs.Lazy.{fan_out, up_to_at}
use Rattle.pack_index.specs.Multi.{HasFanOut}
use Rattle.pack_index.specs.declared.layout.Layout.TheVariants.{Multi}
use Rattle.pack_index.proofs.ChunkTables.{has_fan_out, length-names, not_index, same_fan_out}
use Rattle.pack_index.proofs.lazy.LazyFile.open_multi.Goals as goal

pub returns-in_default-clause-read : goal.returns-in_default-clause-read
returns-in_default-clause-read g c = λ bytes is layout names read.
    absurd (MatchOption-at_none _ _ c.in_default.is (c.in_ok-chunks.ensures.chunks bytes is) read.chunks read.has)

pub returns-then-chunks-most-clause-read : goal.returns-then-chunks-most-clause-read
returns-then-chunks-most-clause-read g c = λ bytes is layout names read.
    let has = MatchOption-at_some _ _ _ c.in-Some.is (c.in_ok-chunks.ensures.chunks bytes is) in
    omega (arith, length-names c.args.kind bytes c.in-Some.chunks has layout names read, c.if-chunks-most.true)

pub returns-in_err-head-clause-err : goal.returns-in_err-head-clause-err
returns-in_err-head-clause-err g c =
    let failed = err_from_is_err_and c.from_residual-in_err-head.result c.from_residual-in_err-head.ensures.1 in
    rw (failed.1, failed.2) (λ bytes is.
    let has = MatchOption-at_some _ _ _ c.in-Some.is (c.in_ok-chunks.ensures.chunks bytes is) in
    c.in_err-head.ensures.err bytes is (omega (arith, has.counts.inside)))

pub returns-in_default-2-clause-read : goal.returns-in_default-2-clause-read
returns-in_default-2-clause-read g c = λ bytes is layout names read.
    let has = MatchOption-at_some _ _ _ c.in-Some.is (c.in_ok-chunks.ensures.chunks bytes is) in
    absurd (MatchOption-at_none _ _ c.in_default-2.is (c.in_ok-head.ensures.known bytes is) (has_fan_out c.args.kind bytes c.in-Some.chunks has layout names read))

pub returns-in_err-names-clause-err : goal.returns-in_err-names-clause-err
returns-in_err-names-clause-err g c =
    let failed = err_from_is_err_and c.from_residual-in_err-names.result c.from_residual-in_err-names.ensures.1 in
    rw (failed.1, failed.2) (λ bytes is.
    let has = MatchOption-at_some _ _ _ c.in-Some.is (c.in_ok-chunks.ensures.chunks bytes is) in
    c.in_err-names.ensures.err bytes is (omega (arith, has.names.inside)))

pub invariant_of-ids : goal.invariant_of-ids
invariant_of-ids g c =
    let kind = c.args.kind in
    let chunks = c.in-Some.chunks in
    let right : HasFanOut kind chunks (fan_out c.in-Some-2.head) = subst (λ (o : Option (List ℕ)). IfSome o (λ head. HasFanOut kind chunks (fan_out head))) c.in-Some-2.is c.in_ok-head.ensures.right in
    let room : chunks.ids.end < 2 ^ 64 = first_of (search rules, omega arith) in (
      right.rises,
      omega (arith, room, right.counted),
      λ bytes is.
          let has = MatchOption-at_some _ _ _ c.in-Some.is (c.in_ok-chunks.ensures.chunks bytes is) in
          let entries = MatchOption-at_some _ _ _ c.in-Some-2.is (c.in_ok-head.ensures.known bytes is) in (
            record {
              counts = entries;
              inside = omega (arith, right.counted, has.ids.inside);
              fills = λ index. absurd (not_index _ _ index);
              ends = λ index. absurd (not_index _ _ index);
            },
            λ k low set. absurd (false≢true (sym (get_or-replicate 256 k false false low) ∙ set)),
          ),
    )

pub returns-clause-read : goal.returns-clause-read
returns-clause-read g c = λ bytes is.
    let kind = c.args.kind in
    let chunks = c.in-Some.chunks in
    let right : HasFanOut kind chunks (fan_out c.in-Some-2.head) = subst (λ (o : Option (List ℕ)). IfSome o (λ head. HasFanOut kind chunks (fan_out head))) c.in-Some-2.is c.in_ok-head.ensures.right in
    record {
      chunks = chunks;
      has = MatchOption-at_some _ _ _ c.in-Some.is (c.in_ok-chunks.ensures.chunks bytes is);
      laid_out = refl;
      fan_out = same_fan_out kind chunks (fan_out c.in-Some-2.head) (up_to_at (Multi chunks.counts.start chunks.ids.start) bytes) (MatchOption-at_some _ _ _ c.in-Some-2.is (c.in_ok-head.ensures.known bytes is)) right;
      named = c.in_ok-names.ensures.bytes bytes is;
    }

pub returns-clause-few : goal.returns-clause-few
returns-clause-few g c = omega (arith, c.in_ok-names.ensures.len, c.if-chunks-most.false)
