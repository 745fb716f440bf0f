use Rattle.gix_hash.proofs.Std.{◌≡◌, ◌∙◌, ◌≤◌, ℕ, List, Some, length, sym, arith}
use Rattle.pack_index.specs.Lazy.{ids_of}
use Rattle.pack_index.proofs.Buckets.{length-ids}
use Rattle.pack_index.proofs.Cuts.{cut_high, cut_low}
use Rattle.pack_index.proofs.search.narrowed.Goals.{in-Equal, in-Greater, in-Less}
use Rattle.pack_index.proofs.search.narrowed.Goals as goal

pub loop-turn-preserved : goal.loop-turn-preserved
loop-turn-preserved g c =
    let before = c.loop-turn.invariant in
    let part = c.loop-turn.part in
    let at = c.in-Some.at in
    let ids = c.args.ids in
    let run = c.args.run in
    let digits = c.args.prefix.now.digits in
    let low : part.start ≤ at = c.in-Some.ensures.0 in
    let high = c.in-Some.ensures.1 in
    let inside : (bytes : List ℕ) → g.S.ReadAt.content c.args.source.now ≡ Some bytes → run.end ≤ length (ids_of ids bytes) =
    λ bytes is. omega (arith, c.requires.inside, length-ids ids.kind bytes ids.start ids.count (c.requires.known bytes is)) in
    elim c.match-branch-2.branch [
      | in-Greater w ↦ rw (w.part-is) (record {
        from = omega (arith, before.from, low);
        in_order = omega (arith, high);
        to = before.to;
        all = λ bytes is sorted.
            cut_low (ids_of ids bytes) digits at run.start run.end part.start part.end (inside bytes is) before.from low high before.to sorted
            (before.all bytes is sorted) (sym (c.in_ok-place_at.ensures.place bytes is) ∙ w.in-Greater.is);
      })
      | in-Less w ↦ rw (w.part-is) (record {
        from = before.from;
        in_order = low;
        to = omega (arith, before.to, high);
        all = λ bytes is sorted.
            cut_high (ids_of ids bytes) digits at run.start run.end part.start part.end (inside bytes is) before.from low high before.to sorted
            (before.all bytes is sorted) (sym (c.in_ok-place_at.ensures.place bytes is) ∙ w.in-Less.is);
      })
      | in-Equal w ↦ rw (w.part-is) before
    ]
