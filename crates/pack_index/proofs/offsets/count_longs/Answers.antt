use Rattle.gix_hash.proofs.Std.{◌≡◌, ℕ, ◌+◌, ◌<◌, ◌≤◌, List, refl, ap, ◌∙◌, add-one, arith, below_more, if◌then◌else◌, le-leb, lt-leb}
use Rattle.id_lookup.specs.Words.{Kind}
use Rattle.pack_index.specs.Format.{long_word, longs_before, offset_word}
use Rattle.pack_index.proofs.offsets.count_longs.Goals as goal
use Rattle.pack_index.proofs.offsets.count_longs.Goals.{then-word-ge-LONG+else-word-longs, else-word-ge-LONG}

-- after an 8-byte offset there is one more
one_more : (kind : Kind) (bytes : List ℕ) (n : ℕ) → long_word ≤ offset_word kind bytes n → longs_before kind bytes (n + 1) ≡ longs_before kind bytes n + 1
unfolding longs_before
one_more kind bytes n is =
    ap (longs_before kind bytes) (add-one n) ∙ ap (λ b. if b then longs_before kind bytes n + 1 else longs_before kind bytes n) (le-leb long_word (offset_word kind bytes n) is)

-- and after a short one as many
no_more : (kind : Kind) (bytes : List ℕ) (n : ℕ) → offset_word kind bytes n < long_word → longs_before kind bytes (n + 1) ≡ longs_before kind bytes n
unfolding longs_before
no_more kind bytes n is =
    ap (longs_before kind bytes) (add-one n) ∙ ap (λ b. if b then longs_before kind bytes n + 1 else longs_before kind bytes n) (lt-leb long_word (offset_word kind bytes n) is)

pub loop-at-init : goal.loop-at-init
unfolding longs_before
loop-at-init c = record {
  counted = refl;
  small = omega arith;
  order = λ k none. absurd (omega arith);
}

pub loop-at-preserved : goal.loop-at-preserved
loop-at-preserved c =
    let before = c.loop-at.invariant in
    let read = c.offset_word-word.ensures in
    elim c.if-word-ge-LONG.branch [
      | then-word-ge-LONG+else-word-longs w ↦ record {
        counted = omega (arith, before.counted, w.longs-is, one_more c.args.kind c.args.bytes.now c.loop-at.at (omega (arith, read, w.if-word-ge-LONG.true)));
        small = omega (arith, before.small, w.longs-is);
        order = below_more _ _ before.order (λ _. omega (arith, read, before.counted, w.if-word-ge-LONG.true, w.if-word-longs.false));
      }
      | else-word-ge-LONG w ↦ record {
        counted = omega (arith, before.counted, w.longs-is, no_more c.args.kind c.args.bytes.now c.loop-at.at (omega (arith, read, w.if-word-ge-LONG.false)));
        small = omega (arith, before.small, w.longs-is);
        order = below_more _ _ before.order (λ long. absurd (omega (arith, long, read, w.if-word-ge-LONG.false)));
      }
    ]
