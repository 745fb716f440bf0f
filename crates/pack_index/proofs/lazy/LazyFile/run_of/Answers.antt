use Rattle.gix_hash.proofs.Std.{◌∙◌, ap, arith}
use Rattle.pack_index.specs.Lazy.{LazyIndex}
use Rattle.pack_index.proofs.Heads.{count_inside}
use Rattle.pack_index.proofs.Known.{by_bytes}
use Rattle.pack_index.proofs.Layouts.{count_is, start_is}
use Rattle.pack_index.proofs.lazy.LazyFile.run_of.Goals as goal

pub returns-clause-start : goal.returns-clause-start
returns-clause-start g c =
    rw (← c.self.view_is) (by_bytes c.self.inside.kind c.self.inside.layout _ _ (λ bytes is.
    c.bucket_range.ensures.start ∙ start_is _ _ _ _ bytes (c.self.invariant.2 bytes is).0 c.args.byte c.ranges.byte.fits))

pub returns-clause-end : goal.returns-clause-end
returns-clause-end g c =
    rw (← c.self.view_is) (by_bytes c.self.inside.kind c.self.inside.layout _ _ (λ bytes is.
    c.bucket_range.ensures.end ∙ (c.self.invariant.2 bytes is).0.counts c.args.byte c.ranges.byte.fits))

pub returns-clause-in_order : goal.returns-clause-in_order
returns-clause-in_order g c = omega (arith, c.bucket_range.ensures.start, c.bucket_range.ensures.end, c.self.invariant.0 c.args.byte c.ranges.byte.fits)

pub returns-clause-inside : goal.returns-clause-inside
returns-clause-inside g c =
    omega (arith, c.bucket_range.ensures.end, count_inside c.self.inside.head c.self.invariant.0 c.args.byte c.ranges.byte.fits, ap (λ (f : LazyIndex). f.count) c.self.view_is)

pub returns-clause-ids : goal.returns-clause-ids
returns-clause-ids g c =
    let low = count_inside c.self.inside.head c.self.invariant.0 c.args.byte c.ranges.byte.fits in
    rw (← c.self.view_is) (by_bytes c.self.inside.kind c.self.inside.layout _ _ (λ bytes is.
    omega (arith, c.bucket_range.ensures.end, low, count_is _ _ _ _ bytes (c.self.invariant.2 bytes is).0)))
