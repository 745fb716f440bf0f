use Rattle.gix_hash.proofs.Std.{sym, subst, All, All-push}
use Rattle.object_store.specs.Stores.{IsOfKind}
use Rattle.object_store.proofs.AbbreviationsAmong.{abbreviated_more}
use Rattle.object_store.proofs.abbreviations.with_abbreviations.Goals as goal

pub loop-at-preserved : goal.loop-at-preserved
loop-at-preserved g c =
    let more = abbreviated_more c.args.least c.loop-at.at c.args.ids.now c.loop-at.abbreviated.items c.push.new.self.items c.abbreviated_at.result c.in_ok-push.ensures.items
    c.loop-at-test.true c.abbreviated_at.ensures.id c.abbreviated_at.ensures.abbreviation c.loop-at.invariant.0 c.loop-at.invariant.1 in (
      more.0,
      more.1,
      subst (All (IsOfKind c.args.kind)) (sym c.in_ok-push.ensures.items) (All-push (IsOfKind c.args.kind) c.loop-at.abbreviated.items c.abbreviated_at.result c.loop-at.invariant.2 c.abbreviated_at.ensures.kind),
    )
