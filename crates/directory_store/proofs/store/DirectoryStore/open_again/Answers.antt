use Rattle.gix_hash.proofs.Std.{◌++◌, ◌∙◌, ap, sym}
use Rattle.directory_store.proofs.Wholes.{both_nil}
use Rattle.directory_store.proofs.store.DirectoryStore.open_again.Goals as goal

pub returns-clause-skipped : goal.returns-clause-skipped
returns-clause-skipped g c = λ none.
    let old = c.args.self.now in
    let all = c.into_skipped.ensures ∙ ap (λ store. store.skipped_before.items ++ store.skipped.items) c.replace-before.ensures.value ∙ ap (λ items. items ++ old.skipped.items) c.reserve.ensures.items in
    sym all ∙ (both_nil c.into_skipped.result.items c.replace-before.new.dest.skipped.items none).0
