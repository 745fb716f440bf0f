use Rattle.gix_hash.proofs.Std.{IfSome, rules, subst, sym}
use Rattle.std.specs.Global.{Global}
use Rattle.std.specs.Prelude.{Option, Vec}
use Rattle.std.proofs.lemmas.Slice.Eq.{slice_eq-Decides}
use Rattle.repositories.specs.Answers.{IfKnown}
use Rattle.repositories.specs.declared.state.FileState.{FileState}
use Rattle.directory_store.specs.Loose.{fan_outs_in}
use Rattle.directory_store.specs.Stores.{AreStatesOf}
use Rattle.directory_store.proofs.loose.LooseObjects.are_unchanged.Goals as goal

pub returns-in_ok-states-in-Some-clause-same : goal.returns-in_ok-states-in-Some-clause-same
returns-in_ok-states-in-Some-clause-same g c = λ same.
    let now = c.in_ok-states-in-Some in
    let paths = fan_outs_in c.args.self.now.which c.args.paths.now in
    let answers = g.R.Directories.answers c.args.rt.now in
    let equal = (slice_eq-Decides (λ (a b : FileState). search rules) now.field-0.items c.in-Some.states.items c.eq.result c.eq.ensures).0 same in
    subst (λ (states : Option (Vec FileState Global)). IfSome states (λ states. IfKnown (AreStatesOf paths states.items) answers)) (sym c.in-Some.is)
    (λ at known. subst (λ states. AreStatesOf paths states at) equal (now.ensures.states at known))
