use Rattle.gix_hash.proofs.Std.{List, OnOk, map, string_bytes, subst}
use Rattle.std.specs.Global.{Global}
use Rattle.std.specs.Prelude.{String}
use Rattle.repositories.specs.Answers.{IfKnown}
use Rattle.repositories.specs.declared.state.FileState.{FileState}
use Rattle.directory_store.specs.Stores.{AreStatesOf}
use Rattle.directory_store.proofs.packs.PackDirectories.expect_unchanged.Goals as goal

pub returns : goal.returns
returns g c =
    let Are : List (String Global) → List FileState → Type 0 = λ paths states. OnOk c.expect_states.result (IfKnown (AreStatesOf (map string_bytes paths) states) (g.R.Directories.answers c.args.rt.now)) in
    subst (Are c.args.self.now.paths.items) c.deref-3.ensures.value (subst (λ paths. Are paths c.deref-3.result.now) c.deref.ensures.value c.expect_states.ensures)
