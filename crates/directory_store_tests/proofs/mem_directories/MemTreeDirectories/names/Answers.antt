use Rattle.gix_hash.proofs.Std.{◌∙◌, Err, ap, sym}
use Rattle.repositories.specs.Answers.{Answers}
use Rattle.directory_store_tests.proofs.Trees.{answers_are}
use Rattle.directory_store_tests.proofs.mem_directories.MemTreeDirectories.names.Goals as goal

pub returns : goal.returns
returns c = λ at known other.
    let is = answers_are c.args.self.now at known in
    ap (λ (a : Answers). a.names c.args.arg2.now) is.1 ∙ ap Err (sym c.into.ensures)
