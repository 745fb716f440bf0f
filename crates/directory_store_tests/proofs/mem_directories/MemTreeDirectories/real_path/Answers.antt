use Rattle.gix_hash.proofs.Std.{◌∙◌, Ok, ap}
use Rattle.repositories.specs.Answers.{Answers}
use Rattle.directory_store_tests.specs.Trees.{answer}
use Rattle.directory_store_tests.proofs.Trees.{answers_are}
use Rattle.directory_store_tests.proofs.mem_directories.MemTreeDirectories.real_path.Goals as goal

pub returns-in-Err : goal.returns-in-Err
returns-in-Err c = λ at known other.
    let is = answers_are c.args.self.now at known in
    ap (λ (a : Answers). a.real c.args.path.now) is.1 ∙ ap (answer (λ entry. Ok c.args.path.now)) (c.in-Err.ensures is.0)
