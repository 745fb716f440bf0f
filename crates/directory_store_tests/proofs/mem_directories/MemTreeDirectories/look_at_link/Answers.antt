use Rattle.gix_hash.proofs.Std.{◌∙◌, Ok, ap}
use Rattle.repositories.specs.Answers.{Answers}
use Rattle.directory_store_tests.specs.Trees.{answer, found_at}
use Rattle.directory_store_tests.proofs.Trees.{answers_are}
use Rattle.directory_store_tests.proofs.mem_directories.MemTreeDirectories.look_at_link.Goals as goal

pub returns-in-Err : goal.returns-in-Err
returns-in-Err c = λ at known other.
    let is = answers_are c.args.self.now at known in
    ap (λ (a : Answers). a.entry c.args.path.now) is.1 ∙ ap (answer (λ entry. Ok (found_at c.args.path.now entry))) (c.in-Err.ensures is.0)
