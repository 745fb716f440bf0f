use Rattle.gix_hash.proofs.Std.{◌∙◌, ap, refl}
use Rattle.repositories.specs.Answers.{Answers, front}
use Rattle.directory_store_tests.proofs.Trees.{answers_are}
use Rattle.directory_store_tests.proofs.mem_directories.MemTreeDirectories.read_front.Goals as goal

pub returns-in-Err : goal.returns-in-Err
returns-in-Err c = λ at known other.
    let is = answers_are c.args.self.now at known in
    rw (ap (λ (a : Answers). a.bytes c.args.path.now) is.1 ∙ c.in-Err.ensures is.0, front) refl
