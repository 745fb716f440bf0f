-- What is listed in a directory, by the names in it.
use Rattle.gix_hash.proofs.Std.{◌≡◌, ℕ, Err, List, [], Ok, Option, Result, Some, ap, sym, unwrap_or}
use Rattle.std.specs.Result.{result_ok}
use Rattle.std.specs.declared.io.ErrorKind.{ErrorKind}
use Rattle.std.specs.declared.io.ErrorKind.TheVariants.{NotFound}
use Rattle.repositories.specs.Answers.{Answers}
use Rattle.directory_store.specs.Loose.{listed_in}
use Rattle.directory_store.specs.Packs.{if_listed, names_in}

pub listed_of : (directory names : List ℕ) (at : Answers) → names_in directory at ≡ Some names → names ≡ listed_in directory at
listed_of directory names at is = go (at.names directory) is
  where
    go : (answer : Result (List ℕ) ErrorKind) → if_listed answer ≡ Some names → names ≡ unwrap_or (result_ok answer) []
    go (Ok found) is = sym (ap (λ (o : Option (List ℕ)). unwrap_or o names) is)
    go (Err NotFound) is = sym (ap (λ (o : Option (List ℕ)). unwrap_or o names) is)
    go (Err _) is = absurd (cc is)
