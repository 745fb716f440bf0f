use Rattle.gix_hash.proofs.Std.{◌≡◌, filter, true}
use Rattle.repositories.specs.Answers.{IfKnown}
use Rattle.directory_store.specs.Packs.{has_pack}
use Rattle.directory_store.proofs.packs.PackIndexes.with_packs.Given as goal

abbrev pub invariant-loop-one : goal.invariant-loop-one
invariant-loop-one g l = record {
  all : l.are_all ≡ true → l.paths.items ≡ l.yielded;
  packs : IfKnown (λ at. l.paths.items ≡ filter (has_pack at) l.yielded) (g.R.Directories.answers l.rt);
}
