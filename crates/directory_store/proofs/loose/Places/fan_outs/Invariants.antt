use Rattle.gix_hash.proofs.Std.{All, ◌≡◌, map, string_bytes, take}
use Rattle.repositories.specs.Answers.{IfKnown}
use Rattle.directory_store.specs.Loose.{ListsIfThere, fan_out_in}
use Rattle.directory_store.specs.declared.loose.FanOut.{FanOut}
use Rattle.directory_store.proofs.loose.Places.fan_outs.Given as goal

abbrev pub invariant-loop-path : goal.invariant-loop-path
invariant-loop-path g l = record {
  paths : map (λ (fan_out : FanOut). string_bytes fan_out.path) l.fan_outs.items ≡ map (fan_out_in l.byte) (take l.path-index l.self.paths.now);
  missing : IfKnown (λ at. All (ListsIfThere at) l.fan_outs.items) (g.R.Directories.answers l.self.rt.now);
}
