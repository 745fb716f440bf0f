use Rattle.gix_hash.proofs.Std.{ℕ, ◌≡◌, map, string_bytes, take, vec_len}
use Rattle.std.specs.Global.{Global}
use Rattle.std.specs.Prelude.{Vec}
use Rattle.repositories.specs.Answers.{IfKnown}
use Rattle.directory_store.specs.Loose.{listed_in}
use Rattle.directory_store.specs.declared.loose.FanOut.{FanOut}
use Rattle.directory_store.proofs.loose.Places.names_if_unchanged.Given as goal

abbrev pub invariant-loop-fan_out : goal.invariant-loop-fan_out
invariant-loop-fan_out g l = record {
  as_many : vec_len l.names ≡ l.fan_out-index;
  names : IfKnown (λ at. map (λ (names : Vec ℕ Global). names.items) l.names.items ≡ map (λ (fan_out : FanOut). listed_in (string_bytes fan_out.path) at) (take l.fan_out-index l.fan_out-items))
      (g.R.Directories.answers l.self.rt.now);
}
