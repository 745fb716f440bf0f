use Rattle.gix_hash.proofs.Std.{All, ◌≡◌, length, map, take, vec_len}
use Rattle.repositories.specs.Answers.{IfKnown}
use Rattle.directory_store.specs.Loose.{AreNamesIn}
use Rattle.directory_store.specs.declared.loose.FanOutNames.{FanOutNames}
use Rattle.directory_store.proofs.loose.Places.list_parts.Given as goal

abbrev pub invariant-loop-byte : goal.invariant-loop-byte
invariant-loop-byte g l = record {
  as_many : All (λ (part : FanOutNames). vec_len part.names ≡ length l.self.paths.now) l.parts.items;
  bytes : map (λ (part : FanOutNames). part.byte) l.parts.items ≡ take l.byte-index l.byte-items;
  names : IfKnown (λ at. All (λ (part : FanOutNames). AreNamesIn at part.byte l.self.paths.now part.names.items) l.parts.items) (g.R.Directories.answers l.self.rt.now);
}
