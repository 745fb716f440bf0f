use Rattle.gix_hash.proofs.Std.{◌≡◌, ◌++◌, map, string_bytes, take}
use Rattle.directory_store.specs.Loose.{fan_out_in, fan_outs_in}
use Rattle.directory_store.proofs.loose.Places.fan_out_paths.Given as goal

abbrev pub invariant-loop-byte : goal.invariant-loop-byte
invariant-loop-byte g l = map string_bytes l.paths.items ≡ fan_outs_in l.fn.which (take l.path-index l.self.paths.now) ++ map (λ byte. fan_out_in byte l.path) (take l.byte-index l.byte-items)

abbrev pub invariant-loop-path : goal.invariant-loop-path
invariant-loop-path g l = map string_bytes l.paths.items ≡ fan_outs_in l.fn.which (take l.path-index l.self.paths.now)
