use Rattle.gix_hash.proofs.Std.{◌≡◌, ℕ, ◌<◌, [], get_or, take, length, map, All, count_by}
use Rattle.id_lookup.specs.Runs.{has_first_byte}
use Rattle.id_lookup.proofs.fan_out.first_bytes.Given as goal

abbrev pub invariant-loop-at : goal.invariant-loop-at
invariant-loop-at g l = record {
  len : length l.counts ≡ 256;
  counted : (b : ℕ) → b < 256 → get_or l.counts b 0 ≡ count_by (has_first_byte b) (take l.at (map g.I.Id.digits l.ids));
  digits : (k : ℕ) → k < l.at → All (λ d. d < 16) (get_or (map g.I.Id.digits l.ids) k []);
}
