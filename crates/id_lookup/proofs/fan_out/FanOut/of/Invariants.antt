use Rattle.gix_hash.proofs.Std.{◌≡◌, ℕ, ◌<◌, ◌≤◌, get_or, length, map, count_by}
use Rattle.id_lookup.specs.Runs.{has_first_byte, is_up_to}
use Rattle.id_lookup.proofs.fan_out.FanOut.of.Given as goal

abbrev pub invariant-loop-byte : goal.invariant-loop-byte
invariant-loop-byte g l = record {
  len : length l.counts ≡ 256;
  done : (b : ℕ) → b < l.byte → get_or l.counts b 0 ≡ count_by (is_up_to b) (map g.I.Id.digits l.ids);
  left : (b : ℕ) → l.byte ≤ b → b < 256 → get_or l.counts b 0 ≡ count_by (has_first_byte b) (map g.I.Id.digits l.ids);
}
