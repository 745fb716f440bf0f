use Rattle.id_digits.proofs.Std.{◌≡◌, ◌+◌, ◌*◌, drop, nat_eq, common_prefix_len}
use Rattle.id_digits.specs.Digits.{digits_of}
use Rattle.id_digits.proofs.common.common_digits.Given as goal

abbrev pub invariant-loop-at : goal.invariant-loop-at
invariant-loop-at l =
    common_prefix_len nat_eq (digits_of l.one) (digits_of l.other)
    ≡ 2 * l.at + common_prefix_len nat_eq (digits_of (drop l.at l.one)) (digits_of (drop l.at l.other))
