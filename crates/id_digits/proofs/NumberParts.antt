-- Numbers of two parts, of which the higher decides first.
use Rattle.id_digits.proofs.Std.{◌≡◌, ◌≢◌, ℕ, ◌+◌, ◌*◌, ◌<◌, ◌≤◌, refl, arith, Ordering, Less, Equal, Greater, mul-le-mul_right, add-mul, nat_cmp, ordering_then, nat_tests}

-- orders one after another
pub then_assoc : (a b c : Ordering) → ordering_then (ordering_then a b) c ≡ ordering_then a (ordering_then b c)
then_assoc Less b c = refl
then_assoc Equal b c = refl
then_assoc Greater b c = refl

pub then_equal : (a : Ordering) → ordering_then a Equal ≡ a
then_equal Less = refl
then_equal Equal = refl
then_equal Greater = refl

-- the second order does not count if the first decides
pub then_decided : (a b : Ordering) → a ≢ Equal → ordering_then a b ≡ a
then_decided Less b decides = refl
then_decided Equal b decides = absurd (decides refl)
then_decided Greater b decides = refl

-- a higher part that is below outweighs the lower parts
below : (p a b c d : ℕ) → b < p → a < c → a * p + b < c * p + d
below p a b c d small h =
    let step : (a + 1) * p ≤ c * p = mul-le-mul_right p (omega arith) in
    omega (arith, step, add-mul a 1 p)

-- numbers of two parts compare as the higher parts do, and then as the lower
pub cmp_parts : (p a b c d : ℕ) → b < p → d < p → nat_cmp (a * p + b) (c * p + d) ≡ ordering_then (nat_cmp a c) (nat_cmp b d)
cmp_parts p a b c d h k =
    let less = below p a b c d h in
    let more = below p c d a b k in
    let same : a ≡ c → a * p ≡ c * p = λ e. rw e refl in
    grind (arith, nat_tests, less, more, same)
