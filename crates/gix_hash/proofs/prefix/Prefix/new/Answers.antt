use Rattle.id_digits.proofs.Std.{◌≡◌, ℕ, List, take, Equal, length-take, take_min, tied_itself, nat_list_cmp_total}
use Rattle.id_digits.specs.Digits.{place}
use Rattle.gix_hash.proofs.prefix.Prefix.new.Goals as goal

-- the place of the first digits of an id is Equal
place-first : (n : ℕ) (digits : List ℕ) → place (take n digits) digits ≡ Equal
place-first n digits =
    let len = length-take n digits in
    let cut = take_min n digits in
    rw (len, cut) (tied_itself nat_list_cmp_total (take n digits))

pub returns-clause-matches : goal.returns-clause-matches
returns-clause-matches c = rw (c.packed.ensures, c.as_bytes.ensures.value) (place-first c.args.hex_len _)
