-- What is known of a result after its error was made into another one.
use Rattle.id_digits.proofs.Std.{◌≡◌, Result, Ok, Err, OnOk, IsErrAnd, MatchResult, is_ok}

-- what the Ok said
pub ok-kept : {T E D P : Type 0} (r : Result T E) (s : Result T D) (x : T) → is_ok s ≡ is_ok r → s ≡ Ok x → OnOk r P → P
ok-kept (Ok y) s x same was known = known
ok-kept (Err e) s x same was known = cc

-- what the new error was made from
pub err-made : {T E D : Type 0} (Q : E → D → Type 0) (r : Result T E) (s : Result T D) (e : D)
    → MatchResult r (λ x. s ≡ Ok x) (λ cause. IsErrAnd s (Q cause)) → s ≡ Err e → (cause : E) × Q cause e
err-made Q (Ok y) s e made was = cc
err-made Q (Err cause) s e made was = (cause, rw was at made)
