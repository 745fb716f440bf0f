-- What one variable more sets.
use Rattle.gix_hash.proofs.Std.{◌≡◌, Err, None, Option, Result, Some, option_map, refl, IfSome, option_or}
use Rattle.gix_hash.specs.declared.Kind.{Kind}
use Rattle.repositories.specs.Formats.{Fault, unless}

pub view_or : {T U : Type 0} (view : T → U) (given old : Option T) → option_map view (option_or given old) ≡ option_or (option_map view given) (option_map view old)
view_or view None old = refl
view_or view (Some set) old = refl

pub first_is : (fault more bad : Option Fault) (format : Result Kind Fault) → IfSome fault (λ first. unless (option_or (option_or fault more) bad) format ≡ Err first)
first_is None more bad format = tt
first_is (Some fault) more bad format = refl
