use Rattle.gix_hash.proofs.Std.{List, Option, Some, subst, sym, ℕ}
use Rattle.gix_hash.specs.declared.Kind.{Kind}
use Rattle.gix_hash.specs.declared.Kind.TheVariants.{Sha256}
use Rattle.streams.specs.declared.checking.Ending.{Ending}
use Rattle.file_commands.specs.Verdicts.{IsEndingFor}
use Rattle.file_commands.proofs.files.ending_in.Goals as goal
use Rattle.file_commands.proofs.files.ending_in.Goals.{else-is_sealed-2, then-is_sealed-2}

-- how some bytes end
abbrev IsSome : Ending → Type 0
IsSome ending = (bytes : List ℕ) × (read : Option Kind) × IsEndingFor read bytes ending

pub returns : goal.returns
returns g c =
    let other = c.in_ok-other.ensures in
    let first = c.in_ok-ending.ensures in
    elim c.if-is_sealed-2.branch [
      | then-is_sealed-2 w ↦ subst IsSome (sym w.result-is) (other.0, Some Sha256, other.1)
      | else-is_sealed-2 w ↦ subst IsSome (sym w.result-is) (first.0, c.or.result, first.1)
    ]
