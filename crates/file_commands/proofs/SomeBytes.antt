-- Verdicts on bytes, whichever they are.
use Rattle.gix_hash.proofs.Std.{IfOk, List, Option, Result, ℕ}
use Rattle.std.proofs.lemmas.Result.{IfOk-weaker}
use Rattle.gix_hash.specs.declared.Kind.{Kind}
use Rattle.file_commands.specs.Verdicts.{IsVerdictOn, IsVerdictOnSome}
use Rattle.file_commands.specs.declared.files.Verdict.{Verdict}
use Rattle.file_commands.specs.declared.files.Verdict.TheVariants.{Alone, Ends, Faulty, FaultyMulti, Paired, Skipped}

on-some : (kind : Option Kind) (bytes : List ℕ) (said : Verdict) → IsVerdictOn kind bytes said → IsVerdictOnSome kind said
on-some kind bytes Skipped is = absurd is
on-some kind bytes (Ends ending) is = absurd is
on-some kind bytes (FaultyMulti fault) is = absurd is
on-some kind bytes (Faulty error) is = (bytes, is)
on-some kind bytes Alone is = (bytes, is)
on-some kind bytes (Paired pairing) is = (bytes, is)

pub said-on-some : {E : Type 0} (kind : Option Kind) (bytes : List ℕ) (result : Result Verdict E) → IfOk result (IsVerdictOn kind bytes) → IfOk result (IsVerdictOnSome kind)
said-on-some kind bytes result is = IfOk-weaker result (IsVerdictOn kind bytes) (IsVerdictOnSome kind) (on-some kind bytes) is
