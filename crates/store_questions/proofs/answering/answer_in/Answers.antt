use Rattle.gix_hash.proofs.Std.{◌≡◌, ◌∙◌, ℕ, IfSome_then, List, ap}
use Rattle.std.proofs.lemmas.Result.{IfOk-weaker}
use Rattle.streams.specs.Streams.{lines_of}
use Rattle.store_questions.specs.WholeLines.{made_whole}
use Rattle.store_questions.proofs.FromStores.{all_written, asked_written, of_kept}
use Rattle.store_questions.proofs.Lines.{lines-made_whole}
use Rattle.store_questions.proofs.Parts.{parts-written}
use Rattle.store_questions.proofs.answering.answer_in.Goals as goal

pub returns-in-All-clause-written : goal.returns-in-All-clause-written
returns-in-All-clause-written g c =
    let of = c.in_ok-asked.ensures in
    rw (c.in-All.is, ← of.question, ← of.least, ← of.directory, ← of.rt)
    (IfOk-weaker c.write_all.result _ _ (λ status answered low at known directories objects alternates right are.
    of_kept _ _ c.write_all.new.self.kept answered (λ store (any, ended, first, is_of, listed, has).
    all_written g.R.Directories.answers c.in_ok-asked.asked.query at known directories objects alternates right are first.directory first.purpose
    (g.R.Directories.answers first.rt) first.loose.which _ any _ _ _ _ low ended is_of listed has (λ view (_, _, _, _, kind, all). (kind, all)))) c.write_all.ensures.answered)

pub returns-in-Prefix-clause-written : goal.returns-in-Prefix-clause-written
returns-in-Prefix-clause-written g c =
    let of = c.in_ok-asked.ensures in
    rw (c.in-Prefix.is, ← of.question, ← of.least, ← of.directory, ← of.rt)
    (IfOk-weaker c.answer_prefix.result _ _ (λ status answered low at known directories objects alternates right are.
    asked_written g.R.Directories.answers c.in_ok-asked.asked.query at known directories objects alternates right are _ _ _ _ _ low answered) c.answer_prefix.ensures.answered)

pub returns-clause-written : goal.returns-clause-written
returns-clause-written g c =
    let of = c.in_ok-asked.ensures in
    rw (c.in-Lines.is, ← of.question, ← of.least, ← of.directory, ← of.rt)
    (IfOk-weaker c.answer_input.result _ _ (λ status (text, read, n, parts) low at known directories objects alternates right are.
    let query = c.in_ok-asked.asked.query in
    (lines_of text, IfSome_then _ {P = λ (all : List ℕ). text ≡ made_whole all} read (λ all is. ap lines_of is ∙ lines-made_whole all), (parts-written g.R.Directories.answers query _ _ (asked_written g.R.Directories.answers query at known directories objects alternates right are _) n text _ _ _ low parts).1))
    c.answer_input.ensures.answered)
