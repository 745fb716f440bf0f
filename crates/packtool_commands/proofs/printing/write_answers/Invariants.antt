use Rattle.gix_hash.proofs.Std.{◌≡◌, ◌++◌, ℕ, false, drop, flat_map, map, Appends, List, None, Option}
use Rattle.std.specs.Prelude.{fold}
use Rattle.packtool_commands.specs.Stores.{answer_of, with_found}
use Rattle.packtool_commands.proofs.AnswerLemmas.{first_why, mark}
use Rattle.packtool_commands.proofs.printing.write_answers.Given as goal

abbrev pub invariant-loop-line : goal.invariant-loop-line
invariant-loop-line g l = record {
  before : List (List ℕ × Option g.row.T.Denot);
  parts : before ++ with_found (map mark (drop l.line-index l.lines.lines.items)) l.left ≡ with_found (map mark l.lines.lines.items) l.found;
  written : Appends (g.W.Sink.taken l.fn.out) (g.W.Sink.taken l.out) (flat_map (answer_of (g.F.AnswerForm.text l.form)) before);
  first : l.why ≡ fold (first_why (g.F.AnswerForm.no_answer l.form)) None before;
  not_failed : g.W.Sink.has_failed l.out ≡ false;
}
