use Rattle.gix_hash.proofs.Std.{◌≡◌, ◌∙◌, ◌++◌, append-nil, ap, length, map, rules, sym}
use Rattle.packtool_commands.specs.Stores.{marked, prefixes_of}
use Rattle.packtool_commands.proofs.AnswerLemmas.{lines_at_end, mark}
use Rattle.packtool_commands.proofs.prefixes.PrefixLines.read.Goals as goal

pub invariant_of-result : goal.invariant_of-result
invariant_of-result g c =
    let none : length c.loop-rest.rest.now ≡ 0 = search rules in
    let end = sym (lines_at_end c.loop-rest.rest.now none) in
    let lines = map mark c.loop-rest.lines.items in
    let prefixes = c.loop-rest.prefixes.items in
    record {
      are_lines = sym (append-nil lines) ∙ ap (λ rest. lines ++ marked c.args.kind rest) end ∙ c.loop-rest.invariant.lines;
      are_read = sym (append-nil prefixes) ∙ ap (λ rest. prefixes ++ prefixes_of c.args.kind rest) end ∙ c.loop-rest.invariant.prefixes;
    }
