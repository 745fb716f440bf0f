use Rattle.gix_hash.proofs.Std.{rules, sym, ◌∙◌}
use Rattle.packtool_commands.proofs.locating.locate_each.Goals as goal

pub returns-in_err-located-clause-refused : goal.returns-in_err-located-clause-refused
returns-in_err-located-clause-refused g c = rw (← c.limit_for.ensures) (search rules)

pub returns-in_err-located-clause-more : goal.returns-in_err-located-clause-more
returns-in_err-located-clause-more g c = rw (← c.limit_for.ensures) (search rules)

pub returns-in_err-write_answers-clause-part : goal.returns-in_err-write_answers-clause-part
returns-in_err-write_answers-clause-part g c = rw (← c.limit_for.ensures) (search rules)

pub returns-clause-located : goal.returns-clause-located
returns-clause-located g c =
    let same = c.look_up_lines.ensures.reopened.kind ∙ sym c.requires.kind in
    record {
      results = c.in_ok-located.located.items;
      are_found = rw (← c.limit_for.ensures) c.in_ok-located.ensures.found;
      first = rw (same, ← c.deref.ensures.value) c.in_ok-write_answers.ensures.why;
      written = rw (same, ← c.deref.ensures.value) c.in_ok-write_answers.ensures.written;
    }
