use Rattle.gix_hash.proofs.Std.{◌∙◌, rules, subst, sym, Appends}
use Rattle.id_lookup.specs.Words.{id_digits}
use Rattle.streams.specs.Streams.{AppendsBeginning}
use Rattle.packtool_commands.specs.Stores.{id_line}
use Rattle.packtool_commands.proofs.FirstTwo.{all_of, have_more, same_answers, same_why}
use Rattle.packtool_commands.proofs.finding.find_each.Goals as goal

pub returns-in_err-found-clause-more : goal.returns-in_err-found-clause-more
returns-in_err-found-clause-more g c = λ is.
    have_more c.args.wanted _ _ _ (rw c.limit_for.ensures at (c.in_err-found.ensures.more (search rules)))

pub returns-in_err-write_answers-clause-part : goal.returns-in_err-write_answers-clause-part
returns-in_err-write_answers-clause-part g c = λ _.
    let same = c.look_up_lines.ensures.reopened.kind ∙ sym c.requires.kind in
    let all = all_of c.args.wanted _ _ c.in_ok-found.found.items (rw c.limit_for.ensures at c.in_ok-found.ensures.found) in
    record {
      results = all.0;
      are_found = all.1;
      written = subst (AppendsBeginning _ _) (same_answers c.args.wanted (λ front id. id_line front (id_digits id)) _ _ c.in_ok-found.found.items all.0 all.2)
          (rw (same, ← c.deref.ensures.value) c.in_err-write_answers.ensures.part);
    }

pub returns-clause-found : goal.returns-clause-found
returns-clause-found g c =
    let same = c.look_up_lines.ensures.reopened.kind ∙ sym c.requires.kind in
    let all = all_of c.args.wanted _ _ c.in_ok-found.found.items (rw c.limit_for.ensures at c.in_ok-found.ensures.found) in
    record {
      results = all.0;
      are_found = all.1;
      first = rw (same, ← c.deref.ensures.value) c.in_ok-write_answers.ensures.why ∙ same_why c.args.wanted _ _ c.in_ok-found.found.items all.0 all.2;
      written = subst (Appends _ _) (same_answers c.args.wanted (λ front id. id_line front (id_digits id)) _ _ c.in_ok-found.found.items all.0 all.2)
          (rw (same, ← c.deref.ensures.value) c.in_ok-write_answers.ensures.written);
    }
