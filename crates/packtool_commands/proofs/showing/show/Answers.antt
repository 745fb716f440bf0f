use Rattle.gix_hash.proofs.Std.{ℕ, List, subst}
use Rattle.packtool_commands.specs.Files.{HasShown, HasBegunShowing, IsOpenedAs}
use Rattle.packtool_commands.proofs.ShownLemmas.{read_whole}
use Rattle.packtool_commands.proofs.showing.show.Goals as goal

pub returns-in_err-write_lines-clause-part : goal.returns-in_err-write_lines-clause-part
returns-in_err-write_lines-clause-part g c = λ _.
    read_whole (λ bytes. HasBegunShowing c.args.kind bytes (g.W.Sink.taken c.args.out.now) (g.W.Sink.taken c.write_lines.new.out))
    (g.R.Source.remaining c.args.input.now) (g.R.Source.remaining c.read_all.new.input) c.in_ok-bytes.bytes.items c.in_ok-bytes.ensures.all c.in_ok-bytes.ensures.end
    (record {
      file = c.in_ok-file.file;
      is_opened = subst (λ (bytes : List ℕ). IsOpenedAs c.args.kind bytes c.in_ok-file.file) c.deref.ensures.value c.in_ok-file.ensures.ok;
      written = c.in_err-write_lines.ensures.part;
    })

pub returns-clause-shown : goal.returns-clause-shown
returns-clause-shown g c =
    read_whole (λ bytes. HasShown c.args.kind bytes c.has_names.result (g.W.Sink.taken c.args.out.now) (g.W.Sink.taken c.write_lines.new.out))
    (g.R.Source.remaining c.args.input.now) (g.R.Source.remaining c.read_all.new.input) c.in_ok-bytes.bytes.items c.in_ok-bytes.ensures.all c.in_ok-bytes.ensures.end
    (record {
      file = c.in_ok-file.file;
      is_opened = subst (λ (bytes : List ℕ). IsOpenedAs c.args.kind bytes c.in_ok-file.file) c.deref.ensures.value c.in_ok-file.ensures.ok;
      found = c.has_names.ensures;
      written = c.in_ok-write_lines.ensures.written;
    })
