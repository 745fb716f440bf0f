use Rattle.gix_hash.proofs.Std.{List, ℕ, ◌++◌, ap, subst, ◌∙◌, Appends}
use Rattle.streams.specs.Streams.{Wrote}
use Rattle.streams.proofs.WritingLemmas.{Wrote-stop, Wrote-then}
use Rattle.packtool_commands.specs.Files.{escaped}
use Rattle.packtool_commands.proofs.locating.write_location.Goals as goal

pub returns-in_err-write_mark : goal.returns-in_err-write_mark
returns-in_err-write_mark g c = Wrote-stop _ _ _ c.from_residual.ensures.0 c.in_err-write_mark.ensures

pub returns-in_err-write_two : goal.returns-in_err-write_two
returns-in_err-write_two g c =
    Wrote-then _ _ _ c.in_ok-write_mark.ensures.written (Wrote-stop _ _ _ c.from_residual-in_err-write_two.ensures.0 c.in_err-write_two.ensures)

pub returns-in_err-write_all : goal.returns-in_err-write_all
returns-in_err-write_all g c =
    Wrote-then _ _ _ c.in_ok-write_mark.ensures.written (Wrote-then _ _ _ c.in_ok-write_two.ensures.written
    (Wrote-stop _ _ _ c.from_residual-in_err-write_all.ensures.0 (subst (Wrote _ _ _ _ _) c.put_start-start_len.ensures.text c.in_err-write_all.ensures)))

pub returns : goal.returns
returns g c =
    Wrote-then _ _ _ c.in_ok-write_mark.ensures.written (Wrote-then _ _ _ c.in_ok-write_two.ensures.written
    (Wrote-then _ _ _ (subst (Appends _ _) c.put_start-start_len.ensures.text c.in_ok-write_all.ensures.written)
    (subst (Wrote _ _ _ _ _) (ap (λ (text : List ℕ). escaped c.args.path.now ++ text) (c.as_slice.ensures.value ∙ c.location_end.ensures)) c.write_before.ensures)))
