use Rattle.gix_hash.proofs.Std.{◌++◌, ◌∷◌, [], ap, length-append, length, append_assoc, append-nil, arith, refl, sym, ◌∙◌, All-nil, err_from_is_err_and}
use Rattle.list_search.proofs.ChunkLemmas.{ended_taken, refused_line, first_read-taken}
use Rattle.list_search.proofs.list_reader.ListReader.end_line.Goals as goal

pub returns-in_ok-push-in-Ok-clause-ok : goal.returns-in_ok-push-in-Ok-clause-ok
returns-in_ok-push-in-Ok-clause-ok g c =
    let self = c.args.self.now in
    let pushed = c.in_ok-push-in-Ok.ensures.items in
    record {
      taken = λ earlier text h. ended_taken (earlier ++ self.ids.items) self.line self.len text h [] _ self.line 0 c.in-Ok.id
          (All-nil _) (rw (append-nil h.last) (sym (c.in-Ok.ensures h.last h.last_len h.last_kept)))
          (ap (λ all. earlier ++ all) pushed ∙ sym (append_assoc earlier self.ids.items (c.in-Ok.id ∷ []))) refl;
      dropped = refl;
      short = omega (arith, ap length pushed, length-append self.ids.items (c.in-Ok.id ∷ []));
    }

pub returns-in_err-push-in-Ok-clause-err : goal.returns-in_err-push-in-Ok-clause-err
returns-in_err-push-in-Ok-clause-err g c =
    let p = err_from_is_err_and c.from_residual.result c.from_residual.ensures.1 in
    let self = c.args.self.now in
    rw (p.1, p.2) (λ earlier text more count h. first_read-taken (earlier ++ self.ids.items) self.line self.len text h more
    (rw (sym (c.in-Ok.ensures h.last h.last_len h.last_kept)) refl))

pub returns-in-Err-clause-err : goal.returns-in-Err-clause-err
returns-in-Err-clause-err g c earlier text more count h =
    let self = c.args.self.now in
    refused_line (earlier ++ self.ids.items) self.line self.len text h more c.in-Err.error _
    (c.in-Err.ensures h.last h.last_len h.last_kept) (omega (arith, self.ids.ok.0, count, length-append earlier self.ids.items))
