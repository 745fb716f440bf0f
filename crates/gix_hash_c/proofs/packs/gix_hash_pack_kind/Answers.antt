use Rattle.gix_hash.proofs.Std.{ℕ, inr, refl, subst, false≢true}
use Rattle.id_lookup.specs.Words.{Kind}
use Rattle.pack_index.specs.Format.{IsPackIndex, IsRefusal}
use Rattle.gix_hash_c.proofs.PackKinds.{of_sha1, of_sha256}
use Rattle.gix_hash_c.proofs.packs.gix_hash_pack_kind.Goals as goal
use Rattle.gix_hash_c.proofs.packs.gix_hash_pack_kind.Goals.{in-Ok, in-Err}

pub returns-in-Err-try_new : goal.returns-in-Err-try_new
returns-in-Err-try_new c =
    let bytes = c.args.bytes.now in
    let refused : IsRefusal c.match-tables.by_tables.0 bytes c.in-Err-try_new.error = c.in-Err-try_new.ensures.err in
    let none : ¬ IsPackIndex c.match-tables.by_tables.0 bytes = λ is. false≢true (c.in-Err-try_new.ensures.accepted.1 is) in
    elim c.match-tables.branch [
      | in-Ok w ↦
          let of = subst (λ (chosen : Kind × ℕ). IsRefusal chosen.0 bytes c.in-Err-try_new.error) w.by_tables-is refused in
          let other = of_sha256 bytes c.in-Err-try_new.error (w.in-Ok.ensures.head, w.in-Ok.ensures.tables) of in
          let own = subst (λ (chosen : Kind × ℕ). ¬ IsPackIndex chosen.0 bytes) w.by_tables-is none in
          inr (inr (refl, other.0, own, (c.in-Err-try_new.error, other.1, c.cause_of.ensures)))
      | in-Err w ↦
          let of = subst (λ (chosen : Kind × ℕ). IsRefusal chosen.0 bytes c.in-Err-try_new.error) w.by_tables-is refused in
          let other = of_sha1 bytes c.in-Err-try_new.error w.in-Err.ensures.err.2 of in
          let own = subst (λ (chosen : Kind × ℕ). ¬ IsPackIndex chosen.0 bytes) w.by_tables-is none in
          inr (inr (refl, own, other.0, (c.in-Err-try_new.error, other.1, c.cause_of.ensures)))
    ]
