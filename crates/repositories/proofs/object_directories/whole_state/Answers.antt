-- The look is the last but one.
use Rattle.gix_hash.proofs.Std.{◌≡◌, ◌∙◌, ◌-◌, ◌<◌, ℕ, List, ap, arith, bytes_decides, get_or-map, length, length-map, map, string_bytes, sym}
use Rattle.repositories.specs.declared.look.Look.{Look}
use Rattle.repositories.specs.declared.look.Seen.{Seen}
use Rattle.repositories.proofs.object_directories.whole_state.Goals as goal

pub returns-in-DirectoryIn : goal.returns-in-DirectoryIn
returns-in-DirectoryIn c =
    let looks = c.args.looks.now in
    let look = c.look-item.result in
    let seen : Look → List ℕ × Seen = λ look. (string_bytes look.path, look.seen) in
    let low : length looks - 2 < length looks = omega (arith, c.in-len2-up.len_at_least) in
    let path : string_bytes look.path ≡ c.args.directory.now = grind (arith, bytes_decides, c.as_str.ensures.value, c.eq.ensures, c.if-eq.true) in (
      length looks - 2,
      omega (low, arith, length-map looks seen),
      get_or-map seen looks (length looks - 2) look _ low ∙ ap seen (sym c.look-item.is) ∙ (λ i. (path i, c.in-DirectoryIn.is i)),
    )
