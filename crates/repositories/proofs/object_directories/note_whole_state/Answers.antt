-- The path of the last look stays, and what was seen there is the state.
use Rattle.gix_hash.proofs.Std.{◌≡◌, ◌∙◌, ◌-◌, ◌<◌, ℕ, List, ap, arith, bytes_decides, get_or-map, length, length-set, set, string_bytes, vec_len}
use Rattle.std.proofs.Math.Seq.{map-set_same}
use Rattle.std.proofs.lemmas.Grind.{get_or-set_at}
use Rattle.repositories.specs.declared.look.Look.{Look}
use Rattle.repositories.specs.declared.look.Seen.{Seen}
use Rattle.repositories.specs.declared.look.Seen.TheVariants.{DirectoryIn}
use Rattle.repositories.proofs.object_directories.note_whole_state.Goals as goal

pub returns-in-Some-clause-paths : goal.returns-in-Some-clause-paths
returns-in-Some-clause-paths c =
    let path = λ (look : Look). string_bytes look.path in
    map-set_same path _ _ _ c.in-Some.look.now (ap path c.in-Some.ensures.value)

pub returns-in-Some-clause-noted : goal.returns-in-Some-clause-noted
returns-in-Some-clause-noted c = λ _.
    let looks = c.args.looks.now.items in
    let some : 0 < length looks = c.in-Some.ensures.item.3.0 in
    let seen : Look → List ℕ × Seen = λ look. (string_bytes look.path, look.seen) in
    let new : Look = record { path = c.in-Some.look.now.path; seen = DirectoryIn c.args.state } in
    let path : string_bytes new.path ≡ c.args.directory.now = grind (arith, bytes_decides, c.as_str.ensures.value, c.eq.ensures, c.if-eq.true) in
    let last = vec_len c.args.looks.now - 1 in
    let all = set looks last new in
    let same = length-set looks last new in
    get_or-map seen all (length all - 1) new _ (omega (arith, some, same))
    ∙ ap seen (get_or-set_at looks last (length all - 1) new new (omega (arith, same)) (omega (arith, some))) ∙ (λ i. (path i, DirectoryIn c.args.state))
