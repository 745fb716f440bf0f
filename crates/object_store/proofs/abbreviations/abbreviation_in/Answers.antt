use Rattle.gix_hash.proofs.Std.{◌≡◌, ◌∙◌, ◌+◌, ◌∷◌, [], ℕ, List, ap, arith, get_or, map, get_or_from_slice_get, get_or-map, length-map, nil_from_length}
use Rattle.id_lookup.specs.Words.{IsRun, id_digits}
use Rattle.id_lookup.proofs.Indexes.{index-sorted, run_ending}
use Rattle.object_store.proofs.Abbreviated.{only_one, run_length}
use Rattle.object_store.proofs.LooseParts.{index_least}
use Rattle.object_store.proofs.AbbreviationsAmong.{abbreviation_there}
use Rattle.object_store.proofs.abbreviations.abbreviation_in.Goals as goal

pub find_assuming_sorted-run-requires : goal.find_assuming_sorted-run-requires
find_assuming_sorted-run-requires c =
    omega (arith, index_least c.args.prefix.now.kind (map id_digits c.args.ids.now) c.requires.index, c.hex_len-hex_len.ensures.value, c.hex_len-hex_len.ensures.at_most_kind)

pub returns-in-0 : goal.returns-in-0
returns-in-0 c =
    let run = c.find_assuming_sorted-run.ensures.run (index-sorted _ _ c.requires.index) in
    nil_from_length _ (omega (arith, run_length _ _ _ run, c.in-0.is))

pub returns-in-1 : goal.returns-in-1
returns-in-1 c =
    let given = c.args.ids.now in
    let ids = map id_digits given in
    let run = c.find_assuming_sorted-run.ensures.run (index-sorted _ _ c.requires.index) in
    let at = c.find_assuming_sorted-run.result.start in
    let id = c.abbreviated_at.result.id in
    let one : IsRun c.args.prefix.now ids (record { start = at; end = at + 1 }) = run_ending c.args.prefix.now ids _ (at + 1) run (omega (arith, c.in-1.is, c.find_assuming_sorted-run.ensures.in_order)) in
    let is : get_or ids at [] ≡ id_digits id =
    get_or-map id_digits given at id [] (omega (arith, one.in_range, length-map given id_digits)) ∙ ap id_digits (get_or_from_slice_get given at id id c.abbreviated_at.ensures.id) in
    let kind = c.args.prefix.now.kind in
    let same : c.kind.result ≡ kind = c.kind.ensures.value ∙ c.as_oid.ensures.kind in
    let name = abbreviation_there kind c.args.least ids c.requires.index at (id_digits id) c.abbreviated_at.result.abbreviation.digits (omega (arith, one.in_range)) is c.abbreviated_at.ensures.abbreviation in
    (only_one c.args.prefix.now ids at one ∙ ap (λ (x : List ℕ). x ∷ []) is, name, rw (← same) c.abbreviated_at.ensures.kind)

pub returns-in_default : goal.returns-in_default
returns-in_default c = omega (arith, run_length _ _ _ (c.find_assuming_sorted-run.ensures.run (index-sorted _ _ c.requires.index)))
