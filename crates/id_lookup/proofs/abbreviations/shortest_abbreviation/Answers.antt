use Rattle.gix_hash.proofs.Std.{◌≡◌, ◌≤◌, [], length, map, max, refl, take, ap, ◌∙◌, arith}
use Rattle.gix_hash.specs.Words.{KindDigits, hex_len_of, oid_digits, oid_kind}
use Rattle.id_lookup.proofs.Neighbours.{has_room, shortest}
use Rattle.id_lookup.proofs.abbreviations.shortest_abbreviation.Goals as goal

pub returns-then-hex_len-len_in_hex-clause-lacks : goal.returns-then-hex_len-len_in_hex-clause-lacks
returns-then-hex_len-len_in_hex-clause-lacks g c = λ _ sorted. (
  c.unique_len.result,
  c.unique_len.ensures sorted,
  omega (arith, c.max-hex_len.ensures, c.if-hex_len-len_in_hex.true, c.len_in_hex.ensures, ap hex_len_of c.kind.ensures.value, c.id_at-id.ensures.len, ap length (c.id_at-id.ensures.digits [])),
)

pub returns-then-hex_len-len_in_hex-clause-none : goal.returns-then-hex_len-len_in_hex-clause-none
returns-then-hex_len-len_in_hex-clause-none g c = λ is sorted name short.
    let lacks = returns-then-hex_len-len_in_hex-clause-lacks g c is sorted in
    omega (arith, lacks.2, has_room (map g.I.Id.digits c.args.ids.now) c.args.least c.args.at name short lacks.0 (max lacks.0 c.args.least) lacks.1 refl)

pub returns-clause-abbreviation : goal.returns-clause-abbreviation
returns-clause-abbreviation g c sorted =
    let enough : 4 ≤ c.max-hex_len.result = omega (arith, c.requires.enough, c.max-hex_len.ensures) in
    let few : c.max-hex_len.result ≤ hex_len_of (oid_kind c.id_at-id.result) =
    omega (arith, c.if-hex_len-len_in_hex.false, c.len_in_hex.ensures, ap hex_len_of c.kind.ensures.value) in
    let made : c.unwrap.result ≡ record { kind = oid_kind c.id_at-id.result; digits = take c.max-hex_len.result (oid_digits c.id_at-id.result) } =
    (let answer = c.new.ensures.ok enough few in let unwrapped = c.unwrap.ensures in cc) in
    shortest (map g.I.Id.digits c.args.ids.now) c.args.least c.args.at c.unique_len.result c.max-hex_len.result c.unwrap.result.digits
    (c.unique_len.ensures sorted) c.max-hex_len.ensures (omega (arith, few, c.id_at-id.ensures.len, ap length (c.id_at-id.ensures.digits [])))
    (ap (λ (prefix : KindDigits). prefix.digits) made ∙ ap (take c.max-hex_len.result) (c.id_at-id.ensures.digits []))
