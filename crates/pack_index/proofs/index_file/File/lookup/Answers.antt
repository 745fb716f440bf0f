use Rattle.gix_hash.proofs.Std.{length, sym, ap, subst, ◌∙◌, slice_range}
use Rattle.id_lookup.specs.Words.{KindDigits, hex_len_of}
use Rattle.pack_index.specs.Format.{IndexFile, IsFirstIndexOf, crc_table_start, ids_in, ids_start}
use Rattle.id_lookup.proofs.Indexes.{no_other}
use Rattle.pack_index.proofs.Counted.{length-digests_in_at}
use Rattle.pack_index.proofs.Looked.{kinds_differ, present}
use Rattle.pack_index.proofs.index_file.File.lookup.Goals as goal

pub returns-then-ne : goal.returns-then-ne
returns-then-ne c = λ k inside same.
    let file = c.args.self.now in
    let long = length-digests_in_at file.kind (slice_range file.bytes ids_start (crc_table_start file.kind file.bytes)) k inside in
    let own = sym (ap (λ (f : IndexFile). f.kind) c.self.view_is) in
    kinds_differ c.kind.result c.self.inside.kind (sym c.ne.ensures ∙ c.if-ne.true)
    (ap hex_len_of c.kind.ensures.value ∙ sym c.kind.ensures.len ∙ sym (ap length same) ∙ long ∙ ap hex_len_of own)

pub find_prefix-run-requires : goal.find_prefix-run-requires
find_prefix-run-requires c =
    ap (λ (p : KindDigits). p.kind) c.all_digits-prefix.ensures ∙ sym c.kind.ensures.value
    ∙ no_other c.kind.result c.self.inside.kind (sym c.ne.ensures ∙ c.if-ne.false) ∙ ap (λ (f : IndexFile). f.kind) c.self.view_is

pub returns : goal.returns
returns c =
    let file = c.args.self.now in
    let names = ids_in file.kind file.bytes in
    let digits = ap (λ (p : KindDigits). p.digits) c.all_digits-prefix.ensures in
    let kind = ap (λ (p : KindDigits). p.kind) c.all_digits-prefix.ensures ∙ sym c.kind.ensures.value
    ∙ no_other c.kind.result c.self.inside.kind (sym c.ne.ensures ∙ c.if-ne.false) ∙ ap (λ (f : IndexFile). f.kind) c.self.view_is in
    subst (λ ds. IsFirstIndexOf names ds c.find_prefix-run.result.start) digits
    (present c.all_digits-prefix.result names c.find_prefix-run.result c.find_prefix-run.ensures c.beginnings.ensures.digits
    (λ k inside. length-digests_in_at file.kind (slice_range file.bytes ids_start (crc_table_start file.kind file.bytes)) k inside
    ∙ sym (ap hex_len_of kind) ∙ ap hex_len_of (ap (λ (p : KindDigits). p.kind) c.all_digits-prefix.ensures) ∙ sym c.kind.ensures.len ∙ sym (ap length digits))
    c.if-run.false)
