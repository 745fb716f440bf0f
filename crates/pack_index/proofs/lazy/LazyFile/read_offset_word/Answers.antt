use Rattle.gix_hash.proofs.Std.{◌≡◌, ◌∙◌, ◌+◌, ◌*◌, ◌<◌, ap, subst, arith, rules, IsTrue, err_from_is_err_and}
use Rattle.id_lookup.specs.Words.{Kind}
use Rattle.pack_index.specs.Format.{num_objects, offset_table_start}
use Rattle.pack_index.specs.Lazy.{LazyIndex}
use Rattle.pack_index.proofs.Known.{by_bytes}
use Rattle.pack_index.proofs.Layouts.{head_count_is}
use Rattle.pack_index.proofs.ReadOffsets.{word_inside, word_is}
use Rattle.pack_index.proofs.lazy.LazyFile.read_offset_word.Goals as goal

pub returns-clause-word : goal.returns-clause-word
returns-clause-word g c = λ bytes is.
    let known = rw (← c.self.view_is) at is in
    let kind : c.self.inside.kind ≡ c.args.self.now.kind = ap (λ (f : LazyIndex). f.kind) c.self.view_is in
    let count = head_count_is _ _ _ _ bytes (c.self.invariant.2 bytes known).0 (ap (λ (f : LazyIndex). f.layout) c.self.view_is ∙ c.requires.index) in
    let begins = ap (λ n. n + 4 * c.args.at) (c.offset_table_start.ensures.start ∙ ap (λ (k : Kind). offset_table_start k c.self.inside.head) kind) in
    c.word_at.ensures
    ∙ word_is c.args.self.now.kind bytes c.self.inside.head count c.read_exact_at.new.buf c.args.at (c.offset_table_start.result + 4 * c.args.at) begins
    (c.in_ok-read_exact_at.ensures.bytes bytes known) (first_of (search rules, omega arith))

pub returns-in_err-read_exact_at-clause-err : goal.returns-in_err-read_exact_at-clause-err
returns-in_err-read_exact_at-clause-err g c =
    let failed = err_from_is_err_and c.from_residual.result c.from_residual.ensures.1 in
    rw (failed.1, failed.2) (by_bytes c.args.self.now.kind c.args.self.now.layout _ _ (λ bytes is.
    let has = (c.self.invariant.2 bytes (rw (← c.self.view_is) at is)).0 in
    let index = ap (λ (f : LazyIndex). f.layout) c.self.view_is ∙ c.requires.index in
    let low : c.args.at < num_objects c.self.inside.head = omega (arith, c.requires.in_range, ap (λ (f : LazyIndex). f.count) c.self.view_is) in
    let begins = ap (λ n. n + 4 * c.args.at) c.offset_table_start.ensures.start in
    subst (λ (f : LazyIndex). IsTrue f.can_fail) c.self.view_is
    (c.in_err-read_exact_at.ensures.err bytes (rw (← c.self.view_is) at is)
    (word_inside c.self.inside.kind bytes c.self.inside.head (head_count_is _ _ _ _ bytes has index) c.args.at (c.offset_table_start.result + 4 * c.args.at) (has.fills index) low begins))))
