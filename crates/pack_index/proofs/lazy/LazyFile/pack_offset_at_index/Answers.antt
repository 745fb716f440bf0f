use Rattle.gix_hash.proofs.Std.{◌≡◌, ◌≢◌, ◌∙◌, ℕ, ◌+◌, ◌-◌, ◌*◌, List, None, Some, length, refl, sym, ap, subst, arith, rules, IsTrue, err_from_is_err_and}
use Rattle.id_lookup.specs.Words.{Kind}
use Rattle.pack_index.specs.Format.{long_table_start, long_word, tables_end}
use Rattle.pack_index.specs.Lazy.{LazyIndex, offset_at, tables_of}
use Rattle.pack_index.specs.declared.layout.Layout.{Layout}
use Rattle.pack_index.specs.declared.layout.Layout.TheVariants.{Index, Multi}
use Rattle.pack_index.proofs.Known.{by_bytes}
use Rattle.pack_index.proofs.Layouts.{count_is, head_count_is}
use Rattle.pack_index.proofs.ReadOffsets.{long_offset, longs_start, no_long, short_offset}
use Rattle.pack_index.proofs.lazy.LazyFile.pack_offset_at_index.Given.{Over}
use Rattle.pack_index.proofs.lazy.LazyFile.pack_offset_at_index.Goals.{After-from-2}
use Rattle.pack_index.proofs.lazy.LazyFile.pack_offset_at_index.Goals as goal

-- where the 8-byte offset is, and where all of them end
long_starts : (g : Over) (c : After-from-2 g) (bytes : List ℕ) → c.args.self.now.content ≡ Some bytes
    → (c.long_table_start.result + 8 * c.from-2.result ≡ long_table_start c.args.self.now.kind bytes + 8 * (c.in_ok-word.word - long_word))
    × (c.self.inside.end ≡ tables_end c.args.self.now.kind bytes)
long_starts g c bytes is =
    let has = (c.self.invariant.2 bytes (rw (← c.self.view_is) at is)).0 in
    let index : c.self.inside.layout ≡ Index = search rules in
    let kind : c.self.inside.kind ≡ c.args.self.now.kind = ap (λ (f : LazyIndex). f.kind) c.self.view_is in
    let starts = c.long_table_start.ensures.start ∙ longs_start c.self.inside.kind bytes c.self.inside.head (head_count_is _ _ _ _ bytes has index) ∙ ap (λ (k : Kind). long_table_start k bytes) kind in
    (omega (arith, starts, c.from-2.ensures), has.ends index ∙ ap (λ (k : Kind). tables_end k bytes) kind)

-- the offset that the tables have is that of a pack index
offset_is : (kind : Kind) (layout : Layout) (bytes : List ℕ) (at : ℕ) → layout ≡ Index → (tables_of kind layout bytes).offset at ≡ offset_at kind Index bytes at
offset_is kind layout bytes at is = ap (λ (l : Layout). (tables_of kind l bytes).offset at) is

no_offset : (kind : Kind) (layout : Layout) (bytes : List ℕ) (at : ℕ) → layout ≢ Index → (tables_of kind layout bytes).offset at ≡ None
no_offset kind Index bytes at other = absurd (other refl)
no_offset kind (Multi counts ids) bytes at other = refl

pub returns-then-ne-clause-err : goal.returns-then-ne-clause-err
returns-then-ne-clause-err g c =
    rw (← c.self.view_is) (by_bytes c.self.inside.kind c.self.inside.layout _ _ (λ bytes is.
    let has = (c.self.invariant.2 bytes is).0 in
    (refl, omega (arith, c.requires, ap (λ (f : LazyIndex). f.count) c.self.view_is, count_is _ _ _ _ bytes has), no_offset c.self.inside.kind c.self.inside.layout bytes c.args.at (search rules))))

pub returns-then-word-lt-LONG-clause-offset : goal.returns-then-word-lt-LONG-clause-offset
returns-then-word-lt-LONG-clause-offset g c =
    let self = c.args.self.now in
    by_bytes self.kind self.layout _ _ (λ bytes is.
    offset_is self.kind self.layout bytes c.args.at (search rules)
    ∙ short_offset self.kind bytes c.args.at c.in_ok-word.word (c.in_ok-word.ensures.word bytes is) c.if-word-lt-LONG.true ∙ ap Some (sym c.from.ensures))

pub returns-then-start-self-clause-err : goal.returns-then-start-self-clause-err
returns-then-start-self-clause-err g c =
    let self = c.args.self.now in
    by_bytes self.kind self.layout _ _ (λ bytes is.
    let start = long_starts g (goal.at.returns-then-start-self-clause-err g c).After-from-2 bytes is in
    let has = (c.self.invariant.2 bytes (rw (← c.self.view_is) at is)).0 in (
      refl,
      omega (arith, c.requires, ap (λ (f : LazyIndex). f.count) c.self.view_is, ap (λ (f : LazyIndex). length (tables_of f.kind f.layout bytes).ids) c.self.view_is, count_is _ _ _ _ bytes has),
      offset_is self.kind self.layout bytes c.args.at (search rules)
          ∙ no_long _ bytes c.args.at _ (c.in_ok-word.ensures.word bytes is) c.if-word-lt-LONG.false _ _ start.0 start.1 c.if-start-self.true,
    ))

pub returns-in_err-read_exact_at-clause-err : goal.returns-in_err-read_exact_at-clause-err
returns-in_err-read_exact_at-clause-err g c =
    let failed = err_from_is_err_and c.from_residual-in_err-read_exact_at.result c.from_residual-in_err-read_exact_at.ensures.1 in
    rw (failed.1, failed.2) (by_bytes c.args.self.now.kind c.args.self.now.layout _ _ (λ bytes is.
    let start = long_starts g (goal.at.returns-in_err-read_exact_at-clause-err g c).After-from-2 bytes is in
    subst (λ (f : LazyIndex). IsTrue f.can_fail) c.self.view_is
    (c.in_err-read_exact_at.ensures.err bytes (rw (← c.self.view_is) at is) (omega (arith, start.1, c.if-start-self.false)))))

pub returns-clause-offset : goal.returns-clause-offset
returns-clause-offset g c =
    let self = c.args.self.now in
    by_bytes self.kind self.layout _ _ (λ bytes is.
    let start = long_starts g (goal.at.returns-clause-offset g c).After-from-2 bytes is in
    offset_is self.kind self.layout bytes c.args.at (search rules)
    ∙ long_offset _ bytes c.args.at _ (c.in_ok-word.ensures.word bytes is) c.if-word-lt-LONG.false _ _ start.0 start.1 c.if-start-self.false c.long_word_at.result c.read_exact_at.new.buf
    (c.in_ok-read_exact_at.ensures.bytes bytes (rw (← c.self.view_is) at is)) (first_of (search rules, omega arith)) c.long_word_at.ensures)
