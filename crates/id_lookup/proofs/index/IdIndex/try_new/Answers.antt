use Rattle.gix_hash.proofs.Std.{◌≡◌, [], length, map, sym, ap, ◌∙◌, arith, false≢true, length-map, AllWithin-more}
use Rattle.gix_hash.specs.Words.{hex_len_of}
use Rattle.id_lookup.proofs.Indexes.{index_more, no_other, wrong_there, not_rising, no_index}
use Rattle.id_lookup.specs.declared.index.IndexError.TheVariants.{WrongKind, NotRising}
use Rattle.id_lookup.proofs.index.IdIndex.try_new.Goals as goal

pub loop-at-preserved : goal.loop-at-preserved
loop-at-preserved g c =
    let all = length-map c.args.ids.now g.I.Id.digits in
    let right = no_other _ _ (sym c.ne.ensures ∙ c.if-ne.false) in
    record {
      index = index_more c.args.kind (map g.I.Id.digits c.args.ids.now) c.loop-at.at c.loop-at.invariant.index (omega arith)
          (ap length (sym (c.id_at.ensures.digits [])) ∙ c.id_at.ensures.len ∙ ap hex_len_of (sym c.kind.ensures.value ∙ right)) (c.is_above_previous.ensures.0 c.if-not-is_above_previous.false);
      kinds = AllWithin-more (λ id. g.I.Id.kind id ≡ c.args.kind) c.args.ids.now 0 c.loop-at.at c.loop-at.invariant.kinds
          (λ d. sym (c.id_at.ensures.kind d) ∙ sym c.kind.ensures.value ∙ right);
    }

pub returns-then-ne-clause-err : goal.returns-then-ne-clause-err
returns-then-ne-clause-err g c =
    wrong_there c.args.kind c.kind.result (map g.I.Id.digits c.args.ids.now) c.loop-at.at
    (omega (arith, c.loop-at-test.true, length-map c.args.ids.now g.I.Id.digits)) c.loop-at.invariant.index
    (ap length (sym (c.id_at.ensures.digits [])) ∙ c.id_at.ensures.len ∙ ap hex_len_of (sym c.kind.ensures.value)) (sym c.ne.ensures ∙ c.if-ne.true)

pub returns-then-ne-clause-index : goal.returns-then-ne-clause-index
returns-then-ne-clause-index g c =
    (λ fails. absurd (false≢true fails), λ index. absurd (no_index c.args.kind (map g.I.Id.digits c.args.ids.now) (WrongKind c.loop-at.at) (returns-then-ne-clause-err g c) index))

pub returns-then-not-is_above_previous-clause-err : goal.returns-then-not-is_above_previous-clause-err
returns-then-not-is_above_previous-clause-err g c =
    not_rising c.args.kind (map g.I.Id.digits c.args.ids.now) c.loop-at.at c.is_above_previous.result
    (omega (arith, c.loop-at-test.true, length-map c.args.ids.now g.I.Id.digits)) c.loop-at.invariant.index
    (ap length (sym (c.id_at.ensures.digits [])) ∙ c.id_at.ensures.len ∙ ap hex_len_of (sym c.kind.ensures.value ∙ no_other _ _ (sym c.ne.ensures ∙ c.if-ne.false)))
    c.is_above_previous.ensures c.if-not-is_above_previous.true

pub returns-then-not-is_above_previous-clause-index : goal.returns-then-not-is_above_previous-clause-index
returns-then-not-is_above_previous-clause-index g c =
    (λ fails. absurd (false≢true fails), λ index. absurd (no_index c.args.kind (map g.I.Id.digits c.args.ids.now) (NotRising c.loop-at.at) (returns-then-not-is_above_previous-clause-err g c) index))
