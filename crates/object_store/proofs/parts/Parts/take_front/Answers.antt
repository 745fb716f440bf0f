use Rattle.gix_hash.proofs.Std.{ℕ, List, ◌∙◌, subst, sym}
use Rattle.gix_hash.proofs.Equalities.{prefix_eq-parts}
use Rattle.object_store.specs.Stores.{AreMatches}
use Rattle.object_store.proofs.parts.Parts.take_front.Goals as goal

pub returns-then-eq-clause-prefix : goal.returns-then-eq-clause-prefix
returns-then-eq-clause-prefix g c = ((prefix_eq-parts c.in-Some.last.prefix c.args.prefix).0 (sym c.eq.ensures ∙ c.if-eq.true)).1

pub returns-then-eq-clause-matches : goal.returns-then-eq-clause-matches
returns-then-eq-clause-matches g c =
    let last = c.in-Some.last in
    let kept = c.self.invariant.1 last (sym c.take.ensures.value ∙ c.in-Some.is) in
    subst (λ (digits : List ℕ). AreMatches (g.S.Store.view c.args.self.now.now) digits last.ids.items) (returns-then-eq-clause-prefix g c) (rw (← c.self.view_is) kept)
