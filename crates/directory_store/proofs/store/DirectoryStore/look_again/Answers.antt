use mathlib.Core.Logic.{∥∥₁_map₂}
use Rattle.gix_hash.proofs.Std.{◌≡◌, ◌∙◌, All, All-cons, All-head, All-tail, ap, map, string_bytes, subst, sym}
use Rattle.directory_store.specs.Opened.{AreLooseOf}
use Rattle.directory_store.specs.declared.loose.LooseObjects.{LooseObjects}
use Rattle.directory_store.proofs.Members.{pushed}
use Rattle.directory_store.proofs.store.DirectoryStore.look_again.Goals as goal

pub invariant_of-self-then-not-is_listed-clause-before_of_kind : goal.invariant_of-self-then-not-is_listed-clause-before_of_kind
invariant_of-self-then-not-is_listed-clause-before_of_kind g c =
    let self = c.loose_now.new.self in
    let Is : LooseObjects → Type 0 = λ loose. loose.kind ≡ self.directory.kind in
    subst (All Is) (sym c.push.ensures.items) (pushed Is self.loose_before.items c.replace-last.result _ self.before_of_kind (ap (λ (l : LooseObjects). l.kind) c.replace-last.ensures.value ∙ self.loose_of_kind))

pub invariant_of-self-then-not-is_listed-clause-are_loose : goal.invariant_of-self-then-not-is_listed-clause-are_loose
invariant_of-self-then-not-is_listed-clause-are_loose g c =
    let self = c.loose_now.new.self in
    let before = self.loose_before.items in
    ∥∥₁_map₂ c.in_ok-chosen.ensures.are_loose self.are_loose (λ chosen are at known.
    let Is = AreLooseOf at self.directory.kind (map string_bytes self.directories.paths.items) in
    All-cons Is c.replace-last.new.dest c.push.new.self.items (subst Is (sym c.replace-last.ensures.after) (chosen at known))
    (subst (All Is) (sym c.push.ensures.items) (pushed Is before c.replace-last.result _ (All-tail Is self.loose before (are at known))
    (subst Is (sym c.replace-last.ensures.value) (All-head Is self.loose before (are at known))))))

pub invariant_of-self-else-not-is_listed-clause-are_loose : goal.invariant_of-self-else-not-is_listed-clause-are_loose
invariant_of-self-else-not-is_listed-clause-are_loose g c =
    let self = c.loose_now.new.self in
    let before = self.loose_before.items in
    ∥∥₁_map₂ c.in_ok-chosen.ensures.are_loose self.are_loose (λ chosen are at known.
    let Is = AreLooseOf at self.directory.kind (map string_bytes self.directories.paths.items) in
    All-cons Is c.replace-last.new.dest before (subst Is (sym c.replace-last.ensures.after) (chosen at known)) (All-tail Is self.loose before (are at known)))
