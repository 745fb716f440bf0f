use mathlib.Core.Logic.{∥∥₁_map}
use Rattle.gix_hash.proofs.Std.{All-cons, All-contains, All-head, All-tail, get_or, map, string_bytes, subst, sym}
use Rattle.directory_store.specs.Loose.{AreLoose}
use Rattle.directory_store.specs.Opened.{AreLooseOf}
use Rattle.directory_store.proofs.store.DirectoryStore.loose_now.Goals as goal

pub invariant_of-self-clause-are_loose : goal.invariant_of-self-clause-are_loose
invariant_of-self-clause-are_loose g c =
    let self = c.args.self.now in
    let before = self.loose_before.items in
    let left = c.take_loose.new.listed.items in
    ∥∥₁_map self.are_loose (λ are at known.
    let Is = AreLooseOf at self.directory.kind (map string_bytes self.directories.paths.items) in
    let all = are at known in
    All-cons Is self.loose left (All-head Is self.loose before all) (λ k d low. All-contains Is before (get_or left k d) (All-tail Is self.loose before all) (c.take_loose.ensures.left k d low)))

pub returns-clause-are_loose : goal.returns-clause-are_loose
returns-clause-are_loose g c =
    let self = c.args.self.now in
    let before = self.loose_before.items in
    ∥∥₁_map self.are_loose (λ are at known.
    let Is = AreLooseOf at self.directory.kind (map string_bytes self.directories.paths.items) in
    All-contains Is before c.in-Some.listed (All-tail Is self.loose before (are at known)) c.in-Some.ensures.taken)

pub returns-2-clause-are_loose : goal.returns-2-clause-are_loose
returns-2-clause-are_loose g c = ∣ (λ at known.
    let self = c.in_default.self in
    let listed = c.in_ok-listed.listed in
    subst (λ which. AreLoose at self.directory.kind which (map string_bytes self.directories.paths.items) listed.directories.items) (sym c.in_ok-listed.ensures.which)
    (subst (λ paths. AreLoose at self.directory.kind c.args.loose (map string_bytes paths) listed.directories.items) c.deref-2.ensures.value (c.in_ok-listed.ensures.loose at known))) ∣₁
