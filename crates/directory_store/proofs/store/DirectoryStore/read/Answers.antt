use mathlib.Core.Logic.{∥∥₁_map}
use Rattle.gix_hash.proofs.Std.{◌≡◌, ◌∙◌, ◌++◌, ℕ, [], List, Some, All, All-append, All-cons, All-map, ap, arith, get_or, inr, length, length-append, length-map, map, map-map, nil_from_length, refl, string_bytes, subst, sum, sum_by, sym}
use Rattle.std.proofs.lemmas.List.Sums.{sum-map}
use Rattle.pack_index.specs.Lazy.{LazyIndex}
use Rattle.repositories.specs.Walks.{with_alternates}
use Rattle.directory_store.specs.Loose.{AreLoose}
use Rattle.repositories.specs.Answers.{IfKnown}
use Rattle.directory_store.specs.Opened.{AreLooseOf, AreSkipped}
use Rattle.directory_store.specs.Multi.{AreCoveredOrDamaged, AreRead}
use Rattle.directory_store.specs.Packs.{ArePacks, packs_of, tables_seen, unnamed_in}
use Rattle.directory_store.specs.Stores.{IsUnread, index_path, of_repository}
use Rattle.directory_store.proofs.store.DirectoryStore.read.Given.{Over}
use Rattle.directory_store.proofs.store.DirectoryStore.read.Goals.{In_ok-copy_of}
use Rattle.directory_store.proofs.store.DirectoryStore.read.Goals as goal

-- where nothing is skipped, no alternate is, and no pack index
no_alternate : {A B : Type 0} (f : A → B) (xs : List A) (ys zs : List B) → (map f xs ++ ys) ++ zs ≡ [] → length xs ≡ 0
no_alternate f xs ys zs none = omega (arith, ap length none, length-append (map f xs ++ ys) zs, length-append (map f xs) ys, length-map xs f)

no_index : {B : Type 0} (xs zs : List B) → xs ++ zs ≡ [] → zs ≡ []
no_index xs zs none = nil_from_length zs (omega (arith, ap length none, length-append xs zs))

-- a sum over what is made of each
made : {X Y : Type 0} (f : Y → ℕ) (g : X → Y) (xs : List X) → sum_by (λ x. f (g x)) xs ≡ sum_by f (map g xs)
made f g xs = sym (sum-map (λ x. f (g x)) xs) ∙ ap sum (sym (map-map f g xs)) ∙ sum-map f (map g xs)

pub invariant_of-result-clause-are_opened : goal.invariant_of-result-clause-are_opened
invariant_of-result-clause-are_opened g c = ∣ (λ none at known'.
    let known = sym (g.met.R.StoreFiles.alike c.args.rt.now c.in_ok-clone.field-0 c.in_ok-clone.ensures.cases) ∙ known' in
    let directories = map string_bytes c.in_ok-directories.directories.paths.items in
    let unskipped = no_alternate of_repository c.replace-alternates.result.items c.in_ok-listed.listed.skipped.items c.in_ok-opened.opened.skipped.items (sym c.in_ok-skipped.ensures ∙ none) in
    let undamaged : c.in_ok-opened.opened.skipped.items ≡ [] = no_index _ c.in_ok-opened.opened.skipped.items (sym c.in_ok-skipped.ensures ∙ none) in
    let places = c.in_ok-pack_directories.ensures ∙ ap (map (λ path. packs_of (string_bytes path))) c.deref.ensures.value
    ∙ sym (map-map packs_of string_bytes c.in_ok-directories.directories.paths.items) in
    let listed = map index_path c.in_ok-listed.listed.paths.items in
    let paths = map index_path c.in_ok-opened.opened.paths.items in
    let tables = tables_seen c.in_ok-opened.opened.indexes.items in
    record {
      alternates = subst (λ place. with_alternates place.0 place.1 at ≡ Some (directories, 0)) (sym c.in_ok-copy_of.ensures.place)
          (c.in_ok-directories.ensures.directories at known ∙ ap (λ n. Some (directories, n)) (ap (λ v. length v.items) (sym c.replace-alternates.ensures.value) ∙ unskipped));
      packs = c.in_ok-listed.listed.paths.items;
      listed = subst (λ ds. ArePacks at ds c.in_ok-listed.listed.paths.items) places (c.in_ok-listed.ensures.packs at known);
      read = subst (λ kind. AreRead at c.args.purpose kind (map packs_of directories) listed paths tables) (sym c.in_ok-copy_of.ensures.kind)
          (subst (λ places. AreRead at c.args.purpose c.args.directory.now.kind places listed paths tables) (ap (map string_bytes) c.deref-4.ensures.value ∙ places)
          (subst (λ l. AreRead at c.args.purpose c.args.directory.now.kind (map string_bytes c.deref-4.result.now) (map index_path l) paths tables) c.deref-5.ensures.value
          (c.in_ok-opened.ensures.read undamaged at known)));
    }) ∣₁

pub invariant_of-result-clause-are_loose : goal.invariant_of-result-clause-are_loose
invariant_of-result-clause-are_loose g c = ∣ (λ at known'.
    let known = sym (g.met.R.StoreFiles.alike c.args.rt.now c.in_ok-clone.field-0 c.in_ok-clone.ensures.cases) ∙ known' in
    let kind = c.in_ok-copy_of.field-0.kind in
    let loose = c.in_ok-listed.loose in
    let directories = map string_bytes c.in_ok-directories.directories.paths.items in
    let are : AreLooseOf at kind directories loose =
    subst (λ which. AreLoose at kind which directories loose.directories.items) (sym c.in_ok-listed.ensures.which)
    (subst (λ ds. AreLoose at kind c.args.loose (map string_bytes ds) loose.directories.items) c.deref-3.ensures.value
    (subst (λ k. AreLoose at k c.args.loose (map string_bytes c.deref-3.result.now) loose.directories.items) (sym c.in_ok-copy_of.ensures.kind) (c.in_ok-listed.ensures.loose at known))) in
    All-cons (AreLooseOf at kind directories) loose _ are (λ k d low. absurd (omega (arith, low, ap length c.new-3.ensures.items)))) ∣₁

pub invariant_of-result-clause-of_kind : goal.invariant_of-result-clause-of_kind
invariant_of-result-clause-of_kind g c =
    subst (λ kind. All (λ (index : LazyIndex). index.kind ≡ kind) c.in_ok-opened.opened.indexes.items) (sym c.in_ok-copy_of.ensures.kind) c.in_ok-opened.ensures.kinds

-- why something of the store that is made is skipped
module _ (g : Over) (c : In_ok-copy_of g) where
  reasons : ∥ IfKnown (λ at. AreSkipped at c.args.purpose c.in_ok-copy_of.field-0 (map index_path c.in_ok-opened.opened.paths.items) c.in_ok-skipped.skipped.items)
      (g.R.Directories.answers c.in_ok-clone.field-0) ∥₁
  reasons = ∥∥₁_map c.in_ok-listed.listed.are_unread (λ unnamed at known'.
      let known = sym (g.met.R.StoreFiles.alike c.args.rt.now c.in_ok-clone.field-0 c.in_ok-clone.ensures.cases) ∙ known' in
      let directories = map string_bytes c.in_ok-directories.directories.paths.items in
      let alternates = c.replace-alternates.result.items in
      let listed = c.in_ok-listed.listed in
      let opened = map index_path c.in_ok-opened.opened.paths.items in
      let damaged = c.in_ok-opened.opened.skipped.items in
      let places = c.in_ok-pack_directories.ensures ∙ ap (map (λ path. packs_of (string_bytes path))) c.deref.ensures.value
      ∙ sym (map-map packs_of string_bytes c.in_ok-directories.directories.paths.items) in
      record {
        directories = directories;
        alternates = map of_repository alternates;
        unnamed = listed.skipped.items;
        damaged = damaged;
        packs = listed.paths.items;
        all = c.in_ok-skipped.ensures;
        found = subst (λ place. with_alternates place.0 place.1 at ≡ Some (directories, length (map of_repository alternates))) (sym c.in_ok-copy_of.ensures.place)
            (c.in_ok-directories.ensures.directories at known ∙ ap (λ n. Some (directories, n)) (ap (λ v. length v.items) (sym c.replace-alternates.ensures.value) ∙ sym (length-map alternates of_repository)));
        are_unnamed = sym listed.skipped.ok.0 ∙ c.in_ok-listed.ensures.skipped at known ∙ made (unnamed_in at) string_bytes c.in_ok-pack_directories.pack_directories.paths.items ∙ ap (sum_by (unnamed_in at)) places;
        are_unread = All-append IsUnread (map of_repository alternates) listed.skipped.items (All-map IsUnread of_repository alternates (λ k d low. (get_or alternates k d, refl))) unnamed;
        listed = subst (λ ds. ArePacks at ds listed.paths.items) places (c.in_ok-listed.ensures.packs at known);
        are_damaged = subst (λ kind. AreCoveredOrDamaged at c.args.purpose kind (map packs_of directories) (map index_path listed.paths.items) opened damaged) (sym c.in_ok-copy_of.ensures.kind)
            (subst (λ ds. AreCoveredOrDamaged at c.args.purpose c.args.directory.now.kind ds (map index_path listed.paths.items) opened damaged) (ap (map string_bytes) c.deref-4.ensures.value ∙ places)
            (subst (λ paths. AreCoveredOrDamaged at c.args.purpose c.args.directory.now.kind (map string_bytes c.deref-4.result.now) (map index_path paths) opened damaged) c.deref-5.ensures.value
            (c.in_ok-opened.ensures.skipped at known)));
      })

pub invariant_of-result-clause-have_reasons : goal.invariant_of-result-clause-have_reasons
invariant_of-result-clause-have_reasons g c = ∥∥₁_map (reasons g (goal.at.invariant_of-result-clause-have_reasons g c).In_ok-copy_of) inr

pub returns-clause-reasons : goal.returns-clause-reasons
returns-clause-reasons g c = reasons g (goal.at.returns-clause-reasons g c).In_ok-copy_of
