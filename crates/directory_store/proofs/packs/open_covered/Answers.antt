use Rattle.gix_hash.proofs.Std.{◌≡◌, ◌∙◌, ◌++◌, ap, map, map-append, string_bytes, subst, sym}
use Rattle.pack_index.specs.Lazy.{LazyIndex, seen}
use Rattle.directory_store.specs.Multi.{AreCoveredOrDamaged, AreRead}
use Rattle.directory_store.specs.Packs.{AreOpenOrDamaged, tables_at, tables_seen}
use Rattle.directory_store.specs.Stores.{index_path}
use Rattle.directory_store.specs.declared.multi.Purpose.TheVariants.{Ids}
use Rattle.directory_store.proofs.Covers.{damaged_instead, read_instead}
use Rattle.directory_store.proofs.packs.open_covered.Goals as goal

pub returns-clause-read : goal.returns-clause-read
returns-clause-read g c = λ none at known.
    let kind = c.args.kind in
    let places = map string_bytes c.args.directories.now in
    let listed = map index_path c.args.listed.now in
    let covering = c.in_ok-covering.covering in
    let others = c.in_ok-others.others in
    let paths = map index_path covering.paths.items in
    let left = map index_path covering.left.items in
    let same : map index_path others.paths.items ≡ left = c.in_ok-others.ensures.paths none ∙ ap (map index_path) c.deref.ensures.value in
    let all = ap (map index_path) c.in_ok-append.ensures.items ∙ map-append index_path covering.paths.items others.paths.items ∙ ap (λ l. paths ++ l) same in
    let tables = ap tables_seen c.in_ok-append-2.ensures.items ∙ map-append (λ (index : LazyIndex). (seen index).tables) covering.multis.items others.indexes.items in
    subst (λ p. AreRead at Ids kind places listed p (tables_seen c.append-2.new.self.items)) (sym all)
    (subst (λ t. AreRead at Ids kind places listed (paths ++ left) t) (sym tables)
    (read_instead at kind places listed paths left (tables_seen covering.multis.items) (tables_seen others.indexes.items) (c.in_ok-covering.ensures.instead at known)
    (c.in_ok-others.ensures.tables at known ∙ ap (map (tables_at at kind)) same)))

pub returns-clause-skipped : goal.returns-clause-skipped
returns-clause-skipped g c = λ at known.
    let kind = c.args.kind in
    let places = map string_bytes c.args.directories.now in
    let listed = map index_path c.args.listed.now in
    let covering = c.in_ok-covering.covering in
    let others = c.in_ok-others.others in
    let paths = map index_path covering.paths.items in
    let opened = map index_path others.paths.items in
    let all = ap (map index_path) c.in_ok-append.ensures.items ∙ map-append index_path covering.paths.items others.paths.items in
    subst (λ p. AreCoveredOrDamaged at Ids kind places listed p others.skipped.items) (sym all)
    (damaged_instead at kind places listed paths (map index_path covering.left.items) opened (tables_seen covering.multis.items) others.skipped.items (c.in_ok-covering.ensures.instead at known)
    (subst (λ l. AreOpenOrDamaged at kind (map index_path l) opened others.skipped.items) c.deref.ensures.value (c.in_ok-others.ensures.skipped at known)))
