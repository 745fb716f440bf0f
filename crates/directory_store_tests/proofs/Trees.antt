-- What a tree in memory answers, if that is known.
use Rattle.gix_hash.proofs.Std.{◌≡◌, ◌∙◌, ℕ, IsNone, None, Option, Some, ap, is_some, none-some, refl, same_Some, sym}
use Rattle.repositories.specs.Answers.{Answers}
use Rattle.directory_store_tests.specs.Trees.{answers_in, answers_of}
use Rattle.directory_store_tests.specs.declared.mem_tree.MemTree.{MemTree}

-- no call is told to fail then, and the answers are those of what is there
pub answers_are : (tree : MemTree) (at : Answers) → answers_of tree ≡ Some at → IsNone tree.fails_at × (at ≡ answers_in tree.entries.now)
answers_are tree at known = go tree.fails_at refl
  where
    go : (fails : Option ℕ) → tree.fails_at ≡ fails → IsNone tree.fails_at × (at ≡ answers_in tree.entries.now)
    go None none =
        let is : answers_of tree ≡ Some (answers_in tree.entries.now) = rw none refl in
        (ap is_some none, same_Some at (answers_in tree.entries.now) (sym known ∙ is))
    go (Some call) some =
        let is : answers_of tree ≡ None = rw some refl in
        absurd (none-some at (sym is ∙ known))
