-- The head of a commit.
use Rattle.std.specs.Prelude.{◌≡◌, ◌≢◌, ◌++◌, ℕ, List, [], All, codes, flat_map}
use Rattle.gix_hash.specs.Words.{AreIdDigits, id_digits, id_kind}
use Rattle.gix_hash.specs.declared.Kind.{Kind}
use Rattle.gix_hash.specs.declared.ObjectId.{ObjectId}
use Rattle.callers.specs.Printed.{line_then}

-- a line of a key and digits, and the rest after it
abbrev pub keyed_then : List ℕ → List ℕ → List ℕ → List ℕ
keyed_then key digits rest = key ++ line_then digits rest

-- no line of the key and an id of the kind begins the text
abbrev pub HasNoKeyed : Kind → List ℕ → List ℕ → Type 0
HasNoKeyed kind key text = (digits rest : List ℕ) → AreIdDigits kind digits → text ≢ keyed_then key digits rest

-- the lines of parents
abbrev pub parent_lines : List ObjectId → List ℕ
parent_lines parents = flat_map (λ id. keyed_then (codes "parent ") (id_digits id) []) parents

-- the text is a line of the tree, those of all parents, and the rest. All ids have the kind
pub record IsHead (kind : Kind) (text : List ℕ) (tree : ObjectId) (parents : List ObjectId) (rest : List ℕ) : Type 0 where
  pub tree_kind : id_kind tree ≡ kind
  pub parent_kinds : All (λ id. id_kind id ≡ kind) parents
  pub lines : text ≡ keyed_then (codes "tree ") (id_digits tree) (parent_lines parents ++ rest)
  pub all : HasNoKeyed kind (codes "parent ") rest
