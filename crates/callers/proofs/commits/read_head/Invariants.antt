use Rattle.std.proofs.Common.{◌≡◌, ◌++◌, length, All, codes}
use Rattle.gix_hash.specs.Words.{id_digits, id_kind}
use Rattle.callers.specs.Commits.{keyed_then, parent_lines}
use Rattle.callers.proofs.commits.read_head.Given as goal

abbrev pub invariant-loop-parent : goal.invariant-loop-parent
invariant-loop-parent l =
    (l.fn.text ≡ keyed_then (codes "tree ") (id_digits l.tree) (parent_lines l.parents.items ++ l.rest)) × All (λ id. id_kind id ≡ l.kind) l.parents.items

abbrev pub decreases-loop-parent : goal.decreases-loop-parent
decreases-loop-parent l = length l.rest
