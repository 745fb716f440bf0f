-- Words by their number, and words that are rejected.
use Rattle.gix_hash.proofs.Std.{ℕ, List, [], ◌∷◌, refl, codes}
use Rattle.gix_hash.specs.Words.{IsNameOf}
use Rattle.gix_hash.specs.declared.Kind.{Kind}
use Rattle.oidtool_commands.specs.declared.command.ArgError.{ArgError}
use Rattle.oidtool_commands.specs.declared.command.ArgError.TheVariants.{Usage, BadKind, BadNumber}
use Rattle.oidtool_commands.specs.CommandLines.{TakesKind, IsKindRefusal, IsNumberRefusal, IsWordsRefusal}

-- a word that is rejected as a kind, in the words of its command
pub refuses_kind : (words : List (List ℕ)) (word : List ℕ) (e : ArgError) → TakesKind words word → IsKindRefusal word e → IsWordsRefusal words e
refuses_kind words word Usage takes h = absurd h
refuses_kind words word (BadKind text) takes h = (rw h.0 takes, rw h.0 h.1)
refuses_kind words word (BadNumber text) takes h = absurd h

-- a word that is rejected as a number, if the word before it is a kind
pub refuses_number : (name word path : List ℕ) (kind : Kind) (e : ArgError) → IsNameOf name kind → IsNumberRefusal word e
    → IsWordsRefusal (codes "hash-file" ∷ name ∷ word ∷ path ∷ []) e
refuses_number name word path kind Usage named h = absurd h
refuses_number name word path kind (BadKind text) named h = absurd h
refuses_number name word path kind (BadNumber text) named h = (kind, name, path, rw h.0 refl, named, rw h.0 h.1)
