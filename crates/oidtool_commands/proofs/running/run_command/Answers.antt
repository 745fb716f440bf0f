use Rattle.gix_hash.proofs.Std.{ℕ, Option, List, inr, refl, Keeps}
use Rattle.id_lookup.specs.Words.{Hex, Reverse}
use Rattle.oidtool_commands.specs.Commands.{Does}
use Rattle.list_search.specs.Searches.{Succeeds, From}
use Rattle.oidtool_commands.specs.declared.command.Command.{Command}
use Rattle.oidtool_commands.specs.declared.command.Command.TheVariants.{Find, FindChange, FindIn, Hash, HashFile, Seal}
use Rattle.list_search.specs.declared.search.Search.{Search}
use Rattle.list_search.specs.declared.search.Search.TheVariants.{Sorted, In}
use Rattle.streams.proofs.WritingLemmas.{Appends-kept}
use Rattle.oidtool_commands.proofs.running.run_command.Goals as goal

-- a flush leaves what was written
finds_kept : (search : Search) (prefix : List ℕ) (most : ℕ) (input input' old mid new : Option (List ℕ)) (count : ℕ)
    → Succeeds search prefix (From most input input') old mid count → Keeps mid new → Succeeds search prefix (From most input input') old new count
finds_kept search prefix most input input' old mid new count all keeps = record {
  text = all.text;
  gives = all.gives;
  at_end = all.at_end;
  short = all.short;
  holds = let h = all.holds in record { ids = h.ids; found = h.found; counted = h.counted; written = Appends-kept old mid new _ h.written keeps };
}

does_kept : (asked : Command) (input input' old mid new : Option (List ℕ)) (count : ℕ)
    → Does asked input input' old mid count → Keeps mid new → Does asked input input' old new count
does_kept (Find prefix) input input' old mid new count does keeps = finds_kept (Sorted Hex) prefix.now _ input input' old mid new count does keeps
does_kept (FindChange letters) input input' old mid new count does keeps = finds_kept (Sorted Reverse) letters.now _ input input' old mid new count does keeps
does_kept (FindIn kind prefix) input input' old mid new count does keeps = finds_kept (In kind) prefix.now _ input input' old mid new count does keeps
does_kept (Hash kind) input input' old mid new count (made, one) keeps = ((made.0, made.1, Appends-kept old mid new _ made.2 keeps), one)
does_kept (HashFile kind len path) input input' old mid new count (made, one) keeps = ((made.0, made.1, Appends-kept old mid new _ made.2 keeps), one)
does_kept (Seal kind) input input' old mid new count (made, one) keeps = ((made.0, made.1, Appends-kept old mid new _ made.2 keeps), one)

pub returns-in-Ok-clause-done : goal.returns-in-Ok-clause-done
returns-in-Ok-clause-done g c = does_kept _ _ _ _ _ _ _ c.in_ok-count.ensures.done c.flush.ensures.bytes

pub returns-in-Err-clause-failed : goal.returns-in-Err-clause-failed
returns-in-Err-clause-failed g c = inr (refl, _, does_kept _ _ _ _ _ _ _ c.in_ok-count.ensures.done c.flush.ensures.bytes)
