use Rattle.gix_hash.proofs.Std.{length, subst, ◌<◌, ◌^◌, ◌-◌, ℕ, List}
use Rattle.std.specs.Option.{MatchOption}
use Rattle.pack_index.specs.Multi.{IsReadAsMulti}
use Rattle.pack_index.specs.declared.layout.Layout.{Layout}
use Rattle.file_commands.proofs.multi.fault_in.Goals as goal

pub loop-byte-init : goal.loop-byte-init
loop-byte-init g c = λ bytes known. (
  c.in-Ok-Some.header.0,
  c.in-Ok-Some-open_multi.multi.ids.layout,
  c.in-Ok-Some-open_multi.multi.names.items,
  subst (λ found. MatchOption found ((layout : Layout) (names : List ℕ) → IsReadAsMulti c.in-Ok-Some.header.0 bytes layout names → 2 ^ 64 - 1 < length names)
      (λ multi. IsReadAsMulti c.in-Ok-Some.header.0 bytes multi.ids.layout multi.names.items))
      c.in-Ok-Some-open_multi.field-0-is (c.in-Ok-Some-open_multi.ensures.read bytes known),
)
