use Rattle.gix_hash.proofs.Std.{ℕ, ◌<◌, List, slice_index, get_or, All}
use Rattle.id_lookup.proofs.FirstByteOrder.{are_digits}
use Rattle.id_lookup.proofs.PartsInOrder.{part-run, parts-row}
use Rattle.id_lookup.proofs.part_laws.parts_in_order.Goals as goal

second : (ids : List (List ℕ)) → All (λ id. All (λ d. d < 16) id) ids → All (λ id. slice_index id 1 < 16) ids
second ids each k d low = are_digits (get_or ids k d) (each k d low) 1

pub returns-clause-run : goal.returns-clause-run
returns-clause-run c = λ ids byte sorted each. part-run ids sorted (second ids each) byte

pub returns-clause-all : goal.returns-clause-all
returns-clause-all c = λ ids n sorted each small. parts-row ids sorted (second ids each) n small
