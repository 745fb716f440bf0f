use Rattle.object_store.proofs.Held.{no_locate_fault, no_store_fault}
use Rattle.object_store.proofs.laws.failures.Goals as goal

pub returns-clause-buckets : goal.returns-clause-buckets
returns-clause-buckets c = no_store_fault

pub returns-clause-locations : goal.returns-clause-locations
returns-clause-locations c = no_locate_fault
