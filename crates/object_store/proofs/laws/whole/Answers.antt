use Rattle.object_store.proofs.Whole.{whole_found, whole_had, whole_has, whole_abbreviation}
use Rattle.object_store.proofs.WholeLocations.{whole_locations}
use Rattle.gix_hash.proofs.Std.{refl}
use Rattle.object_store.proofs.laws.whole.Goals as goal

pub returns-clause-read : goal.returns-clause-read
returns-clause-read c = λ view whole byte read id h r same. (whole_had view whole byte read h r id, whole_has view whole byte read h r id same)

pub returns-clause-ids : goal.returns-clause-ids
returns-clause-ids c = λ view whole byte read digits found h r long same index. whole_found view whole byte read h r digits found long same index

pub returns-clause-abbreviations : goal.returns-clause-abbreviations
returns-clause-abbreviations c = λ view whole read fewest id name h r two is. whole_abbreviation view whole _ read h r fewest id name two refl is

pub returns-clause-locations : goal.returns-clause-locations
returns-clause-locations c = λ view whole id locations h all. whole_locations view whole id locations h all
