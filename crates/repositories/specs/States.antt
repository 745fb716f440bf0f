-- States of directories and files.
use Rattle.std.specs.Prelude.{ℕ, ℤ, pos, negsuc, ◌+◌, ◌%◌, ◌<◌, ◌==◌, if◌then◌else◌}
use Rattle.std.specs.Time.{system_time_nanos}
use Rattle.std.specs.declared.time.SystemTime.{SystemTime}
use Rattle.std.specs.Duration.{as_nanos}
use Rattle.std.specs.declared.time.Duration.{Duration}
use Rattle.repositories.specs.declared.state.FileState.{FileState}

-- a number, or 0 if it is negative
abbrev pub from_zero : ℤ → ℕ
from_zero (pos n) = n
from_zero (negsuc n) = 0

-- a time of a file is earlier than now by 20 ms, or by 2 s if it is a whole second, so each later change leaves another time
abbrev pub IsPast : SystemTime → Duration → Type 0
IsPast now time = as_nanos time + (if as_nanos time % 1_000_000_000 == 0 then 2_000_000_000 else 20_000_000) < system_time_nanos now

-- both times of a state are past, so each later change leaves another state
abbrev pub IsSettled : SystemTime → FileState → Type 0
IsSettled now state = IsPast now state.modified × IsPast now state.changed
