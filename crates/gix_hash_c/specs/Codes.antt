-- The numbers of the codes, as the header has them. `LookUps` has those of the causes for which bytes are no pack index.
use Rattle.std.specs.Prelude.{ℕ}

abbrev pub OK : ℕ
OK = 0

abbrev pub BAD_LENGTH : ℕ
BAD_LENGTH = 1

abbrev pub BAD_DIGIT : ℕ
BAD_DIGIT = 2

abbrev pub BAD_KIND : ℕ
BAD_KIND = 3

abbrev pub NO_ROOM : ℕ
NO_ROOM = 4

abbrev pub PREFIX_TOO_LONG : ℕ
PREFIX_TOO_LONG = 5

abbrev pub OUT_OF_RANGE : ℕ
OUT_OF_RANGE = 6

abbrev pub UNSORTED : ℕ
UNSORTED = 7

abbrev pub NOT_UNIQUE : ℕ
NOT_UNIQUE = 8

abbrev pub BAD_TYPE : ℕ
BAD_TYPE = 9
