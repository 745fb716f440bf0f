-- The errors of the searches as causes: each is an error of the search in what a source gives.
use Rattle.list_search.specs.declared.error.SearchError.{SearchError}
use Rattle.list_search.specs.declared.error.SearchError.TheVariants as cause
use Rattle.find_calls.specs.declared.finding.FindError.{FindError}
use Rattle.find_calls.specs.declared.finding.FindError.TheVariants as sorted
use Rattle.find_calls.specs.declared.finding_in.FindInError.{FindInError}
use Rattle.find_calls.specs.declared.finding_in.FindInError.TheVariants as in_kind
use Rattle.find_calls.specs.declared.finding_from.FindFromError.{FindFromError}
use Rattle.find_calls.specs.declared.finding_from.FindFromError.TheVariants as from

-- the cause of an error of `find` and `find_change`
abbrev pub cause_of : FindError → SearchError
cause_of (sorted.Prefix error) = cause.Prefix error
cause_of (sorted.BadLine n error) = cause.BadLine n error
cause_of (sorted.Unsorted n) = cause.Unsorted n
cause_of (sorted.PrefixTooLong hex_len least) = cause.PrefixTooLong hex_len least
cause_of sorted.Memory = cause.Memory
cause_of sorted.Output = cause.Output

-- the cause of an error of `find_in`; `OtherKind` has none, and so it has that of a read that failed, which a text has not
abbrev pub cause_in : FindInError → SearchError
cause_in (in_kind.Prefix error) = cause.Prefix error
cause_in (in_kind.OtherKind kind) = cause.Input
cause_in (in_kind.BadLine n error) = cause.BadLine n error
cause_in (in_kind.WrongKind n) = cause.WrongKind n
cause_in (in_kind.NotRising n) = cause.NotRising n
cause_in in_kind.Memory = cause.Memory
cause_in in_kind.Output = cause.Output

-- the cause of an error of `find_from`
abbrev pub cause_from : FindFromError → SearchError
cause_from (from.Prefix error) = cause.Prefix error
cause_from (from.BadLine n error) = cause.BadLine n error
cause_from (from.Unsorted n) = cause.Unsorted n
cause_from (from.PrefixTooLong hex_len least) = cause.PrefixTooLong hex_len least
cause_from from.Memory = cause.Memory
cause_from from.Output = cause.Output
cause_from from.Input = cause.Input
cause_from from.TooMuch = cause.TooMuch
