-- What contracts see of prefixes.
use Rattle.std.specs.Prelude.{ℕ, ◌++◌, ◌≡◌, ◌≤◌, Bool, List, length, nat_eq}
use Rattle.std.specs.Cmp.Lexicographic.{pointwise, slice_cmp}
use Rattle.std.specs.Ordering.{eq_of_both, nat_cmp, on, then_cmp}
use Rattle.std.specs.declared.cmp.Ordering.{Ordering}
use Rattle.gix_hash.specs.Kinds.{number_of}
use Rattle.gix_hash.specs.declared.kind.Kind.{Kind}

-- a kind and digits: those of a prefix, or all of an id's
pub record KindDigits : Type 0 where
  pub kind : Kind
  pub digits : List ℕ

-- these digits, of this kind
abbrev pub kind_digits : Kind → List ℕ → KindDigits
kind_digits kind digits = record { kind = kind; digits = digits }

-- the number of a prefix's kind, by which prefixes are ordered first
abbrev pub prefix_kind_number : KindDigits → ℕ
prefix_kind_number prefix = number_of prefix.kind

-- its digits, by which they are ordered then
abbrev pub prefix_digits : KindDigits → List ℕ
prefix_digits prefix = prefix.digits

-- `==` of prefixes: their kinds and their digits are equal
abbrev pub prefix_eq : KindDigits → KindDigits → Bool
prefix_eq = eq_of_both (on prefix_kind_number nat_eq) (on prefix_digits (pointwise nat_eq))

-- the order of prefixes: by kind, and then dictionary order of the digits
abbrev pub prefix_cmp : KindDigits → KindDigits → Ordering
prefix_cmp = then_cmp (on prefix_kind_number nat_cmp) (on prefix_digits (slice_cmp nat_cmp))

-- the digits of an id are those of a prefix followed by some more
abbrev pub BeginsWith : List ℕ → List ℕ → Type 0
BeginsWith id prefix = (rest : List ℕ) × (id ≡ prefix ++ rest)

-- both lists begin with some n digits, and with no more
pub record IsCommonLen (first second : List ℕ) (n : ℕ) : Type 0 where
  pub shared : (digits : List ℕ) × (length digits ≡ n) × BeginsWith first digits × BeginsWith second digits
  pub longest : (digits : List ℕ) → BeginsWith first digits → BeginsWith second digits → length digits ≤ n
