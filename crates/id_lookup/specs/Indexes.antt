-- Indexes, which are strictly increasing lists of ids of one kind, and abbreviations. An id is given by its digits, whose number determines its
-- kind.
use Rattle.std.specs.Prelude.{[], ℕ, ◌+◌, ◌-◌, ◌<◌, ◌↔◌, ◌≡◌, ◌≢◌, ◌≤◌, Contains, List, false, filter, length, nat_eq, slice_index_or, take, true}
use Rattle.std.specs.Cmp.Lexicographic.{slice_cmp}
use Rattle.std.specs.List.{AllAdjacentBelow, AllWithin, common_prefix_len, starts_with}
use Rattle.std.specs.Ordering.{nat_cmp}
use Rattle.std.specs.declared.cmp.Ordering.TheVariants.{Less}
use Rattle.gix_hash.specs.Words.{KindDigits, hex_len_of}
use Rattle.gix_hash.specs.declared.Kind.{Kind}
use Rattle.id_lookup.specs.Runs.{IsRun, has_first_byte}
use Rattle.id_lookup.specs.declared.index.Answer.{Answer}
use Rattle.id_lookup.specs.declared.index.Answer.TheVariants as answers
use Rattle.id_lookup.specs.declared.index.IndexError.{IndexError}
use Rattle.id_lookup.specs.declared.index.IndexError.TheVariants.{NotRising, WrongKind}

-- what contracts see of an index: a kind, and a list of ids by their digits
pub record Index : Type 0 where
  pub kind : Kind
  pub ids : List (List ℕ)

-- each of the first n ids has as many digits as the kind, and is above the previous one
pub record IsIndexUpTo (n : ℕ) (kind : Kind) (ids : List (List ℕ)) : Type 0 where
  pub kinds : AllWithin (λ id. length id ≡ hex_len_of kind) ids 0 n
  pub rises : AllAdjacentBelow (λ a b. slice_cmp nat_cmp a b ≡ Less) ids n

-- the ids are an index of the kind
abbrev pub IsIndex : Kind → List (List ℕ) → Type 0
IsIndex kind ids = IsIndexUpTo (length ids) kind ids

-- the ids before `at` are an index, and the one there is of another kind
pub record IsWrongKind (kind : Kind) (ids : List (List ℕ)) (at : ℕ) : Type 0 where
  pub in_range : at < length ids
  pub before : IsIndexUpTo at kind ids
  pub wrong : length (slice_index_or ids at []) ≢ hex_len_of kind

-- the ids before `at` are an index, and the one there is of the kind and not above the previous one
pub record IsNotRising (kind : Kind) (ids : List (List ℕ)) (at : ℕ) : Type 0 where
  pub has_predecessor : 0 < at
  pub in_range : at < length ids
  pub before : IsIndexUpTo at kind ids
  pub same_kind : length (slice_index_or ids at []) ≡ hex_len_of kind
  pub not_above : slice_cmp nat_cmp (slice_index_or ids (at - 1) []) (slice_index_or ids at []) ≢ Less

-- the first id at which the list is not an index of the kind, and why
abbrev pub IsFirstIndexError : Kind → List (List ℕ) → IndexError → Type 0
IsFirstIndexError kind ids (WrongKind at) = IsWrongKind kind ids at
IsFirstIndexError kind ids (NotRising at) = IsNotRising kind ids at

-- which ids begin with a prefix: none, one or many. If none does, the run is empty, and `at` is where the prefix would be inserted
abbrev pub IsAnswer : KindDigits → List (List ℕ) → Answer → Type 0
IsAnswer prefix ids answers.None = (at : ℕ) × IsRun prefix ids (record { start = at; end = at })
IsAnswer prefix ids (answers.One at) = IsRun prefix ids (record { start = at; end = at + 1 })
IsAnswer prefix ids (answers.Many run) = IsRun prefix ids run × (run.start + 1 < run.end)

-- The index of the ids of other lists, and the parts of it. Each id is given by its digits.

-- the strictly increasing list of the ids that another list contains, in any order and maybe more than once: each of them once, and no other
pub record IsIndexOf (kind : Kind) (all ids : List (List ℕ)) : Type 0 where
  pub index : IsIndex kind ids
  pub members : (id : List ℕ) → Contains ids id ↔ Contains all id

-- the ids of a list that have the first byte, in their order
abbrev pub part_of : ℕ → List (List ℕ) → List (List ℕ)
part_of byte ids = filter (has_first_byte byte) ids

-- Abbreviations of the ids of a list, their shortest unique prefixes. Each id is given by its digits.

-- this is the shortest prefix of the id at `at`, of at least `fewest` digits, that no other id begins with
pub record IsShortestAbbreviationFrom (fewest : ℕ) (ids : List (List ℕ)) (at : ℕ) (prefix : List ℕ) : Type 0 where
  pub first : prefix ≡ take (length prefix) (slice_index_or ids at [])
  pub long : fewest ≤ length prefix
  pub alone : (k : ℕ) → k < length ids → k ≢ at → starts_with nat_eq (slice_index_or ids k []) prefix ≡ false
  pub least : (n : ℕ) → fewest ≤ n → n < length prefix → (k : ℕ) × (k < length ids) × (k ≢ at) × (starts_with nat_eq (slice_index_or ids k []) (take n prefix) ≡ true)

-- the same, of at least four digits
abbrev pub IsShortestAbbreviation : List (List ℕ) → ℕ → List ℕ → Type 0
IsShortestAbbreviation ids at prefix = IsShortestAbbreviationFrom 4 ids at prefix

-- how many first digits two ids have in common
abbrev pub common_at : List (List ℕ) → ℕ → ℕ → ℕ
common_at ids at k = common_prefix_len nat_eq (slice_index_or ids at []) (slice_index_or ids k [])

-- `len` is the smallest number of first digits that distinguishes the id at `at` from each other id
pub record IsUniqueLen (ids : List (List ℕ)) (at len : ℕ) : Type 0 where
  pub apart : (k : ℕ) → k < length ids → k ≢ at → common_at ids at k < len
  pub reached : 0 < len → (k : ℕ) × (k < length ids) × (k ≢ at) × (common_at ids at k + 1 ≡ len)
