-- What a file HEAD says.
use Rattle.std.specs.Prelude.{ℕ, Bool, List, None, Some, codes, nat_eq, nat_le}
use Rattle.std.specs.List.{prefix_len, starts_with}
use Rattle.std.specs.Char.{is_ascii_hexdigit}
use Rattle.git_config.specs.Grammar.{after_prefix, is_whitespace, past}

-- whether the front of a file is that of a HEAD: ref:, white space if there is any, and a reference; or 40 hex digits
unfoldable pub is_head : List ℕ → Bool
is_head front = elim (after_prefix (codes "ref:") front) [
  | Some rest ↦ starts_with nat_eq (past is_whitespace rest) (codes "refs/")
  | None ↦ nat_le 40 (prefix_len is_ascii_hexdigit front)
]
