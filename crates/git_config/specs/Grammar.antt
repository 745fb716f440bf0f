-- The syntax of git-config(1), as config.c reads it. Bytes are 9 for a tab, 10 for a line feed, 13 for a carriage return, 32 for a space, 34 for a quotation mark, 35 for #, 45 for -, 46 for a dot, 59 for ;, 61 for =, 91 and 93 for brackets and 92 for a backslash.
use Rattle.std.specs.Prelude.{◌≡◌, ℕ, ◌-◌, ◌+◌, Bool, true, false, ◌&&◌, ◌||◌, not, ◌==◌, if◌then◌else◌, Option, Some, None, Result, Ok, Err, List, [], ◌∷◌, ◌++◌, length, take, drop, map, bytes_eq, option_map, option_to_list, unwrap_or, count_by}
use Rattle.std.specs.List.{after_first, before_first, prefix_len, take_while}
use Rattle.std.specs.Char.{is_ascii_alphabetic, is_ascii_alphanumeric, to_ascii_lowercase}

-- a variable: its name, with dots between section, subsection and key, and its value, if it has one
pub record Variable : Type 0 where
  pub name : List ℕ
  pub value : Option (List ℕ)

-- what was read from the front of a text, and the rest; or where Git stops, as the number of bytes that are left. This number counts a line feed after the text, since Git reads the end of a text as one
abbrev pub Read : Type 0 → Type 0
Read T = Result (T × List ℕ) ℕ

infixl 10 ◌>>=◌
-- what a function makes of what was read, or where Git stops
abbrev pub ◌>>=◌ : {A B : Type 0} → Result A ℕ → (A → Result B ℕ) → Result B ℕ
(Ok read) >>= f = f read
(Err left) >>= f = Err left

-- whether a byte is a space or a tab
abbrev pub is_space : ℕ → Bool
is_space byte = byte == 32 || byte == 9

-- whether a byte is a space, a tab or a carriage return
abbrev pub is_blank : ℕ → Bool
is_blank byte = is_space byte || byte == 13

-- whether a byte is white space, as in Git's isspace: one of these or a line feed
abbrev pub is_whitespace : ℕ → Bool
is_whitespace byte = is_blank byte || byte == 10

-- whether a comment begins with this byte
abbrev pub begins_comment : ℕ → Bool
begins_comment byte = byte == 35 || byte == 59

-- whether a key may have this byte
abbrev pub is_key_byte : ℕ → Bool
is_key_byte byte = is_ascii_alphanumeric byte || byte == 45

-- whether a section's name may have this byte
abbrev pub is_name_byte : ℕ → Bool
is_name_byte byte = is_key_byte byte || byte == 46

-- a text without the bytes at its front that pass a test
abbrev pub past : (ℕ → Bool) → List ℕ → List ℕ
past test text = drop (prefix_len test text) text

-- the rest of a text after these bytes, if it begins with them
abbrev pub after_prefix : List ℕ → List ℕ → Option (List ℕ)
after_prefix bytes text = if bytes_eq (take (length bytes) text) bytes then Some (drop (length bytes) text) else None

-- a text without its first line
abbrev pub after_line : List ℕ → List ℕ
after_line text = after_first (λ byte. byte == 10) text

-- whether a text begins with a line feed
abbrev pub begins_line : List ℕ → Bool
begins_line [] = false
begins_line (byte ∷ rest) = byte == 10

-- whether a line ends at the front of a text: by a line feed, before which there may be a carriage return, or with the text
abbrev pub ends_line : List ℕ → Bool
ends_line [] = true
ends_line (byte ∷ rest) = byte == 10 || byte == 13 && begins_line rest

-- a text without this byte, which has to be its first
abbrev pub expect : ℕ → List ℕ → Result (List ℕ) ℕ
expect byte [] = Err 1
expect byte (first ∷ rest) = if first == byte then Ok rest else Err (length rest + 2)

-- a text without the bracket that closes a header with a subsection, which has to be its first byte. Another byte in its place counts as read, and so does a whole line end
abbrev pub close : List ℕ → Result (List ℕ) ℕ
close [] = Err 0
close (byte ∷ rest) = if byte == 93 then Ok rest else Err (if byte == 13 && begins_line rest then length rest else length rest + 1)

-- the rest of a subsection, up to its quotation mark. The first argument says whether a backslash is before it, after which a byte stands for itself. The second is the name so far
abbrev pub quoted : Bool → List ℕ → List ℕ → Read (List ℕ)
quoted escaped name [] = Err 1
quoted escaped name (byte ∷ rest) =
    if byte == 10 then Err (length rest + 2) else
    if byte == 34 && not escaped then Ok (name, rest) else
    if byte == 92 && not escaped then quoted true name rest else quoted false (name ++ byte ∷ []) rest

-- a section's header after its name: maybe spaces and a subsection, and a closing bracket. The name gets a dot at its end
abbrev pub header_end : List ℕ → List ℕ → Read (List ℕ)
header_end name [] = Err 0
header_end name (byte ∷ rest) =
    if byte == 93 && not (length name == 0) then Ok (name ++ 46 ∷ [], rest) else
    if is_blank byte then (expect 34 (past is_blank rest) >>= λ opened. quoted false (name ++ 46 ∷ []) opened >>= λ named. close named.1 >>= λ end. Ok (named.0 ++ 46 ∷ [], end))
    else Err (length rest + 2)

-- a section's header after its opening bracket: the name, in any case of letters
abbrev pub header : List ℕ → Read (List ℕ)
header text = header_end (map to_ascii_lowercase (take_while is_name_byte text)) (past is_name_byte text)

-- what a byte of a value is: the end; a space outside quotation marks; or a byte that stands for these bytes, with whether what follows is in quotation marks, and whether it is after a backslash
pub data Piece : Type 0 where
  End : Piece
  Blank : Piece
  Means : List ℕ → Bool → Bool → Piece

-- what this byte of a value is, in quotation marks or not, after a backslash or not
abbrev pub piece : Bool → Bool → ℕ → List ℕ → Result Piece ℕ
piece in_quotes true byte rest =
    if byte == 10 then Ok (Means [] in_quotes false) else
    if byte == 13 && begins_line rest then Ok (Means [] in_quotes true) else
    if byte == 110 then Ok (Means (10 ∷ []) in_quotes false) else
    if byte == 116 then Ok (Means (9 ∷ []) in_quotes false) else
    if byte == 98 then Ok (Means (8 ∷ []) in_quotes false) else
    if byte == 34 || byte == 92 then Ok (Means (byte ∷ []) in_quotes false) else Err (length rest + 1)
piece in_quotes false byte rest =
    if byte == 10 then (if in_quotes then Err (length rest + 2) else Ok End) else
    if byte == 92 then Ok (Means [] in_quotes true) else
    if byte == 34 then Ok (Means [] (not in_quotes) false) else
    if begins_comment byte && not in_quotes then Ok End else
    if is_blank byte && not in_quotes then Ok Blank else Ok (Means (byte ∷ []) in_quotes false)

-- the rest of a value, after these bytes. A space, a tab or a carriage return is read as a space, but those before the first other byte and after the last one are left out: this many bytes are kept if the value ends here
abbrev pub value : Bool → Bool → List ℕ → ℕ → List ℕ → Read (List ℕ)
value in_quotes escaped bytes kept [] = if in_quotes then Err (if escaped then 0 else 1) else Ok (take kept bytes, [])
value in_quotes escaped bytes kept (byte ∷ rest) = piece in_quotes escaped byte rest >>= λ found. elim found [
  | End ↦ Ok (take kept bytes, after_line (byte ∷ rest))
  | Blank ↦ value in_quotes escaped (if length bytes == 0 then bytes else bytes ++ 32 ∷ []) kept rest
  | Means more quotes escapes ↦ value quotes escapes (bytes ++ more) (length (bytes ++ more)) rest
]

-- what follows a key: nothing, or = and a value
abbrev pub assignment : List ℕ → Read (Option (List ℕ))
assignment text = if ends_line text then Ok (None, after_line text) else (expect 61 text >>= λ rest. value false false [] 0 rest >>= λ read. Ok (Some read.0, read.1))

-- what is before the first NUL
abbrev pub before_nul : List ℕ → List ℕ
before_nul text = before_first (λ byte. byte == 0) text

-- a variable whose name begins with these bytes: the rest of its key, and maybe a value. Name and value end before a NUL, as texts do in C
abbrev pub variable : List ℕ → List ℕ → Read Variable
variable name text = assignment (past is_space (past is_key_byte text)) >>= λ read.
    Ok (record { name = before_nul (name ++ map to_ascii_lowercase (take_while is_key_byte text)); value = option_map before_nul read.0 }, read.1)

-- what a text in a section begins with, white space, a comment, a header or a variable: the section after it, and the variable if it is one
abbrev pub item : List ℕ → ℕ → List ℕ → Read (List ℕ × Option Variable)
item section byte rest =
    if is_whitespace byte then Ok ((section, None), rest) else
    if begins_comment byte then Ok ((section, None), after_line rest) else
    if byte == 91 then (header rest >>= λ read. Ok ((read.0, None), read.1)) else
    if is_ascii_alphabetic byte then (variable (section ++ to_ascii_lowercase byte ∷ []) rest >>= λ read. Ok ((section, Some read.0), read.1)) else Err (length rest + 1)

-- a text in this section has these variables, up to its end or up to where Git stops, with this many bytes left. By `one_reading` it has no others
pub data Reads : List ℕ → List ℕ → List Variable → Option ℕ → Type 0 where
  ends : (section : List ℕ) → Reads section [] [] None
  stops : (section : List ℕ) (byte : ℕ) (rest : List ℕ) (left : ℕ) → item section byte rest ≡ Err left → Reads section (byte ∷ rest) [] (Some left)
  goes : (section : List ℕ) (byte : ℕ) (rest new next : List ℕ) (found : Option Variable) (variables : List Variable) (bad : Option ℕ) → item section byte rest ≡ Ok ((new, found), next) → Reads new next variables bad → Reads section (byte ∷ rest) (option_to_list found ++ variables) bad

-- a text without a byte order mark at its front
abbrev pub without_mark : List ℕ → List ℕ
without_mark text = unwrap_or (after_prefix (239 ∷ 187 ∷ 191 ∷ []) text) text

-- the number of the line, from 1, in which Git stops if this many bytes are left of the text and a line feed after it
abbrev pub line_number : List ℕ → ℕ → ℕ
line_number text left = count_by (λ byte. byte == 10) (take (length text - (left - 1)) text) + (if left == 0 then 2 else 1)

-- a config has these variables, up to its end or up to the line of this number, which is bad
abbrev pub IsConfig : List ℕ → List Variable → Option ℕ → Type 0
IsConfig text variables bad_line = (left : Option ℕ) × Reads [] (without_mark text) variables left × (bad_line ≡ option_map (line_number text) left)
