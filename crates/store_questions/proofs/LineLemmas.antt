-- Lines that a reader gives, and those that are still to come.
use Rattle.gix_hash.proofs.Std.{◌≡◌, ℕ, false, ◌+◌, ◌-◌, ◌<◌, ◌≤◌, List, [], ◌∷◌, ◌++◌, Option, None, Some, cond, length, take, drop, set, get_or, refl, ap, sym, ◌∙◌, arith, append_assoc, add-one, length-append, length-drop, option_map, Consumes, IsAtEnd, Keeps, prepend_known, paste, take-append-add, take-suc-set, append-nil, drop-take, drop_all, length-take, length-take-le, take-append-drop, take-append-le, take-take, take_more, take-paste, sum_by-cons}
use Rattle.std.specs.Prelude.{IfSome}
use Rattle.std.proofs.KnownBytes.{Consumes-all, Consumes-trans}
use Rattle.store_questions.specs.WholeLines.{AreWhole, HasNoLineFeed, is_line_feed, last_after, made_whole}

pub last-append : (before : ℕ) (xs ys : List ℕ) → last_after before (xs ++ ys) ≡ last_after (last_after before xs) ys
last-append before [] ys = refl
last-append before (x ∷ xs) ys = last-append x xs ys

-- one more byte, a line feed, makes whole lines
pub whole-more : (bytes : List ℕ) (at : ℕ) → at < length bytes → get_or bytes at 0 ≡ 10 → AreWhole (take (at + 1) bytes)
whole-more bytes at below is = grind (arith, take_more bytes at 0 below, last-append)

-- after whole lines only what is after them may lack a line feed
pub made_whole-after : (xs ys : List ℕ) → AreWhole xs → made_whole (xs ++ ys) ≡ xs ++ made_whole ys
made_whole-after xs ys whole = grind (arith, last-append 10 xs ys, whole, append_assoc xs ys (10 ∷ []))

-- after whole lines of whole lines come whole lines
pub whole-after : (bytes xs ys : List ℕ) → bytes ≡ xs ++ ys → AreWhole bytes → AreWhole xs → AreWhole ys
whole-after bytes xs ys is whole first = grind (arith, last-append 10 xs ys)

no_feed-last : (last : ℕ) (bytes : List ℕ) → HasNoLineFeed (last ∷ bytes) → is_line_feed (last_after last bytes) ≡ false
no_feed-last last [] none = grind (arith, sum_by-cons (λ byte. cond (is_line_feed byte) 1 0) last [], none)
no_feed-last last (byte ∷ bytes) none =
    no_feed-last byte bytes (grind (arith, sum_by-cons (λ byte. cond (is_line_feed byte) 1 0) last (byte ∷ bytes), none))

-- a line without its line feed gets it
pub made_whole-line : (line : List ℕ) → HasNoLineFeed line → 0 < length line → made_whole line ≡ line ++ (10 ∷ [])
made_whole-line [] none some = absurd (omega arith)
made_whole-line (x ∷ xs) none some = grind (arith, no_feed-last x xs none)

-- the first whole lines of what is held are taken
pub lines-taken : (known : Option (List ℕ)) (held : List ℕ) (k n : ℕ) (lines : List ℕ) → k ≡ 0 → lines ≡ take n held → AreWhole lines
    → Consumes (option_map made_whole (prepend_known (drop k held) known)) (option_map made_whole (prepend_known (drop n held) known)) lines
lines-taken None held k n lines none are whole = tt
lines-taken (Some xs) held k n lines none are whole = grind (arith, take-append-drop n held, append_assoc, made_whole-after)

-- bytes that are read go from what the reader has left to what is held
pub read-kept : (old new : Option (List ℕ)) (k k' : ℕ) (held held' bytes : List ℕ) → k ≡ 0 → k' ≡ 0 → held' ≡ held ++ bytes → Consumes old new bytes
    → Keeps (option_map made_whole (prepend_known (drop k held) old)) (option_map made_whole (prepend_known (drop k' held') new))
read-kept None new k k' held held' bytes none none' are consumed = tt
read-kept (Some xs) None k k' held held' bytes none none' are consumed = consumed
read-kept (Some xs) (Some ys) k k' held held' bytes none none' are consumed = grind (arith, append_assoc)

-- nothing is read
pub none-kept : (old new : Option (List ℕ)) (k k' : ℕ) (held held' : List ℕ) → k ≡ 0 → k' ≡ 0 → held' ≡ held → Keeps old new
    → Keeps (option_map made_whole (prepend_known (drop k held) old)) (option_map made_whole (prepend_known (drop k' held') new))
none-kept None new k k' held held' none none' are kept = tt
none-kept (Some xs) None k k' held held' none none' are kept = kept
none-kept (Some xs) (Some ys) k k' held held' none none' are kept = grind arith

-- at the end of the input, the last line is taken with its line feed
pub line-taken : (known : Option (List ℕ)) (k : ℕ) (held rest line : List ℕ) → k ≡ 0 → IsAtEnd known → HasNoLineFeed held → 0 < length held
    → rest ≡ [] → line ≡ held ++ (10 ∷ [])
    → Consumes (option_map made_whole (prepend_known (drop k held) known)) (option_map made_whole (prepend_known rest known)) line
line-taken None k held rest line none end no_feed some over is = tt
line-taken (Some xs) k held rest line none end no_feed some over is = grind (arith, append-nil, made_whole-line)

-- bytes are moved to the front
pub moved-front : (items moved : List ℕ) (from to : ℕ) → from ≤ to → to ≤ length items → moved ≡ paste items 0 (drop from items) (to - from)
    → take (to - from) moved ≡ drop from (take to items)
moved-front items moved from to ordered fits is = grind (arith, take-paste items 0 (drop from items), length-drop, drop-take from (to - from) items)

-- what is held after a read into the rest of a buffer, which keeps its length
pub held-read : (items read after rest : List ℕ) (n k len : ℕ) → n ≤ length items → k ≤ length read → n + k ≤ len
    → take (n + k) (take len ((take n items ++ (read ++ after)) ++ rest)) ≡ take n items ++ take k read
held-read items read after rest n k len fits has room =
    grind (arith, length-take-le, length-append, take-take, take-append-le, take-append-add (take n items) (read ++ after) k)

-- what is held stays in the buffer
pub held-same : (items after rest : List ℕ) (n len : ℕ) → n ≤ length items → n ≤ len
    → take n (take len ((take n items ++ after) ++ rest)) ≡ take n items
held-same items after rest n len fits room = grind (arith, length-take-le, length-append, take-take, take-append-le)

-- a line feed is put after what is held
pub held-fed : (items : List ℕ) (n : ℕ) → n < length items → take (n + 1) (set items n 10) ≡ take n items ++ (10 ∷ [])
held-fed items n below = rw add-one (take-suc-set items n 10 below)

pub none-after : (n : ℕ) (items : List ℕ) → drop n (take n items) ≡ []
none-after n items = drop_all n (take n items) (omega (arith, length-take n items))

-- all lines were read
pub all-read : (known middle left : Option (List ℕ)) (text chunk : List ℕ) → Consumes (option_map made_whole known) middle text
    → Consumes middle left chunk → chunk ≡ [] → IsAtEnd left → IfSome known (λ all. text ≡ made_whole all)
all-read None middle left text chunk before after none end = tt
all-read (Some all) middle left text chunk before after none end =
    Consumes-all (Some (made_whole all)) left (text ++ chunk) [] text (Consumes-trans (Some (made_whole all)) middle left text chunk before after) end
    (sym (ap (λ more. text ++ more) none ∙ append-nil text))
