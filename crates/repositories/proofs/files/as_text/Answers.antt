use Rattle.gix_hash.proofs.Std.{◌≡◌, ℕ, Bool, List, None, Some, refl, string_bytes, sym, true, false, true≢false}
use Rattle.std.specs.Str.{IsUtf8, is_utf8}
use Rattle.std.proofs.lemmas.Str.{IsUtf8-from_is_utf8, IsUtf8-string_bytes, is_utf8-from_IsUtf8}
use Rattle.repositories.specs.Lookups.{as_text}
use Rattle.repositories.proofs.files.as_text.Goals as goal

text_is : (bytes : List ℕ) → IsUtf8 bytes → as_text (Some bytes) ≡ Some (Some bytes)
text_is bytes is = rw (is_utf8-from_IsUtf8 bytes is) refl

no_text : (bytes : List ℕ) → (IsUtf8 bytes → false ≡ true) → as_text (Some bytes) ≡ None
no_text bytes other = go (is_utf8 bytes) refl
  where
    go : (test : Bool) → is_utf8 bytes ≡ test → as_text (Some bytes) ≡ None
    go true is = absurd (true≢false (sym (other (IsUtf8-from_is_utf8 bytes is))))
    go false is = rw is refl

pub returns-in-Ok : goal.returns-in-Ok
returns-in-Ok g c = rw (c.in-Some.is, ← c.in-Ok.ensures.ok) (text_is (string_bytes c.in-Ok.text) (IsUtf8-string_bytes c.in-Ok.text))

pub returns : goal.returns
returns g c = λ other. rw c.in-Some.is (no_text c.in-Some.bytes.items c.in-Err.ensures.succeeds)
