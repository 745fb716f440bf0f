-- A quoted text that is read byte by byte.
use Rattle.gix_hash.proofs.Std.{◌≡◌, ◌≤◌, ◌<◌, ℕ, suc, zero, ◌++◌, ◌∷◌, List, [], Option, Some, None, arith, length, option_map, refl, sym, ap, ◌∙◌, append_assoc, append-nil}
use Rattle.repositories.specs.Quoting.{after_mark, meant, quoted_byte, unquoted}

-- these bytes, and what is meant after them
abbrev after : List ℕ → List ℕ × List ℕ → List ℕ × List ℕ
after bytes more = (bytes ++ more.0, more.1)

-- a text means these bytes, and then what is left does
pub record Means (text bytes left : List ℕ) : Type 0 where
  pub most : ℕ
  pub within : length left ≤ most
  pub all : meant (length text) text ≡ after bytes (meant most left)

pub means_byte : (text bytes left rest : List ℕ) (byte : ℕ) → Some (byte, rest) ≡ quoted_byte left → length rest < length left → Means text bytes left → Means text (bytes ++ byte ∷ []) rest
means_byte text bytes left rest byte is fewer means = go means.most means.within means.all
  where
    next : (n : ℕ) → meant (suc n) left ≡ after (byte ∷ []) (meant n rest)
    next n = rw (sym is, meant)

    go : (most : ℕ) → length left ≤ most → meant (length text) text ≡ after bytes (meant most left) → Means text (bytes ++ byte ∷ []) rest
    go zero within all = absurd (omega arith)
    go (suc n) within all = record {
      most = n;
      within = omega arith;
      all = all ∙ ap (after bytes) (next n) ∙ ap (λ bytes. (bytes, (meant n rest).1)) (sym (append_assoc bytes (byte ∷ []) (meant n rest).0));
    }

-- where no more is meant the bytes are all, and here is what is after a closing mark
pub means_all : (text bytes left : List ℕ) (closed : Option (List ℕ)) → None ≡ quoted_byte left → closed ≡ after_mark left → Means text bytes left → option_map (λ rest. (bytes, rest)) closed ≡ unquoted text
means_all text bytes left closed none is means =
    ap (option_map (λ rest. (bytes, rest))) is ∙ ap (λ all. option_map (λ rest. (all.0, rest)) (after_mark all.1)) (sym (means.all ∙ ap (after bytes) (end means.most) ∙ ap (λ bytes. (bytes, left)) (append-nil bytes)))
  where
    end : (most : ℕ) → ◌≡◌ {A = List ℕ × List ℕ} (meant most left) ([], left)
    end zero = refl
    end (suc n) = rw (sym none, meant)
