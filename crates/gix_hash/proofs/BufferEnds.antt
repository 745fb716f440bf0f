-- How a buffer ends that a text borrows from. Assumes `Logic`.
use Rattle.id_digits.proofs.Std.{◌≡◌, List, [], ◌∷◌, ℕ, MutBor, refl}
use Rattle.std.specs.Prelude.{⊤}
use Rattle.gix_hash.specs.Loans.{IsLeftAs}
use mathlib.Core.Option.{none}
use seplogic.Ra.Ura.{Ura}
use base.Stored.{coded_list}
use base.Fml.{GName, fres}
use base.Logic.{ent, ex_i}
use types.Logic.{Logic, sem}
use types.Kit.{‵, ◌$◌, !, qed, by, rewrite, use1}
use denote.Builtin.{u8, Array}
use denote.Follow.{follows_by, follows_if, such_by}
use denote.FollowSlice.{finally-res}
use denote.Slice.{finally}

module _ {M : Type 1} {𝓤 : Ura M} (𝓛 : Logic 𝓤) where
  -- a name that ended at v is a buffer that ends as v
  name_ends : (x : MutBor (List ℕ)) (v : List ℕ) → ent 𝓤 (sem 𝓛 (fres x.ghost_name ((coded_list u8.coded).code v))) (sem 𝓛 (IsLeftAs x v))
  unfolding such_by follows_by
  name_ends x v = ex_i 𝓤 (λ (y : (p : (List ℕ → List ℕ) × List ℕ) × ((w : List ℕ) → ⊤) × (p.1 ≡ v)). sem 𝓛 (follows_if (Array u8 tt 0) (Array u8 tt 0) x.ghost_name none y.0.0 y.0.1)) (((λ _. v), v), (λ w. tt), refl)

  -- a buffer that was lent as b, and last as r under the same name, ends as r's value v
  pub ends : (r b : MutBor (List ℕ)) (v : List ℕ) → r.ghost_name ≡ b.ghost_name → r.now ≡ v
      → ent 𝓤 (sem 𝓛 (finally u8 r.ghost_name r.now)) (sem 𝓛 (IsLeftAs b v))
  ends r b v same value = qed 𝓛 (‵ (finally u8 r.ghost_name r.now) ∷ []) {P = sem 𝓛 (IsLeftAs b v)} (
      use1 𝓛 (‵ (fres r.ghost_name ((coded_list u8.coded).code r.now))) (finally-res 𝓛 u8 r.ghost_name r.now) $
      rewrite ! 0 (λ (γ : GName). ‵ (fres γ ((coded_list u8.coded).code r.now))) same refl $
      rewrite ! 0 (λ (xs : List ℕ). ‵ (fres b.ghost_name ((coded_list u8.coded).code xs))) value refl $ by ! (name_ends b v))
