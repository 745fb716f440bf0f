-- Stores that are opened again.
use Rattle.gix_hash.proofs.Std.{◌∙◌, refl}
use Rattle.object_store.specs.Stores.{IsReopened, StoreView}

module _ {S : Type 0} (had : S → S → StoreView → Type 0) (view : S → StoreView) where
  -- a store that was not opened again has what it had
  pub not_reopened : (store : S) → IsReopened had view store store
  not_reopened store = record { kind = refl; listed = refl; before = λ first seen was. was; has = λ first was. was }

  -- a store that was opened again twice was opened again
  pub reopened_again : (x y z : S) → IsReopened had view x y → IsReopened had view y z → IsReopened had view x z
  reopened_again x y z once then = record {
    kind = then.kind ∙ once.kind;
    listed = then.listed ∙ once.listed;
    before = λ first seen was. then.before first seen (once.before first seen was);
    has = λ first was. then.has first (once.has first was);
  }
