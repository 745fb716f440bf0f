use Rattle.gix_hash.proofs.Std.{All, All-push, List, ap, arith, get_or, length, map, map-append, subst, sym, take_all, take_more, vec_len, ◌++◌, ◌∙◌, ◌∷◌, ◌≡◌, [], ℕ}
use Rattle.directory_store.specs.Loose.{AreNamesIn}
use Rattle.directory_store.specs.declared.loose.FanOutNames.{FanOutNames}
use Rattle.directory_store.proofs.loose.Places.list_parts.Goals as goal

pub loop-byte-preserved : goal.loop-byte-preserved
loop-byte-preserved g c =
    let parts = c.loop-byte.parts.items in
    let paths = c.args.self.now.paths.now in
    let bytes = c.deref-byte-items.result.now in
    let index = c.loop-byte.byte-index in
    let part : FanOutNames = record { byte = get_or bytes index 0; names = c.in_ok-names.names } in
    let byte_of : FanOutNames → ℕ = λ part. part.byte in
    let more = c.in_ok-push.ensures.items in
    record {
      as_many = subst (All (λ (part : FanOutNames). vec_len part.names ≡ length paths)) (sym more) (All-push (λ (part : FanOutNames). vec_len part.names ≡ length paths) parts part c.loop-byte.invariant.as_many c.in_ok-names.ensures.as_many);
      bytes = ap (map byte_of) more ∙ map-append byte_of parts (part ∷ []) ∙ ap (λ (l : List ℕ). l ++ part.byte ∷ []) c.loop-byte.invariant.bytes ∙ sym (take_more bytes index 0 (omega arith));
      names = λ at known. let AreNames = λ (part : FanOutNames). AreNamesIn at part.byte paths part.names.items in
          subst (All AreNames) (sym more) (All-push AreNames parts part (c.loop-byte.invariant.names at known) (c.in_ok-names.ensures.names at known));
    }

pub returns-clause-bytes : goal.returns-clause-bytes
returns-clause-bytes g c =
    c.loop-byte.invariant.bytes ∙ take_all c.loop-byte.byte-index c.deref-byte-items.result.now (omega arith) ∙ c.deref-byte-items.ensures.value ∙ c.in_ok-bytes.ensures
