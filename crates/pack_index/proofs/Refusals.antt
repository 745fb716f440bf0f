-- Bytes that are rejected are no pack index.
use Rattle.gix_hash.proofs.Std.{◌≡◌, ℕ, ◌+◌, ◌-◌, List, [], get_or, sym, ap, subst, ◌∙◌, arith, nat_cmp, is_lt, slice_cmp, Less, false≢true}
use Rattle.id_lookup.specs.Words.{Kind}
use Rattle.pack_index.specs.Format.{IsFault, IsPackIndex, ids_in}
use Rattle.pack_index.specs.declared.error.Error.{Error}
use Rattle.pack_index.specs.declared.error.Error.TheVariants.{OtherKind, TooShort, Version1, BadMagic, BadVersion, WrongLength, IdsFall, WrongCount, NoOffset, LongOutOfOrder, SpareLong, OffsetInHeader, OffsetTooHigh, WrongChecksum}

module _ (kind : Kind) (bytes : List ℕ) where
  -- bytes with a fault are no index
  pub no_index : (e : Error) → IsFault kind bytes e → ¬ IsPackIndex kind bytes
  no_index (OtherKind other) none is = none
  no_index TooShort short is = let enough = is.ids.head.enough in absurd (omega arith)
  no_index Version1 (enough, magic, long) is = magic is.ids.head.magic
  no_index BadMagic (enough, magic, long) is = magic is.ids.head.magic
  no_index (BadVersion version) (enough, magic, same, other) is = other (same ∙ is.ids.head.version)
  no_index WrongLength (head, wrong) is = wrong is.ids.tables
  no_index (IdsFall at) (head, tables, fall) is =
      let names = ids_in kind bytes in
      let some = fall.has_predecessor in
      let inside = fall.in_range in
      let next : at - 1 + 1 ≡ at = omega arith in
      let less = subst (λ (n : ℕ). slice_cmp nat_cmp (get_or names n []) (get_or names (at - 1) []) ≡ Less) (sym next) fall.falls in
      false≢true (sym (is.ids.sorted (at - 1) [] (omega arith) (omega arith)) ∙ ap is_lt less)
  no_index (WrongCount b) (head, tables, sorted, first) is = first.2 (is.ids.counts b first.0)
  no_index (NoOffset at) (names, first) is = first.2 (is.offsets.in_table at first.0)
  no_index (LongOutOfOrder at) (names, offsets, first) is = first.2 (is.offsets.in_order at first.0)
  no_index (SpareLong number) (names, offsets, order, same, left) is = left is.offsets.no_spare
  no_index (OffsetInHeader at) (names, offsets, order, used, first) is = first.2 (is.offsets.past_header at first.0)
  no_index (OffsetTooHigh at) (names, offsets, order, used, past, first) is = first.2 (is.offsets.signed at first.0)
  no_index WrongChecksum (names, offsets, wrong) is = wrong is.checksum
