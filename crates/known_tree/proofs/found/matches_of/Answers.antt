use Rattle.gix_hash.proofs.Std.{◌≡◌, ◌∙◌, ◌==◌, [], ap, eqb-true, length, nil_from_length, same_Some, subst, sym}
use Rattle.directory_store.specs.Opened.{AreObjects, AreRight}
use Rattle.directory_store.specs.declared.loose.LooseIds.TheVariants as loose_ids
use Rattle.directory_store.specs.declared.multi.Purpose.TheVariants.{Locations}
use Rattle.directory_store.proofs.Wholes.{moved}
use Rattle.known_tree.proofs.found.matches_of.Goals as goal

pub returns : goal.returns
returns g c = λ at known.
    let opened = c.in_ok-store in
    let store = opened.store in
    let none : store.skipped.items ≡ [] = nil_from_length store.skipped.items (eqb-true (length store.skipped.items) 0
    (ap (λ l. length l == 0) (sym c.skipped.ensures.value) ∙ sym c.is_empty.ensures ∙ c.if-not-is_empty.false)) in
    let which = loose_ids.WithFirstByte c.first_byte.result in
    let has = moved at store.purpose Locations store.loose.which which store.directory c.args.directory.now _ opened.ensures.purpose opened.ensures.listed opened.ensures.place (opened.ensures.objects none at (opened.ensures.answers ∙ known)) in
    let kind = sym opened.ensures.kind in (
      has.0,
      has.1,
      λ objects right are.
          c.opened.ensures.found at Locations which has.0 objects _ c.args.prefix.now.digits c.in_ok-ids.ids.items has.2
          (subst (λ k. AreRight at Locations k has.0) kind right) (subst (λ k. AreObjects at k loose_ids.All has.0 objects) kind are)
          (λ only is. sym c.first_byte.ensures ∙ same_Some c.first_byte.result only is) c.requires.enough c.in_ok-ids.ensures.matches,
    )
