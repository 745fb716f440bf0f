use Rattle.gix_hash.proofs.Std.{◌∙◌, option_map}
use Rattle.pack_index.specs.Lazy.{tables_of}
use Rattle.directory_store.proofs.Damage.{damage_of}
use Rattle.directory_store.proofs.packs.open_pack_index.Goals as goal

pub returns-in-Err-open-clause-damage : goal.returns-in-Err-open-clause-damage
returns-in-Err-open-clause-damage g c = λ is at known.
    damage_of at c.args.kind c.args.path.now _ _ c.in-Err-open.error c.index.result (c.in-Ok.ensures.content at known) (c.in-Ok.ensures.read at known) c.in-Err-open.ensures.err c.index.ensures is

pub returns-in-Ok-open-clause-tables : goal.returns-in-Ok-open-clause-tables
returns-in-Ok-open-clause-tables g c = λ at known i.
    let opened = c.in-Ok-open.ensures in
    option_map (tables_of (opened.kind i) (opened.layout i)) ((opened.content ∙ c.in-Ok.ensures.content at known) i)
