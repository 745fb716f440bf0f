use Rattle.gix_hash.proofs.Std.{rules, ◌≡◌, ◌-◌, subst, take, drop, Appends}
use Rattle.gix_hash.specs.Words.{hex_len_of, id_kind}
use Rattle.directory_store.proofs.LoosePaths.{written, two_or_more}
use Rattle.directory_store.proofs.paths.write_loose_path.Goals as goal

pub returns : goal.returns
returns g c =
    let len : c.len_in_hex.result ≡ hex_len_of (id_kind c.args.id.now) = search rules in
    written _ _ _ _ _ _ _ _ c.put_hex.ensures.value c.put_hex.ensures.len (two_or_more _) c.in_ok-write_all.ensures.bytes c.in_ok-write_all-2.ensures.bytes
    (subst (λ n. Appends (g.W.Write.contents c.write_all-2.new.self) (g.W.Write.contents c.write_all-3.new.self) (take (n - 2) (drop 2 c.put_hex.new.buffer))) len c.in_ok-write_all-3.ensures.bytes)
