use Rattle.gix_hash.proofs.Std.{◌∙◌, ◌++◌, ap, arith, map, take, take_all}
use Rattle.directory_store.specs.Loose.{bytes_asked, fan_out_in, fan_outs_in}
use Rattle.directory_store.proofs.DirectoryTables.{one_directory}
use Rattle.directory_store.proofs.loose.Places.fan_out_paths.Goals as goal

pub loop-path-preserved : goal.loop-path-preserved
loop-path-preserved g c =
    let which = c.args.which in
    let paths = c.args.self.now.paths.now in
    let at = c.loop-path.path-index in
    let all = take_all c.loop-byte.byte-index c.deref-byte-items.result.now (omega arith) ∙ c.deref-byte-items.ensures.value ∙ c.in_ok-bytes.ensures in
    c.loop-byte.invariant ∙ ap (λ bytes. fan_outs_in which (take at paths) ++ map (λ byte. fan_out_in byte c.path-item.result) bytes) all
    ∙ one_directory (λ directory. map (λ byte. fan_out_in byte directory) (bytes_asked which)) paths at c.path-item.result (omega arith) c.path-item.is
