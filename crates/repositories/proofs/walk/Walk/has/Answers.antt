use Rattle.gix_hash.proofs.Std.{◌≡◌, ◌∙◌, ap, rules, string_bytes, sym}
use Rattle.std.specs.BTreeSet.{contains_text}
use Rattle.repositories.specs.Walks.{has, walk_of}
use Rattle.repositories.proofs.walk.Walk.has.Goals as goal

pub returns-in-None : goal.returns-in-None
returns-in-None c =
    let path = string_bytes c.args.real.now.path in
    let is : c.contains-in-None.result ≡ contains_text c.args.self.now.paths path = search rules in
    is ∙ c.args.self.now.same_paths path ∙ ap (λ number. has (path, number) (walk_of c.args.self.now)) (sym c.in-None.is)
