use Rattle.gix_hash.proofs.Std.{All, All-append, All-contains_itself, All-drop, All-take, Contains, drop, subst, suc, sym, take}
use Rattle.directory_store.proofs.loose.take_loose.Goals as goal

pub returns-clause-left : goal.returns-clause-left
returns-clause-left c =
    let old = c.args.listed.now.items in
    let at = c.in_ok-at.at in
    subst (All (Contains old)) (sym c.remove.ensures.items)
    (All-append (Contains old) (take at old) (drop (suc at) old) (All-take (Contains old) at old (All-contains_itself old)) (All-drop (Contains old) (suc at) old (All-contains_itself old)))

pub returns-in_err-at-clause-left : goal.returns-in_err-at-clause-left
returns-in_err-at-clause-left c = All-contains_itself c.args.listed.now.items
