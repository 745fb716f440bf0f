use Rattle.gix_hash.proofs.Std.{refl}
use Rattle.std.proofs.lemmas.Result.{IfOk-weaker}
use Rattle.known_tree.specs.Trees.{answers_in}
use Rattle.known_tree.proofs.Objects.{here, objects, right}
use Rattle.known_tree.proofs.known.answer_in_tree.Goals as goal

pub returns : goal.returns
returns g c = IfOk-weaker c.answer_in.result _ _
    (λ status has low ids counted are.
    let index = c.args.tree.now.index.now in
    has low (answers_in index) refl _ ids (here index _ _ c.in_ok-from_str.ensures.ok c.new.ensures.items) (right index counted _) (objects index ids are))
    c.answer_in.ensures.written
