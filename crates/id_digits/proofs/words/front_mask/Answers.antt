use Rattle.id_digits.proofs.Masks.{front_ones}
use Rattle.id_digits.proofs.words.front_mask.Goals as goal

pub returns : goal.returns
returns c = front_ones c.args.digits c.unbounded_shl.result c.requires c.unbounded_shl.ensures
