use Rattle.gix_hash.specs.PrefixBytes.{shown, length-shown}
use Rattle.gix_hash.proofs.KeptDigits.{shown-below}
use Rattle.gix_hash.proofs.Spellings.{IsAscii-front}
use Rattle.gix_hash.proofs.prefix.Prefix.front_text.Goals as goal

pub ascii_text-requires : goal.ascii_text-requires
ascii_text-requires c =
    let p = c.self.inside in
    let front = rw (← c.self.view_is) at c.requires.1 in
    IsAscii-front (shown p) _ _ _ front (length-shown p c.self.invariant) (shown-below p c.self.invariant)
