-- What the walks of `states` cite.
pub use Rattle.std.proofs.Common.{[], ◌∷◌, refl}
pub use Rattle.std.proofs.raw_atomic.Walks.{proved}
pub use base.Fml.{ftrue, fat}
pub use base.Fraction.{full_share}
pub use mir.Raw.{raw as unnamed}
pub use mir.Syntax.{Ty}
pub use contract.Running.{tables}
pub use types.Kit.{‵, ◌⊛◌, at_ret, ◌$◌, ◌∵◌, !, qed, done, move, keep, use1, split, join, suffices}
pub use types.Run.{enter, of_opd, addr, load, look, stop, from, first, blocks, exec, returns}
pub use types.ByLocal.{alloc_all, pass_all, free_all, look_at, get, through, sets, sets_last, take_at, give_at, env}
pub use denote.Exit.{yes}
pub use denote.Signature.{plain}
pub use denote.Steps.{nothing}
pub use denote.Triple.Walked.{Stays, walk_of, says, stay_dropped, Goes-dropped, ends_at}
