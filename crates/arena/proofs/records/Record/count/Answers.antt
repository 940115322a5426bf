-- The arena's length by its width. Assumes nothing.
use mathlib.Core.Path.{refl}
use Rattle.definitions.specs.Areas.{size}
use Rattle.arena.proofs.records.Record.count.Goals as goal

pub returns : goal.returns
unfolding size
returns g c = rw (c.words.ensures, c.WIDTH.ensures, g.met.Self.Record.is_wide) refl
