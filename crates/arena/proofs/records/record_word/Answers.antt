-- The word at the place that the width gives. Assumes nothing.
use mathlib.Core.Path.{refl}
use Rattle.definitions.specs.Areas.{word}
use Rattle.arena.proofs.records.record_word.Goals as goal

pub returns : goal.returns
unfolding word
returns g c = rw (c.word.ensures, c.words.ensures, c.index.ensures, c.WIDTH.ensures, g.met.R.Record.is_wide) refl
