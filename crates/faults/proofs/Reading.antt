-- Record i of a module's arena, where the code reads it: its place fits, its words, the count of its run, and the run. Assumes nothing.
use Rattle.std.proofs.Common.{◌≡◌, refl, ℕ, ◌*◌, ◌<◌, w64, Fits}
use Rattle.definitions.specs.Areas.{Areas, Arena, width, word, words, pool}
use Rattle.definitions.specs.References.{span, run}
use Rattle.slots.specs.Codes.{words_from, span_in, run_in}
use Rattle.slots.proofs.Places.{place-fits, record-words, record-span, record-run}

pub place_below : (a : Arena) (i : ℕ) → i < 4294967296 → Fits w64 (i * width a)
place_below a i l = place-fits a i _ l refl

module _ (s : Areas) (a : Arena) (i : ℕ) where
  pub words_at : words_from (words s a) (i * width a) ≡ word s a i
  words_at = record-words s a i refl refl

  pub span_at : span_in a (words_from (words s a) (i * width a)) ≡ span s a i
  span_at = record-span s a i refl refl refl

  pub run_at : run_in a (words_from (words s a) (i * width a)) (pool s a) ≡ run s a i
  run_at = record-run s a i refl refl refl refl

pub ruleset reading = (place_below, words_at, span_at, run_at)
