-- Where a record starts: its place fits, and its words are those from there on.
-- Assumes nothing.
use mathlib.Core.Path.{◌≡◌, sym, ap, ap₂, ◌∙◌}
use Prim.Native.Nat.{ℕ, ◌+◌, ◌*◌, ◌<◌}
use native.Mathlib.Omega.{arith}
use lib.ListN.{get_or}
use mir.Syntax.{w64}
use mir.Val.{Fits}
use Rattle.definitions.specs.Areas.{Words, Areas, Arena, types, constants, overrides, globals, expressions, width, word, words, pool}
use Rattle.definitions.specs.References.{span, run}
use Rattle.slots.specs.Codes.{words_from, span_in, run_in}
use Rattle.slots.proofs.Laws.{span-in, run_in_lem}

pub place-fits : (a : Arena) (i w : ℕ) → i < 4294967296 → w ≡ width a → Fits w64 (i * w)
unfolding width
place-fits types i w l e = rw e (omega arith)
place-fits constants i w l e = rw e (omega arith)
place-fits overrides i w l e = rw e (omega arith)
place-fits globals i w l e = rw e (omega arith)
place-fits expressions i w l e = rw e (omega arith)

-- record i of a module's arena, where the code reads it: its words, the count of its run, and the run
module _ (s : Areas) (a : Arena) (i : ℕ) {ws : Words} {w : ℕ} (of : ws ≡ words s a) (wide : w ≡ width a) where
  pub record-words : words_from ws (i * w) ≡ word s a i
  unfolding word
  record-words = ap₂ (λ ws w k. get_or ws (i * w + k) 0) of wide

  pub record-span : {k : ℕ} → k ≡ span_in a (words_from ws (i * w)) → k ≡ span s a i
  record-span e = e ∙ ap (span_in a) record-words ∙ sym (span-in s a i)

  pub record-run : {p r : Words} → p ≡ pool s a → r ≡ run_in a (words_from ws (i * w)) p → r ≡ run s a i
  record-run q e = e ∙ ap₂ (run_in a) record-words q ∙ sym (run_in_lem s a i)
