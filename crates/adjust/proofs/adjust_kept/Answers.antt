-- `adjust::adjust_kept` meets its contract: the tail is read past the words that were written before it.
-- Assumes nothing.
use mathlib.Core.Path.{◌≡◌, sym, ap, ap₂, ◌∙◌}
use mathlib.Core.List.{List, [], ◌∷◌, ◌++◌}
use Prim.Native.Nat.{ℕ, suc, ◌+◌, ◌≤◌}
use native.Mathlib.Nat.{add-zero}
use native.Mathlib.Omega.{arith}
use lib.ListN.{length, get_or}
use lib.Seq.{sets}
use Rattle.definitions.specs.Areas.{Words, Arena, numbered, width}
use Rattle.definitions.specs.Slots.{Slot, body, tail, slots, carried}
use Rattle.definitions.specs.Outcome.{Maps}
use Rattle.slots.specs.Codes.{words_from}
use Rattle.definitions.proofs.Reading.{body-length, carried_same}
use Rattle.slots.proofs.Laws.{tail-fits}
use Rattle.adjust.specs.Rewrite.{adjusted_by, record_from}
use Rattle.adjust.proofs.Stores.{past-sets, sets-append}
use Rattle.adjust.proofs.Passes.{length-record}
use Rattle.adjust.proofs.adjust_kept.Goals as goal

module _ (p : Maps) (b : ℕ) where
  -- a record's words, then its tail as it is
  record-tail : (f : ℕ → ℕ) (k : ℕ) (ls : List Slot) → record_from p b f k (ls ++ tail) ≡ record_from p b f k ls ++ carried f (k + length ls) tail
  unfolding record_from adjusted_by carried
  record-tail f k [] = ap (λ i. carried f i tail) (sym (add-zero k))
  record-tail f k (l ∷ ls) =
      let e : suc k + length ls ≡ k + suc (length ls) = omega arith in
      ap (λ r. adjusted_by p b l (f k) ∷ r) (record-tail f (suc k) ls ∙ ap (λ i. record_from p b f (suc k) ls ++ carried f i tail) e)

  -- stored one after the other they are the record
  stored : (a : Arena) (ws : Words) (from to n : ℕ) {new last : Words} → to ≤ from → n + length tail ≡ width a
      → new ≡ sets ws to (record_from p b (words_from ws from) 0 (body a (words_from ws from)))
      → last ≡ sets new (to + n) (carried (words_from new (from + n)) 0 tail)
      → last ≡ sets ws to (record_from p b (words_from ws from) 0 (slots a (words_from ws from)))
  unfolding slots
  stored a ws from to n l w q r =
      let f : ℕ → ℕ = words_from ws from in
      let vs : Words = record_from p b f 0 (body a f) in
      let m : length vs ≡ n = length-record p b f 0 (body a f) ∙ omega (arith, body-length a f) in
      let k : 0 + length (body a f) ≡ n = omega (arith, body-length a f) in
      let past : (j : ℕ) → get_or (sets ws to vs) (from + n + (0 + j)) 0 ≡ f (n + j) =
      λ j. past-sets vs ws to (from + n + (0 + j)) (omega arith) ∙ ap (λ i. get_or ws i 0) (omega arith) in
      r
      ∙ ap (λ l. sets l (to + n) (carried (words_from l (from + n)) 0 tail)) q
      ∙ ap₂ (λ i us. sets (sets ws to vs) (to + i) us) (sym m) (carried_same (words_from (sets ws to vs) (from + n)) f 0 n tail (λ j b. past j))
      ∙ sym (sets-append vs (carried f n tail) ws to)
      ∙ ap (sets ws to) (sym (record-tail f 0 (body a f) ∙ ap (λ i. vs ++ carried f i tail) k))

pub overflow_sub-n : goal.overflow_sub-n
overflow_sub-n c = omega (arith, tail-fits (numbered c.args.area))

pub adjust_body-requires : goal.adjust_body-requires
adjust_body-requires c = omega (arith, tail-fits (numbered c.args.area))

pub carry_tail-requires : goal.carry_tail-requires
carry_tail-requires c = omega (arith, tail-fits (numbered c.args.area))

pub returns : goal.returns
returns c =
    let a = c.args in
    let new : Words = c.adjust_body.new.ws in
    let fits = tail-fits (numbered a.area) in
    let last = c.carry_tail.ensures ∙ ap₂ (λ to from. sets new to (carried (words_from new from) 0 tail)) c.past.ensures.1 c.past.ensures.0 in
    stored _ a.start (numbered a.area) a.ws.now a.shift.from a.shift.to _ (omega arith) (omega arith) c.adjust_body.ensures last
