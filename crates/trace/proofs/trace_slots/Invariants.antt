-- The loop's invariant: with what the slots that are left name, all is marked.
-- Assumes nothing.
use mathlib.Core.List.{List}
use Prim.Native.Nat.{ℕ, ◌-◌}
use Rattle.definitions.specs.References.{named_from}
use Rattle.slots.specs.Codes.{unpacked, words_from}
use Rattle.arena.specs.Lent.{areas_in}
use Rattle.trace.specs.Bits.{Marked}
use Rattle.trace.proofs.trace_slots.Given as goal

abbrev pub invariant-loop-k : goal.invariant-loop-k
invariant-loop-k l =
    let s = areas_in l.m in
    let f = words_from l.ws l.at in
    (u : List ℕ) → Marked s l.b (named_from f l.k (unpacked l.rest (10 - l.k))) l.marks u
    → Marked s l.b (named_from f 0 (unpacked l.shape 10)) l.initial.marks u
