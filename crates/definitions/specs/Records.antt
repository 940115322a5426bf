-- Document 01, "Refusal numbers", the accepted module: areas after. Each part is given for the first h records, by h.
-- Assumes nothing.
use Rattle.std.specs.Prelude.{cond, List, [], ◌∷◌, ◌++◌, map, ℕ, suc, ◌-◌, length, replicate, eqb}
use Rattle.definitions.specs.Lists.{total, gather, always}
use Rattle.definitions.specs.Areas.{Words, N, Areas, Elem, numbered, size, word, mention_count, mention_word}
use Rattle.definitions.specs.Areas.{Arena, types, constants, overrides, globals, expressions}
use Rattle.definitions.specs.Slots.{Slot, unused, free, below, must, may, start, count, layout}
use Rattle.definitions.specs.References.{span, run}
use Rattle.definitions.specs.Numbering.{new_handle, is_kept}

-- "Kept runs have new packed starts.": the counts of the kept records before record h
unfoldable pub start_after : Areas → List Elem → Arena → ℕ → ℕ
start_after s m a h = total (is_kept m a) (span s a) h

-- a word adjusted; b is the new start of the record's run. In the Rust: `HandleMap::adjust`
unfoldable pub adjusted : List Elem → ℕ → Slot → ℕ → ℕ
adjusted m b unused w = w
adjusted m b free w = w
adjusted m b (below n) w = w
adjusted m b (must a) w = new_handle (is_kept m a) w
adjusted m b (may a) w = cond (eqb w N) N (new_handle (is_kept m a) w)
adjusted m b start w = b
adjusted m b count w = w

-- the words of a record from word k on, adjusted
unfoldable pub adjusted_from : List Elem → ℕ → (ℕ → ℕ) → ℕ → List Slot → Words
adjusted_from m b f k [] = []
adjusted_from m b f k (l ∷ ls) = adjusted m b l (f k) ∷ adjusted_from m b f (suc k) ls

-- record h, adjusted. In the Rust: `adjust_type`, `adjust_expression`
unfoldable pub record_after : Areas → List Elem → Arena → ℕ → Words
record_after s m a h = adjusted_from m (start_after s m a h) (word s a h) 0 (layout s a h)

-- "Each arena and pool holds its kept records in old order, adjusted": those among the first h
unfoldable pub records_up_to : Areas → List Elem → Arena → ℕ → Words
records_up_to s m a h = gather (is_kept m a) (record_after s m a) h

-- and their runs
unfoldable pub runs_up_to : Areas → List Elem → Arena → ℕ → Words
runs_up_to s m a h = gather (is_kept m a) (λ i. map (new_handle (is_kept m a)) (run s a i)) h

-- "Mentions are adjusted in place."
unfoldable pub mention_after : Areas → List Elem → ℕ → Words
mention_after s m h = mention_word s h 0 ∷ new_handle (is_kept m (numbered (mention_word s h 0))) (mention_word s h 1) ∷ []

unfoldable pub mentions_up_to : Areas → List Elem → ℕ → Words
mentions_up_to s m h = gather always (mention_after s m) h

-- what was kept, and no more: the input of a second pass
unfoldable pub kept_areas : Areas → List Elem → Areas
kept_areas s m =
    record {
      types = records_up_to s m types (size s types);
      constants = records_up_to s m constants (size s constants);
      overrides = records_up_to s m overrides (size s overrides);
      globals = records_up_to s m globals (size s globals);
      expressions = records_up_to s m expressions (size s expressions);
      members = runs_up_to s m types (size s types);
      components = runs_up_to s m expressions (size s expressions);
      mentions = mentions_up_to s m (mention_count s);
    }

-- "then N to its old end"
unfoldable pub padded : Words → Words → Words
padded old new = new ++ replicate (length old - length new) N

-- the eight areas after
unfoldable pub areas_after : Areas → List Elem → Areas
areas_after s m =
    let k = kept_areas s m in
    record {
      types = padded s.types k.types;
      constants = padded s.constants k.constants;
      overrides = padded s.overrides k.overrides;
      globals = padded s.globals k.globals;
      expressions = padded s.expressions k.expressions;
      members = padded s.members k.members;
      components = padded s.components k.components;
      mentions = k.mentions;
    }
