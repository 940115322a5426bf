-- `number`: where the words stand for what is kept, the maps by the words are the maps after, and the counts are of what is kept.
-- Assumes nothing.
use mathlib.Core.Path.{◌≡◌, refl, ap, ◌∙◌}
use mathlib.Core.Bool.{Bool}
use mathlib.Core.List.{List}
use Prim.Native.Nat.{ℕ, zero, suc, ◌≤◌, ◌<◌, min}
use native.Mathlib.Nat.{le_refl, le_trans, min-eq_left}
use native.Mathlib.Omega.{arith}
use lib.ListN.{length}
use Rattle.definitions.specs.Lists.{total, gather}
use Rattle.definitions.specs.Areas.{Words, Areas, Arena, types, constants, overrides, globals, expressions, Elem, at, size}
use Rattle.definitions.specs.Numbering.{rank, new_handle, map_up_to, is_kept, map_after}
use Rattle.definitions.specs.Outcome.{Maps, map_of, maps_after}
use Rattle.definitions.proofs.Kept.{lt-inside}
use Rattle.arena.specs.Marks.{Marks}
use Rattle.arena.specs.Lent.{maps_of}
use Rattle.arena.specs.Sizes.{sizes_of, size_in}
use Rattle.handle_map.specs.FromSet.{in_set}
use Rattle.compact.specs.Stages.{marked, room_for, map_by, count_by, maps_by, counts_by}
use Rattle.compact.specs.declared.number.RecordCounts.{RecordCounts}

-- how many records of each arena are kept
abbrev pub kept_records : Areas → List Elem → RecordCounts
kept_records s m =
    record {
      types = rank (is_kept m types) (size s types);
      constants = rank (is_kept m constants) (size s constants);
      overrides = rank (is_kept m overrides) (size s overrides);
      globals = rank (is_kept m globals) (size s globals);
      expressions = rank (is_kept m expressions) (size s expressions);
    }

-- two tests that agree on the first n records number them alike
module _ (p q : ℕ → Bool) where
  rank_same : (n : ℕ) → ((h : ℕ) → h < n → p h ≡ q h) → rank p n ≡ rank q n
  unfolding rank total
  rank_same zero e = refl
  rank_same (suc n) e = rw (e n (le_refl (suc n)), rank_same n (λ h l. e h (le_trans l (omega arith))))

  map_same : (n : ℕ) → ((h : ℕ) → h < n → p h ≡ q h) → map_up_to p n ≡ map_up_to q n
  unfolding map_up_to gather new_handle
  map_same zero e = refl
  map_same (suc n) e =
      rw (e n (le_refl (suc n)), rank_same n (λ h l. e h (le_trans l (omega arith))), map_same n (λ h l. e h (le_trans l (omega arith))))

-- an arena's count in the sizes
pub size_in_lem : (s : Areas) (a : Arena) → size_in (sizes_of s) a ≡ size s a
size_in_lem s types = refl
size_in_lem s constants = refl
size_in_lem s overrides = refl
size_in_lem s globals = refl
size_in_lem s expressions = refl

module _ (s : Areas) (ws : List ℕ) (m : List Elem) (k : Marks s ws m) where
  -- the bit of a record says whether it is kept
  in-set : (a : Arena) (h : ℕ) → h < size s a → marked ws (sizes_of s) a h ≡ is_kept m a h
  unfolding in_set
  in-set a h l = k.marked (at a h) (lt-inside s a h l)

  module _ (a : Arena) (old : Words) (l : size s a ≤ length old) where
    -- the map has room for every record
    room-all : room_for (sizes_of s) a old ≡ size s a
    room-all = ap (λ n. min n (length old)) (size_in_lem s a) ∙ min-eq_left l

    -- a map made of the words is the map after
    map-due : map_by ws (sizes_of s) a old ≡ map_after s m a old
    unfolding map_after
    map-due = rw (room-all, map_same (marked ws (sizes_of s) a) (is_kept m a) (size s a) (in-set a))

    -- and its count
    count-due : count_by ws (sizes_of s) a old ≡ rank (is_kept m a) (size s a)
    count-due = rw (room-all, rank_same (marked ws (sizes_of s) a) (is_kept m a) (size s a) (in-set a))

  module _ (p : Maps) (room : (a : Arena) → size s a ≤ length (map_of p a)) where
    -- the five maps
    pub maps-due : maps_by ws (sizes_of s) p ≡ maps_after s m p
    unfolding maps_after map_of
    maps-due = λ i.
        maps_of (map-due types p.types (room types) i) (map-due constants p.constants (room constants) i)
        (map-due overrides p.overrides (room overrides) i) (map-due globals p.globals (room globals) i)
        (map-due expressions p.expressions (room expressions) i)

    -- and the five counts
    pub counts-due : counts_by ws (sizes_of s) p ≡ kept_records s m
    unfolding map_of
    counts-due = λ i.
        record {
          types = count-due types p.types (room types) i;
          constants = count-due constants p.constants (room constants) i;
          overrides = count-due overrides p.overrides (room overrides) i;
          globals = count-due globals p.globals (room globals) i;
          expressions = count-due expressions p.expressions (room expressions) i;
        }
