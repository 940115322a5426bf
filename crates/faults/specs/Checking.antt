-- What the contracts of this crate cite beside the definitions of document 01: areas and places under each number.
-- Assumes nothing.
use Rattle.std.specs.Prelude.{◌≡◌, Bool, true, false, ◌&&◌, ◌||◌, cond, ⊤, None, Some, Result, Ok, Err, List, [], ◌∷◌, ℕ, zero, suc, ◌%◌, ◌≤◌, ◌<◌, min, length, get_or, eqb, ltb, leb}
use Rattle.definitions.specs.Areas as areas
use Rattle.definitions.specs.Areas.{N, Areas, types, expressions, numbered, size, pool}
use Rattle.definitions.specs.Areas.{length_of, records_of, width, widths, limits, mention_word}
use Rattle.definitions.specs.Order.{well_ordered}
use Rattle.definitions.specs.Roots.{mention}
use Rattle.definitions.specs.Refusals.{accepted, refused, first_of, scan, runs_before, shaped_at, held_at, inside, of_module}
use Rattle.definitions.specs.Refusals as R
use Rattle.faults.specs.declared.Fault.{Fault}
use Rattle.faults.specs.declared.areas.Number.{Number}
use Rattle.faults.specs.declared.areas.Number.TheVariants.{Whole, Few, Mapped}
use Rattle.faults.specs.declared.places.Number as places
use Rattle.faults.specs.declared.places.Number.TheVariants.{Shaped, Scoped, Held, Ordered}
use Rattle.faults.specs.declared.places.Carried.{Carried}
use Rattle.rules.specs.declared.Bounds.{Bounds}
use Rattle.rules.specs.declared.Limits.{Limits}
use Rattle.rules.specs.declared.Run.{Run}
use Rattle.arena.specs.Sizes.{sizes_of, size_in}
use Rattle.arena.specs.declared.sizes.Sizes.{Sizes}
use Rattle.rules.specs.Rules.{leading}

-- the number and the values of each case of the answer
abbrev pub report_of : Result ⊤ Fault → R.Report
report_of (Ok u) = record { passed = true; number = 0; area = 0; record_number = 0 }
report_of (Err f) = record { passed = false; number = f.number; area = f.area; record_number = f.record }

-- the verdict of document 01 that it is
abbrev pub verdict_of : Result ⊤ Fault → R.Verdict
verdict_of (Ok u) = accepted
verdict_of (Err f) = refused f.number f.area f.record

-- the numbers that go by the areas' lengths
abbrev pub by_lengths : Number → ℕ
by_lengths Whole = 1
by_lengths Few = 2
by_lengths Mapped = 3

-- and those that go by the places
abbrev pub by_places : places.Number → ℕ
by_places Shaped = 4
by_places Scoped = 5
by_places Held = 6
by_places Ordered = 7

-- ---- numbers 1 to 3, by the areas' lengths

-- is the area good under the number ? The maps are given by their lengths
unfoldable pub area_ok : Areas → List ℕ → ℕ → ℕ → Bool
area_ok s maps n a =
    cond (eqb n 1) (eqb (length_of s a % get_or widths a 1) 0)
    (cond (eqb n 2) (leb (records_of s a) (get_or limits a 0)) (leb (records_of s a) (get_or maps a 0)))

-- how many areas the number looks at: only arenas have maps
unfoldable pub areas_at : ℕ → ℕ
areas_at n = cond (eqb n 1 || eqb n 2) 8 5

-- ---- numbers 4 to 7, over areas and records

-- the first fault of n verdicts from i on, one after another
unfoldable pub in_turn : (ℕ → R.Verdict) → ℕ → ℕ → R.Verdict
in_turn f i zero = accepted
in_turn f i (suc n) = first_of (f i ∷ in_turn f (suc i) n ∷ [])

-- the arena whose runs lie in a pool: area 5 is the types', 6 the expressions'
unfoldable pub owner_of : ℕ → areas.Arena
owner_of a = cond (eqb a 5) types expressions

-- is the place good under number 4 ? Of areas 0 to 4 a record, of 5 and 6 the pool, of 7 a mention
unfoldable pub ok4 : Areas → ℕ → ℕ → Bool
ok4 s a i =
    cond (ltb a 5) (shaped_at s (numbered a) i)
    (cond (ltb a 7) (eqb (runs_before s (owner_of a) (size s (owner_of a))) (length (pool s (owner_of a))))
    (ltb (mention_word s i 0) 5))

-- under number 6 ?
unfoldable pub ok6 : Areas → ℕ → ℕ → Bool
ok6 s a i = cond (ltb a 5) (held_at s (numbered a) i) (inside s (mention s i))

-- under a number from 4 to 7 ?
unfoldable pub ok_at : Areas → ℕ → ℕ → ℕ → Bool
ok_at s n a i =
    cond (eqb n 4) (ok4 s a i)
    (cond (eqb n 5) (of_module s expressions i) (cond (eqb n 6) (ok6 s a i) (well_ordered s (numbered a) i)))

-- does the number look at the records of the arena ? 5 at expressions alone, 7 at types and expressions
unfoldable pub looks_at : ℕ → ℕ → Bool
looks_at n a = cond (eqb n 5) (eqb a 4) (cond (eqb n 7) (eqb a 0 || eqb a 4) true)

-- how many places an area has under a number: its records, a pool one; 0 where the number doesn't look
unfoldable pub places_in : Sizes → ℕ → ℕ → ℕ
places_in z n a =
    cond (ltb a 5) (cond (looks_at n a) (size_in z (numbered a)) 0)
    (cond (ltb a 7) (cond (eqb n 4) 1 0) (cond (eqb n 4 || eqb n 6) z.mentions 0))

-- and in a module
abbrev pub places_at : Areas → ℕ → ℕ → ℕ
places_at s n a = places_in (sizes_of s) n a

-- the first fault of an area under a number
unfoldable pub scan_area : Areas → ℕ → ℕ → R.Verdict
scan_area s n a = scan (ok_at s n a) (refused n a) 0 (places_at s n a)

-- the bounds of type or expression i of an area; `before` types have dep below the expression
unfoldable pub bounds_at : ℕ → ℕ → ℕ → ℕ → Bounds
bounds_at area i before n =
    record {
      types = cond (eqb area 0) (Some i) (cond (eqb before n) None (Some before));
      expressions = cond (eqb area 0) None (Some i);
    }

-- ---- numbers 4 to 7 at once

-- the limits of record i of an area, enough for all four numbers; `before` types have dep below expression i
unfoldable pub limits_at : ℕ → ℕ → ℕ → Sizes → Run → Limits
limits_at area i before z run =
    record {
      types = cond (eqb area 0) i (cond (eqb area 4) before z.types);
      constants = z.constants;
      overrides = z.overrides;
      expressions = cond (eqb area 4) i z.expressions;
      run = run;
    }

-- every place of an area is good under each of the four
abbrev pub Passed : Areas → ℕ → Type 0
Passed s a = (n i : ℕ) → 4 ≤ n → n < 8 → i < places_at s n a → ok_at s n a i ≡ true

-- the runs of an arena use up its pool
abbrev pub Used : Areas → areas.Arena → Type 0
Used s a = runs_before s a (size s a) ≡ length (pool s a)

-- ---- what is carried from record to record

-- one more than any 32-bit word
abbrev pub most : ℕ
most = 4294967296

-- under number 4 the counts before record i, as far as a word can equal them; under 7, for an expression,
-- how many types have dep below it
unfoldable pub carried_at : Areas → ℕ → ℕ → ℕ → Carried
carried_at s n a i =
    record {
      sum = cond (eqb n 4 && ltb a 5) (min (runs_before s (numbered a) i) most) 0;
      types = cond (eqb n 7 && eqb a 4) (leading s i 0 (size s types)) 0;
    }

-- what the record before hands on; nothing to the first
unfoldable pub carried_to : Areas → ℕ → ℕ → ℕ → Carried
carried_to s n a zero = record { sum = 0; types = 0 }
carried_to s n a (suc i) = carried_at s n a i
