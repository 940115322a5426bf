-- Document 01, "Worked on the bench": the cases marked P, as rows of a single checked table.
-- Assumes nothing.
use mathlib.Core.Bool.{Bool, true, false, ◌&&◌}
use mathlib.Core.List.{List, [], ◌∷◌, ◌++◌}
use Prim.Native.Nat.{ℕ, zero, suc, ◌+◌, ◌-◌, ◌*◌}
use lib.ListN.{replicate}
use lib.Dec.{T, eqb}
use Rattle.definitions.specs.Lists.{all}
use Rattle.definitions.specs.Areas.{Areas, Arena, types, overrides, expressions, width, N, Words, all_words}
use Rattle.definitions.specs.Outcome.{Maps, Outcome, outcome}
use Rattle.definitions.specs.MapEntries.{Adjusted, Ranged, lookup, adjust, range}
use Rattle.definitions.proofs.Computed.{computed}

-- ---- the rows

-- a row: a pass over a module, or what the map entries answer on the map of case 7
pub data Row : Type 0 where
  -- case (0 for one of our own), module, maps, the flags that it is tried under, and what `seen` begins with
  pass : ℕ → Areas → Maps → List Bool → List Words → Row
  ranged : ℕ → ℕ → ℕ → ℕ → ℕ → Row  -- start, end; the number, start and end that it answers
  looked : ℕ → ℕ → Row  -- handle; what lookup gives
  adjusts : ℕ → ℕ → ℕ → Row  -- handle; the number and the handle that adjust answers

-- `KeepUnused::Yes`, `No`, and each of the two
with_yes : List Bool
with_yes = true ∷ []

with_no : List Bool
with_no = false ∷ []

either : List Bool
either = true ∷ false ∷ []

-- five maps of the same words
maps : Words → Maps
maps ws = record { types = ws; constants = ws; overrides = ws; globals = ws; expressions = ws }

-- with room for more than the records, so that "words past that stay" shows
room : Maps
room = maps (replicate 4 7)

maps_in : Maps → List Words
maps_in p = p.types ∷ p.constants ∷ p.overrides ∷ p.globals ∷ p.expressions ∷ []

-- what is seen of an outcome: the words of the program's line, the five maps, the eight areas
seen : ℕ → Outcome → List Words
seen case r = (case ∷ r.number ∷ r.area ∷ r.record_number ∷ r.counts) ∷ maps_in r.maps ++ all_words r.areas

-- types, constants, overrides, expressions, mentions
module' : Words → Words → Words → Words → Words → Areas
module' t c o e q =
    record {
      types = t;
      constants = c;
      overrides = o;
      globals = [];
      expressions = e;
      members = [];
      components = [];
      mentions = q;
    }

-- types, members, mentions
pooled : Words → Words → Words → Areas
pooled t p q =
    record {
      types = t;
      constants = [];
      overrides = [];
      globals = [];
      expressions = [];
      members = p;
      components = [];
      mentions = q;
    }

-- a pass that is refused with number, area and record: counts 0, and nothing has changed
refuses : ℕ → Areas → List Bool → ℕ → ℕ → ℕ → Row
refuses case s flags nr a h = pass case s room flags ((case ∷ nr ∷ a ∷ h ∷ replicate 7 0) ∷ maps_in room ++ all_words s)

-- a pass that is accepted, with its kept types, constants, overrides, globals and expressions
keeps : ℕ → Areas → List Bool → ℕ → ℕ → ℕ → ℕ → ℕ → Row
keeps case s flags t c o g e = pass case s room flags ((case ∷ 0 ∷ 0 ∷ 0 ∷ t ∷ c ∷ o ∷ g ∷ e ∷ 0 ∷ 0 ∷ []) ∷ [])

-- words, then N to that many
up_to : ℕ → Words → Words
up_to zero ws = []
up_to (suc n) [] = N ∷ up_to n []
up_to (suc n) (w ∷ ws) = w ∷ up_to n ws

-- a record's tail: its span's start and length, its tag
abbrev pub tailed : ℕ → ℕ → ℕ → Words
tailed start length t = start ∷ length ∷ t ∷ []

-- a type: kind, flags, a, b, its tail
abbrev pub type' : ℕ → ℕ → ℕ → ℕ → Words → Words
type' k f a b t = k ∷ f ∷ a ∷ b ∷ t

-- so many records of an arena, freed
freed : Arena → ℕ → Words
freed a n = replicate (n * width a) N

-- the cases, with a span for each record of a case, which has a number i there
module _ (start length : ℕ → ℕ) where
  -- the tail of the case's record i, by its tag
  tagged : ℕ → ℕ → Words
  tagged i t = tailed (start i) (length i) t

  -- a type: kind, flags, a, b, tag
  type-of : ℕ → ℕ → ℕ → ℕ → ℕ → ℕ → Words
  type-of i k f a b t = type' k f a b (tagged i t)

  -- a constant or an override: named, type, init, tag
  named' : ℕ → ℕ → ℕ → ℕ → ℕ → Words
  named' i n ty e t = n ∷ ty ∷ e ∷ tagged i t

  -- an expression: its kind, its first slots, its tag
  expression : ℕ → ℕ → Words → ℕ → Words
  expression i k ws t = k ∷ up_to 9 ws ++ tagged i t

  literal : ℕ → ℕ → Words
  literal i t = expression i 0 [] t

  -- a type with no handles, unnamed, with tag 0
  leaf : ℕ → Words
  leaf i = type-of i 0 0 N N 0

  -- the module of cases 1 and 2
  case1 : Areas
  case1 = module' (type-of 0 0 0 N N 10 ++ type-of 1 2 1 0 0 11) [] (named' 2 0 0 1 0) (literal 3 20 ++ literal 4 21) []

  -- "Expression [..] names the unnamed constant 0 whose init is expression 0"
  case4 : Words → Areas
  case4 e = module' (leaf 0) (named' 1 0 0 0 0) [] e []

  -- "Types: leaf, array sized by an override with init expression 1, leaf."
  case5 : Words → Areas
  case5 e = module' (leaf 0 ++ type-of 1 2 0 0 0 0 ++ leaf 2) [] (named' 3 0 0 1 0) e []

  -- "A named constant of an abstract type": the type's flags
  case6 : ℕ → Areas
  case6 flags = module' (type-of 0 0 flags N N 0) (named' 1 1 0 0 0) [] (literal 2 0) []

  -- an expression behind a literal, mentioned
  case9 : ℕ → Words → Areas
  case9 kind ws = module' [] [] [] (literal 0 0 ++ expression 1 kind ws 0) (4 ∷ 1 ∷ [])

  pub table : List Row
  table =
      pass 1 case1 room with_yes
      ((1 ∷ 0 ∷ 0 ∷ 0 ∷ 2 ∷ 0 ∷ 1 ∷ 0 ∷ 1 ∷ 0 ∷ 0 ∷ [])
      ∷ (0 ∷ 1 ∷ 7 ∷ 7 ∷ []) ∷ replicate 4 7 ∷ (0 ∷ 7 ∷ 7 ∷ 7 ∷ []) ∷ replicate 4 7 ∷ (N ∷ 0 ∷ 7 ∷ 7 ∷ [])
      ∷ (type-of 0 0 0 N N 10 ++ type-of 1 2 1 0 0 11) ∷ [] ∷ named' 2 0 0 0 0 ∷ [] ∷ (literal 4 21 ++ freed expressions 1) ∷ [] ∷ [] ∷ [] ∷ [])
      ∷ pass 2 case1 room with_no
      ((2 ∷ 0 ∷ 0 ∷ 0 ∷ replicate 7 0)
      ∷ (N ∷ N ∷ 7 ∷ 7 ∷ []) ∷ replicate 4 7 ∷ (N ∷ 7 ∷ 7 ∷ 7 ∷ []) ∷ replicate 4 7 ∷ (N ∷ N ∷ 7 ∷ 7 ∷ [])
      ∷ freed types 2 ∷ [] ∷ freed overrides 1 ∷ [] ∷ freed expressions 2 ∷ [] ∷ [] ∷ [] ∷ [])
      ∷ refuses 4 (case4 (expression 2 5 (0 ∷ []) 0)) either 7 4 0
      ∷ keeps 4 (case4 (literal 2 0 ++ expression 3 5 (0 ∷ []) 0)) either 0 0 0 0 0
      ∷ refuses 5 (case5 (expression 4 7 (2 ∷ []) 0 ++ literal 5 0)) either 7 4 0
      ∷ keeps 5 (case5 (literal 4 0 ++ literal 5 0 ++ expression 6 7 (2 ∷ []) 0)) either 0 0 0 0 0
      ∷ keeps 6 (case6 2) with_yes 0 0 0 0 0
      ∷ keeps 6 (case6 0) with_yes 1 1 0 0 1
      ∷ ranged 0 1 0 0 0
      ∷ ranged 0 2 0 0 1
      ∷ ranged 1 4 0 0 2
      ∷ ranged 2 5 0 1 3
      ∷ ranged 5 5 0 0 0
      ∷ ranged 0 6 8 N N
      ∷ ranged 3 2 8 N N
      -- the other two map entries on the same map: "a dropped handle or one past the end gives N"; "8 past the end, 9 on N"
      ∷ looked 0 N
      ∷ looked 3 1
      ∷ looked 5 N
      ∷ adjusts 0 9 N
      ∷ adjusts 3 0 1
      ∷ adjusts 5 8 N
      ∷ keeps 9 (case9 33 (0 ∷ 0 ∷ 0 ∷ [])) either 0 0 0 0 2
      ∷ refuses 9 (case9 34 (0 ∷ 0 ∷ 0 ∷ [])) either 4 4 1
      ∷ refuses 9 (case9 13 (0 ∷ [])) either 5 4 1
      -- "Check 4 passes over them and doesn't read their slots."
      ∷ refuses 9 (case9 13 (1 ∷ 2 ∷ 3 ∷ 4 ∷ 5 ∷ 6 ∷ 7 ∷ 8 ∷ 9 ∷ [])) either 5 4 1
      ∷ refuses 9 (case9 27 (1 ∷ 2 ∷ 3 ∷ 4 ∷ 5 ∷ 6 ∷ 7 ∷ 8 ∷ 9 ∷ [])) either 5 4 1
      -- "youngest first": 2 keeps 1, and 1 keeps 0
      ∷ keeps 0 (module' [] [] [] (literal 0 0 ++ expression 1 19 (0 ∷ []) 0 ++ expression 2 19 (1 ∷ []) 0) (4 ∷ 2 ∷ [])) with_no 0 0 0 0 3
      -- "Adjusting a run under its old start after the pool has moved": the first of two structs goes
      ∷ pass 0 (pooled (leaf 0 ++ type-of 1 3 0 0 2 0 ++ type-of 2 3 0 2 1 0) (0 ∷ 0 ∷ 0 ∷ []) (0 ∷ 2 ∷ [])) room with_no
      ((0 ∷ 0 ∷ 0 ∷ 0 ∷ 2 ∷ 0 ∷ 0 ∷ 0 ∷ 0 ∷ 1 ∷ 0 ∷ [])
      ∷ (0 ∷ N ∷ 1 ∷ 7 ∷ []) ∷ replicate 4 7 ∷ replicate 4 7 ∷ replicate 4 7 ∷ replicate 4 7
      ∷ (leaf 0 ++ type-of 2 3 0 0 1 0 ++ freed types 1) ∷ [] ∷ [] ∷ [] ∷ [] ∷ (0 ∷ N ∷ N ∷ []) ∷ [] ∷ (0 ∷ 1 ∷ []) ∷ [])
      ∷ refuses 10 (module' (type-of 0 1 0 9 N 0) [] [] (expression 1 34 [] 0) []) either 4 4 0
      -- nothing in any of the thirteen, before and after
      ∷ pass 11 (module' [] [] [] [] []) (maps []) either ((11 ∷ 0 ∷ 0 ∷ 0 ∷ replicate 7 0) ∷ replicate 13 [])
      ∷ []

-- "The cases' records gain two zeros"
pub paper : List Row
paper = table (λ i. 0) (λ i. 0)

-- the same with spans that differ from record to record, N among them
pub apart : List Row
apart = table (λ i. N - i) (λ i. 100 + i)

-- ---- the check of the table

same_words : Words → Words → Bool
same_words [] [] = true
same_words [] (y ∷ ys) = false
same_words (x ∷ xs) [] = false
same_words (x ∷ xs) (y ∷ ys) = eqb x y && same_words xs ys

-- the second begins with the first
begins : List Words → List Words → Bool
begins [] l = true
begins (x ∷ xs) [] = false
begins (x ∷ xs) (y ∷ ys) = same_words x y && begins xs ys

map7 : Words
map7 = N ∷ 0 ∷ N ∷ 1 ∷ 2 ∷ []

adjusted_words : Adjusted → Words
adjusted_words r = r.number ∷ r.handle ∷ []

ranged_words : Ranged → Words
ranged_words r = r.number ∷ r.start ∷ r.end ∷ []

pub holds : Row → Bool
holds (pass case s p flags l) = all (λ keep. begins l (seen case (outcome s p keep))) flags
holds (ranged a b nr c d) = same_words (nr ∷ c ∷ d ∷ []) (ranged_words (range map7 a b))
holds (looked h v) = eqb v (lookup map7 h)
holds (adjusts h nr v) = same_words (nr ∷ v ∷ []) (adjusted_words (adjust map7 h))

-- every row of the table holds, whatever the spans
pub worked : T (all holds (paper ++ apart))
unfolding computed holds paper apart table begins same_words map7 adjusted_words ranged_words seen maps_in refuses keeps with_yes with_no either case1 case4 case5 case6 case9 module' pooled maps room leaf freed literal expression named' type-of tagged up_to
worked = tt
