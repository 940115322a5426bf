-- Document 01, "The eight areas": words, areas, records, elements.
-- Assumes nothing.
use Rattle.std.specs.Prelude.{Bool, ◌&&◌, List, [], ◌∷◌, ℕ, ◌+◌, ◌*◌, ◌/◌, length, get_or, eqb}

-- "All areas are lent slices of 32-bit words."
abbrev pub Words : Type 0
Words = List ℕ

-- "N is 4294967295, "no handle"."
abbrev pub N : ℕ
N = 4294967295

-- areas 0 to 7
pub record Areas : Type 0 where
  pub types : Words
  pub constants : Words
  pub overrides : Words
  pub globals : Words
  pub expressions : Words
  pub members : Words
  pub components : Words
  pub mentions : Words

-- the eight areas, in order
abbrev pub areas_of : Words → Words → Words → Words → Words → Words → Words → Words → Areas
areas_of t c o g e m k q =
    record {
      types = t;
      constants = c;
      overrides = o;
      globals = g;
      expressions = e;
      members = m;
      components = k;
      mentions = q;
    }

-- areas 0 to 4, the arenas: their records have handles
pub data Arena : Type 0 where
  types constants overrides globals expressions : Arena

-- what each arena gives, in order, before the rest
abbrev pub each_arena : {A : Type 0} → (Arena → A) → List A → List A
each_arena f l = f types ∷ f constants ∷ f overrides ∷ f globals ∷ f expressions ∷ l

-- an arena's area number
unfoldable pub area_number : Arena → ℕ
area_number types = 0
area_number constants = 1
area_number overrides = 2
area_number globals = 3
area_number expressions = 4

-- the arena of an area number; check 4 sees that a mention's is below 5
unfoldable pub numbered : ℕ → Arena
numbered n = get_or (types ∷ constants ∷ overrides ∷ globals ∷ expressions ∷ []) n expressions

-- an arena's words
unfoldable pub words : Areas → Arena → Words
words s types = s.types
words s constants = s.constants
words s overrides = s.overrides
words s globals = s.globals
words s expressions = s.expressions

-- "Record": how many words it has; document 02: "Every record of areas 0 to 4, function expressions included, gains two words, start and
-- length, before the tag", which are its span
unfoldable pub width : Arena → ℕ
width types = 7  -- kind, flags, a, b, span, tag
width constants = 6  -- named, type, init, span, tag
width overrides = 6  -- named, type, init or N, span, tag
width globals = 5  -- type, init or N, span, tag
width expressions = 13  -- kind, nine slots, span, tag

-- "area 0 to 4, handle"
abbrev pub mention_width : ℕ
mention_width = 2

-- the eight areas by number
unfoldable pub all_words : Areas → List Words
all_words s =
    s.types ∷ s.constants ∷ s.overrides ∷ s.globals ∷ s.expressions
    ∷ s.members ∷ s.components ∷ s.mentions ∷ []

-- their record widths; a pool's record is one handle
unfoldable pub widths : List ℕ
widths = each_arena width (1 ∷ 1 ∷ mention_width ∷ [])

-- "Most records"; document 02: "Raise areas 0 to 4 and 7 to 65,536 records and both module pools to 262,144 words"
unfoldable pub limits : List ℕ
limits = 65536 ∷ 65536 ∷ 65536 ∷ 65536 ∷ 65536 ∷ 262144 ∷ 262144 ∷ 65536 ∷ []

-- the most records of an arena
abbrev pub limit : Arena → ℕ
limit a = get_or limits (area_number a) 0

-- the most records of the five arenas together
unfoldable pub all_records : ℕ
all_records = limit types + limit constants + limit overrides + limit globals + limit expressions

-- as many words of 64 bits as have a bit for each of these records
unfoldable pub marks_words : ℕ
marks_words = all_records / 64

-- the length in words of the area of a number
unfoldable pub length_of : Areas → ℕ → ℕ
length_of s a = length (get_or (all_words s) a [])

-- and how many records that makes
unfoldable pub records_of : Areas → ℕ → ℕ
records_of s a = length_of s a / get_or widths a 1

-- how many records an arena has
unfoldable pub size : Areas → Arena → ℕ
size s a = length (words s a) / width a

-- word k of record h in the words of an arena: "A handle is a record's place in its area, from 0."
abbrev pub word_of : Words → Arena → ℕ → ℕ → ℕ
word_of ws a h k = get_or ws (h * width a + k) 0

-- and in a module
unfoldable pub word : Areas → Arena → ℕ → ℕ → ℕ
word s a h k = word_of (words s a) a h k

-- the pool that an arena's runs lie in: members of types, components of expressions
unfoldable pub pool : Areas → Arena → Words
pool s types = s.members
pool s constants = []
pool s overrides = []
pool s globals = []
pool s expressions = s.components

-- how many mentions
unfoldable pub mention_count : Areas → ℕ
mention_count s = length s.mentions / mention_width

-- word k of mention h
unfoldable pub mention_word : Areas → ℕ → ℕ → ℕ
mention_word s h k = get_or s.mentions (h * mention_width + k) 0

-- an element of the module: a record of an arena
pub data Elem : Type 0 where
  at : Arena → ℕ → Elem

-- are they one element ?
unfoldable pub same : Elem → Elem → Bool
same (at a h) (at b k) = eqb (area_number a) (area_number b) && eqb h k
