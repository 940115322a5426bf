-- Document 01, "The eight areas": what each word of a record is. One table serves references, checks and adjusting.
-- Assumes nothing.
use Rattle.std.specs.Prelude.{cond, List, [], ◌∷◌, ◌++◌, ℕ, zero, suc, length, get_or, replicate, eqb}
use Rattle.definitions.specs.Areas.{Words, Arena, types, constants, overrides, globals, expressions, Areas, word, Elem, at}

-- what a word of a record is
pub data Slot : Type 0 where
  unused : Slot  -- N
  free : Slot  -- any word, carried along: of a span, a tag
  below : ℕ → Slot  -- a kind, a flag or a form: a word below this number
  must : Arena → Slot  -- a handle of that arena
  may : Arena → Slot  -- "?": a handle of that arena, or N
  start count : Slot  -- a run of the arena's pool

-- "Slots fill from the first in this order; slots not named [..] are N."
unfoldable pub fill : ℕ → List Slot → List Slot
fill zero l = []
fill (suc n) [] = unused ∷ fill n []
fill (suc n) (x ∷ l) = x ∷ fill n l

-- a and b, by the type's kind
unfoldable pub type_slots : List (List Slot)
type_slots =
    (unused ∷ unused ∷ [])  -- 0 no handles (a and b are N)
    ∷ (must types ∷ unused ∷ [])  -- 1 base a (b is N)
    ∷ (must types ∷ must overrides ∷ [])  -- 2 base a, sized by override b
    ∷ (start ∷ count ∷ [])  -- 3 a run of the member pool, start a, count b
    ∷ []

-- n expressions that must be there
abbrev operands : ℕ → List Slot
operands n = replicate n (must expressions)

-- nine words of which none is read: "Check 4 passes over them and doesn't read their slots."
abbrev unread : List Slot
unread = free ∷ free ∷ free ∷ free ∷ free ∷ free ∷ free ∷ free ∷ free ∷ []

-- x and y of an `ImageSample`, by its level form
unfoldable pub level_slots : List (List Slot)
level_slots =
    (unused ∷ unused ∷ [])  -- 0 auto
    ∷ (unused ∷ unused ∷ [])  -- 1 zero
    ∷ (must expressions ∷ unused ∷ [])  -- 2 exact x
    ∷ (must expressions ∷ unused ∷ [])  -- 3 bias x
    ∷ (must expressions ∷ must expressions ∷ [])  -- 4 gradient x y
    ∷ []

-- image, sampler, coordinate, array index?, offset?, level form, x and y by the form, depth reference?
abbrev sample_slots : ℕ → List Slot
sample_slots form =
    operands 3 ++ (may expressions ∷ may expressions ∷ below 5 ∷ []) ++ get_or level_slots form (unused ∷ unused ∷ [])
    ++ (may expressions ∷ [])

-- the level of an `ImageQuery`, by its form
unfoldable pub query_slots : ℕ → List Slot
query_slots zero = may expressions ∷ []  -- 0 size
query_slots (suc n) = []  -- 1 to 3 the counts, which have no level

-- an expression's form: slot 6 of an `ImageSample`, slot 2 of an `ImageQuery`
unfoldable pub form_of : (ℕ → ℕ) → ℕ
form_of f = cond (eqb (f 0) 15) (f 6) (cond (eqb (f 0) 17) (f 2) 0)

-- "the 34 variants in the order of the match in `trace_expression`": the named slots, by the kind
unfoldable pub expr_slots : ℕ → List (List Slot)
expr_slots form =
    -- 0 `Literal` 1 `FunctionArgument` 2 `LocalVariable` 3 `SubgroupBallotResult` 4 `RayQueryProceedResult`: no slot
    [] ∷ [] ∷ [] ∷ [] ∷ []
    ∷ (must constants ∷ [])  -- 5 `Constant`
    ∷ (must overrides ∷ [])  -- 6 `Override`
    ∷ (must types ∷ [])  -- 7 `ZeroValue`
    ∷ (must types ∷ start ∷ count ∷ [])  -- 8 `Compose`: type, pool start, pool count
    ∷ operands 2  -- 9 `Access`
    ∷ operands 1 ∷ operands 1 ∷ operands 1  -- 10 `AccessIndex` 11 `Splat` 12 `Swizzle`
    ∷ unread  -- 13 `GlobalVariable`: not at module scope
    ∷ operands 1  -- 14 `Load`
    ∷ sample_slots form  -- 15 `ImageSample`
    -- 16 `ImageLoad`: image, coordinate, array index?, sample?, level?
    ∷ (operands 2 ++ (may expressions ∷ may expressions ∷ may expressions ∷ []))
    ∷ (operands 1 ++ (below 4 ∷ []) ++ query_slots form)  -- 17 `ImageQuery`: image, form, level? by the form
    ∷ operands 1 ∷ operands 1  -- 18 `RayQueryVertexPositions` 19 `Unary`
    ∷ operands 2  -- 20 `Binary`
    ∷ operands 3  -- 21 `Select`
    ∷ operands 1 ∷ operands 1  -- 22 `Derivative` 23 `Relational`
    -- 24 `Math`: one expression, then three that may be N
    ∷ (operands 1 ++ (may expressions ∷ may expressions ∷ may expressions ∷ []))
    ∷ operands 1 ∷ operands 1  -- 25 `As` 26 `ArrayLength`
    ∷ unread  -- 27 `CallResult`: not at module scope
    -- 28 `AtomicResult` 29 `WorkGroupUniformLoadResult` 30 `SubgroupOperationResult`
    ∷ (must types ∷ []) ∷ (must types ∷ []) ∷ (must types ∷ [])
    ∷ operands 1  -- 31 `RayQueryGetIntersection`
    ∷ operands 2  -- 32 `CooperativeLoad`
    ∷ operands 3  -- 33 `CooperativeMultiplyAdd`
    ∷ []

-- an expression's kind and nine slots, by its kind and form
unfoldable pub expr_body : ℕ → ℕ → List Slot
expr_body kind form = below 34 ∷ fill 9 (get_or (expr_slots form) kind [])

-- a type's kind, flags, a and b, by its kind
unfoldable pub type_body : ℕ → List Slot
type_body kind = below 4 ∷ below 4 ∷ fill 2 (get_or type_slots kind [])

-- the words of a record before its tail, by the words it has
unfoldable pub body : Arena → (ℕ → ℕ) → List Slot
body types f = type_body (f 0)
body constants f = below 2 ∷ must types ∷ must expressions ∷ []  -- named, type, init
body overrides f = below 2 ∷ must types ∷ may expressions ∷ []  -- named, type, init or N
body globals f = must types ∷ may expressions ∷ []  -- type, init or N
body expressions f = expr_body (f 0) (form_of f)

-- how every record ends: its span, document 02's "two words, start and length, before the tag; they are carried along unread", and
-- its tag: "Tags are the host's own numbers and are only carried along."
abbrev pub tail : List Slot
tail = free ∷ free ∷ free ∷ []

-- what each word of a record is, by the words it has
unfoldable pub slots : Arena → (ℕ → ℕ) → List Slot
slots a f = body a f ++ tail

-- what each word of record h is
unfoldable pub layout : Areas → Arena → ℕ → List Slot
layout s a h = slots a (word s a h)

-- the words of a record from word k on, as they are
unfoldable pub carried : (ℕ → ℕ) → ℕ → List Slot → Words
carried f k [] = []
carried f k (l ∷ ls) = f k ∷ carried f (suc k) ls

-- an element's tail: its span and its tag
unfoldable pub tail_of : Areas → Elem → Words
tail_of s (at a h) = carried (word s a h) (length (body a (word s a h))) tail
