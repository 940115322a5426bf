-- What a contract says of lent words: as they were given, and as they are left.
-- Assumes nothing.
use Rattle.std.specs.Prelude.{List, [], ℕ, get_or}
use Rattle.std.specs.Borrow.{Bor, MutBor}
use denote.Triple.Both.{Both}
use Rattle.definitions.specs.Areas.{Words, Areas, areas_of}
use Rattle.definitions.specs.Outcome.{Maps}
use Rattle.arena.specs.declared.areas.ModuleMap.{ModuleMap}
use Rattle.arena.specs.declared.areas.ModuleMut.{ModuleMut}
use Rattle.arena.specs.declared.areas.ModuleMapMut.{ModuleMapMut}

-- a `&mut` that an `ensures` speaks of
abbrev pub Lent : Type 0 → Type 0
Lent A = Both (MutBor A) (MutBor A)

-- what it held when it was given
abbrev pub given : {A : Type 0} → Lent A → A
given x = x.entry.now

-- and what it holds when it is handed back
abbrev pub left : {A : Type 0} → Lent A → A
left x = x.exit.now

-- five maps, in order
abbrev pub maps_of : Words → Words → Words → Words → Words → Maps
maps_of t c o g e = record { types = t; constants = c; overrides = o; globals = g; expressions = e }

-- the eight areas at one moment, as `Over` takes them
abbrev pub areas : {X : Type 0} → (X → Words) → X → X → X → X → X → X → X → X → Areas
areas at t c o g e m k q = areas_of (at t) (at c) (at o) (at g) (at e) (at m) (at k) (at q)

-- and the five maps
abbrev pub maps : {X : Type 0} → (X → Words) → X → X → X → X → X → Maps
maps at t c o g e = maps_of (at t) (at c) (at o) (at g) (at e)

-- a fact of the areas and the maps as they were given and as they are left, each slice named once
abbrev pub Over : (Areas → Maps → Areas → Maps → Type 0)
    → Lent Words → Lent Words → Lent Words → Lent Words → Lent Words → Lent Words → Lent Words → Lent Words
    → Lent Words → Lent Words → Lent Words → Lent Words → Lent Words → Type 0
Over P t c o g e m k q tm cm om gm em =
    P (areas given t c o g e m k q) (maps given tm cm om gm em)
    (areas left t c o g e m k q) (maps left tm cm om gm em)

-- the words of the area of a number in an array of slices, as the code reads them
abbrev pub words_at : List (Bor Words) → ℕ → Words
words_at m a = (get_or m a (record { ref_ptr = (0, 0); now = [] })).now

-- the eight areas of such an array
abbrev pub areas_in : List (Bor Words) → Areas
areas_in m = areas (words_at m) 0 1 2 3 4 5 6 7

-- the five maps that are only read
abbrev pub maps_in : ModuleMap → Maps
maps_in m = maps_of m.types.now m.constants.now m.overrides.now m.globals.now m.expressions.now

-- the eight areas that a module lent for writing holds
abbrev pub areas_within : ModuleMut → Areas
areas_within m =
    areas_of m.types.now m.constants.now m.overrides.now m.globals.now
    m.expressions.now m.members.now m.components.now m.mentions.now

-- and the five maps
abbrev pub maps_within : ModuleMapMut → Maps
maps_within m = maps_of m.types.now m.constants.now m.overrides.now m.globals.now m.expressions.now

-- what five slices that were lent in one struct hold when they are handed back
abbrev pub Back5 : Type 0
Back5 = MutBor Words × (MutBor Words × (MutBor Words × (MutBor Words × (MutBor Words × Unit {0}))))

-- and eight
abbrev pub Back8 : Type 0
Back8 = MutBor Words × (MutBor Words × (MutBor Words × Back5))

-- the five maps that are handed back
abbrev pub maps_back : Back5 → Maps
maps_back b = maps_of b.0.now b.1.0.now b.1.1.0.now b.1.1.1.0.now b.1.1.1.1.0.now

-- the eight areas that are handed back
abbrev pub areas_back : Back8 → Areas
areas_back b =
    areas_of b.0.now b.1.0.now b.1.1.0.now b.1.1.1.0.now
    b.1.1.1.1.0.now b.1.1.1.1.1.0.now b.1.1.1.1.1.1.0.now b.1.1.1.1.1.1.1.0.now
