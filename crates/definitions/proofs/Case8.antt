-- "Case 8 moves to 65,536 and 65,537": so many types with no handles. A law over their number, since no table holds them.
-- Assumes nothing.
use mathlib.Core.Path.{◌≡◌, refl, sym, ap, subst, ◌∙◌}
use mathlib.Core.Bool.{false}
use mathlib.Core.List.{List, []}
use Prim.Native.Nat.{ℕ, zero, suc, ◌+◌, ◌*◌, ◌/◌, ◌%◌, ◌≤◌, ◌<◌, zero-le}
use native.Mathlib.Nat.{le_of_suc-le-suc, mul-div_cancel, mul-mod_left, mul-zero, not-suc-le-zero, zero-div, zero-mod}
use native.Mathlib.Omega.{arith}
use lib.Dec.{T, eqb, leb, le→leb, lit<, lit≤}
use lib.ListN.{length, get_or, get_or-replicate}
use borrow.Author.Tests.{lt-leb}
use Rattle.definitions.specs.Lists.{all, always, gather, total}
use Rattle.definitions.specs.Areas.{Areas, Arena, N, Words, all_words, areas_of, at, constants, expressions, globals, length_of, limit, limits}
use Rattle.definitions.specs.Areas.{area_number, mention_count, overrides, pool, records_of, size, types, width, widths, word, words}
use Rattle.definitions.specs.Slots.{body, fill, layout, slots, type_body, type_slots}
use Rattle.definitions.specs.References.{has_run, named_by, named_from, references, run, span}
use Rattle.definitions.specs.Order.{well_ordered, with_behind}
use Rattle.definitions.specs.Sweep.{has}
use Rattle.definitions.specs.Refusals.{accepted, check, check1, check2, check3, every, first_of, held_at, refused, runs_before, scan, scan_areas, shaped, shaped_at, turns, under}
use Rattle.definitions.proofs.ListLaws.{gather-word, length-gather, total-always, total-cong}
use Rattle.definitions.proofs.Accepted.{Accepted, accepts, all-areas}
use Rattle.definitions.proofs.AcceptedAfter.{refs-held}
use Rattle.definitions.proofs.Unchanged.{accepted-is}
use Rattle.definitions.proofs.Worked.{tailed, type'}

-- types with no handles, unnamed, by their spans and tags
abbrev leaf : (ℕ → ℕ) → (ℕ → ℕ) → (ℕ → ℕ) → ℕ → Words
leaf starts lengths tags h = type' 0 0 N N (tailed (starts h) (lengths h) (tags h))

-- n of them and nothing else
abbrev pub leaves : (ℕ → ℕ) → (ℕ → ℕ) → (ℕ → ℕ) → ℕ → Areas
leaves starts lengths tags n = areas_of (gather always (leaf starts lengths tags) n) [] [] [] [] [] [] []

module _ (starts lengths tags : ℕ → ℕ) (n : ℕ) where
  abbrev s : Areas
  s = leaves starts lengths tags n

  types-length : length s.types ≡ n * width types
  unfolding width
  types-length = length-gather always (leaf starts lengths tags) n ∙ total-always (width types) n

  types-size : size s types ≡ n
  unfolding size words
  types-size = ap (λ l. l / width types) types-length ∙ mul-div_cancel n (unfold width in lit< tt)

  -- each word is the leaf's
  leaf-word : (h k : ℕ) → h < n → k < width types → word s types h k ≡ get_or (leaf starts lengths tags h) k 0
  unfolding word words width
  leaf-word h k l b =
      ap (λ j. get_or s.types (j + k) 0) (sym (total-always (width types) h)) ∙ gather-word always (leaf starts lengths tags) h n k 0 tt l b

  -- ---- number 4

  leaf-shaped : (h : ℕ) → h < size s types → T (shaped_at s types h)
  unfolding shaped_at layout slots body every shaped type_body fill type_slots width
  leaf-shaped h l =
      let k : h < n = subst (λ j. h < j) types-size l in
      rw (leaf-word h 0 k (lit< tt), leaf-word h 1 k (lit< tt), leaf-word h 2 k (lit< tt), leaf-word h 3 k (lit< tt)) tt

  leaf-span : (h : ℕ) → h < n → span s types h ≡ 0
  unfolding span has_run
  leaf-span h l = rw (leaf-word h 0 l (unfold width in lit< tt)) refl

  no-runs : runs_before s types (size s types) ≡ 0
  unfolding runs_before
  no-runs =
      rw types-size (total-cong always (span s types) (λ _. 0) n (λ h l t. leaf-span h l) ∙ total-always 0 n ∙ mul-zero n)

  -- ---- numbers 6 and 7

  no-references : (h : ℕ) → h < n → references s (at types h) ≡ []
  unfolding references named_from named_by layout slots body type_body fill type_slots run
  no-references h l = rw (leaf-span h l, leaf-word h 0 l (unfold width in lit< tt)) refl

  leaf-held : (h : ℕ) → h < size s types → T (held_at s types h)
  unfolding has
  leaf-held h l = refs-held s types h (rw (no-references h (subst (λ j. h < j) types-size l)) (λ y i. absurd i))

  leaf-ordered : (h : ℕ) → h < size s types → T (well_ordered s types h)
  unfolding well_ordered with_behind all
  leaf-ordered h l = rw (no-references h (subst (λ j. h < j) types-size l)) tt

  -- ---- the check

  no_words : (i : ℕ) → suc i < 8 → length_of s (suc i) ≡ 0
  unfolding length_of all_words
  no_words i l = ap length (get_or-replicate {A = Words} 7 i [] [] (le_of_suc-le-suc l))

  whole-leaves : (i : ℕ) → i < 8 → T (eqb (length_of s i % get_or widths i 1) 0)
  whole-leaves zero l = unfold length_of all_words widths in (rw (types-length, mul-mod_left n (width types)) tt)
  whole-leaves (suc i) l = rw (no_words i l, zero-mod (get_or widths (suc i) 1)) tt

  types-records : records_of s 0 ≡ n
  unfolding records_of length_of all_words widths size words
  types-records = types-size

  -- a bound on the types is one on every area
  few-leaves : (most : List ℕ) → n ≤ get_or most 0 0 → (i : ℕ) → i < 8 → T (leb (records_of s i) (get_or most i 0))
  few-leaves most e zero l = rw types-records (le→leb n (get_or most 0 0) e)
  few-leaves most e (suc i) l = rw (none i l) (le→leb 0 (get_or most (suc i) 0) zero-le)
    where
      none : (i : ℕ) → suc i < 8 → records_of s (suc i) ≡ 0
      none i l = unfold records_of in (ap (λ j. j / get_or widths (suc i) 1) (no_words i l) ∙ zero-div (get_or widths (suc i) 1))

  -- what every type is, every record is
  all_types : (P : Arena → ℕ → Type 0) → ((h : ℕ) → h < size s types → P types h) → (a : Arena) (h : ℕ) → h < size s a → P a h
  unfolding size words width
  all_types P f types h l = f h l
  all_types P f constants h l = absurd (not-suc-le-zero l)
  all_types P f overrides h l = absurd (not-suc-le-zero l)
  all_types P f globals h l = absurd (not-suc-le-zero l)
  all_types P f expressions h l = absurd (not-suc-le-zero l)

  no-mentions : (P : ℕ → Type 0) (h : ℕ) → h < mention_count s → P h
  unfolding mention_count
  no-mentions P h l = absurd (not-suc-le-zero l)

  no-expressions : (P : ℕ → Type 0) (h : ℕ) → h < size s expressions → P h
  unfolding size words width
  no-expressions P h l = absurd (not-suc-le-zero l)

  accepted-leaves : n ≤ limit types → Accepted s
  accepted-leaves e =
      record {
        sound = record {
          whole = whole-leaves;
          few = few-leaves limits (unfold area_number in e);
          shapes = all_types (λ a h. T (shaped_at s a h)) leaf-shaped;
          members-used = unfold pool in (rw no-runs tt);
          components-used = unfold pool runs_before size words width total in tt;
          mention-areas = no-mentions _;
          kinds = no-expressions _;
          holds = all_types (λ a h. T (held_at s a h)) leaf-held;
          mentions = no-mentions _;
        };
        type-order = leaf-ordered;
        expression-order = no-expressions _;
      }

  -- "65,536 [..] pass": so many as the limit allows
  pub pass : (maps : List ℕ) → n ≤ get_or maps 0 0 → n ≤ limit types → check s maps ≡ accepted
  pass maps room e = accepted-is (check s maps) (accepts s maps (accepted-leaves e) (unfold check3 in (all-areas 3 _ 5 (λ i l. few-leaves maps room i (omega arith)))))

  -- "65,537 give 2, area 0, record 0": one more, or any number more
  pub give-2 : (maps : List ℕ) → limit types < n → check s maps ≡ refused 2 0 0
  unfolding check under turns check1 check2 scan_areas scan first_of area_number
  give-2 maps e = rw (whole, crowded) refl
    where
      whole : scan (λ a. eqb (length_of s a % get_or widths a 1) 0) (λ a. refused 1 a 0) 0 8 ≡ accepted
      whole = unfold scan_areas in (accepted-is _ (all-areas 1 (λ a. eqb (length_of s a % get_or widths a 1) 0) 8 whole-leaves))

      crowded : leb (records_of s 0) (get_or limits 0 0) ≡ false
      crowded = rw types-records (lt-leb n (limit types) e)

-- 65,536 types pass where the types' map has room for them; 65,537 give 2, area 0, record 0, whatever the maps; whatever spans and tags
pub case8 : (starts lengths tags : ℕ → ℕ) (maps : List ℕ)
    → (65536 ≤ get_or maps 0 0 → check (leaves starts lengths tags 65536) maps ≡ accepted)
    × (check (leaves starts lengths tags 65537) maps ≡ refused 2 0 0)
unfolding limits area_number
case8 starts lengths tags maps =
    (λ room. pass starts lengths tags 65536 maps room (lit≤ tt), give-2 starts lengths tags 65537 maps (lit< tt))
