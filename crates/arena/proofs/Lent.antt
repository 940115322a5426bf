-- The slices of an array are the areas of its module, by their numbers.
-- Assumes nothing.
use mathlib.Core.Path.{◌≡◌, refl, sym, ap}
use mathlib.Core.List.{List, []}
use Prim.Native.Nat.{ℕ, zero, suc, ◌≤◌, ◌<◌}
use native.Mathlib.Omega.{arith}
use lib.ListN.{length, get_or, get_or-eq_default}
use denote.Ref.{Bor}
use Rattle.definitions.specs.Areas.{Words, Areas, all_words, length_of}
use Rattle.arena.specs.Lent.{words_at, areas_in}

slice_at : (m : List (Bor Words)) (a : ℕ) → a < 8 → words_at m a ≡ get_or (all_words (areas_in m)) a []
unfolding all_words
slice_at m zero l = refl
slice_at m (suc zero) l = refl
slice_at m (suc (suc zero)) l = refl
slice_at m (suc (suc (suc zero))) l = refl
slice_at m (suc (suc (suc (suc zero)))) l = refl
slice_at m (suc (suc (suc (suc (suc zero))))) l = refl
slice_at m (suc (suc (suc (suc (suc (suc zero)))))) l = refl
slice_at m (suc (suc (suc (suc (suc (suc (suc zero))))))) l = refl
slice_at m (suc (suc (suc (suc (suc (suc (suc (suc a)))))))) l = absurd (omega arith)

pub length_at : (m : List (Bor Words)) (a : ℕ) → a < 8 → length (words_at m a) ≡ length_of (areas_in m) a
unfolding length_of
length_at m a l = ap length (slice_at m a l)

-- past the last area there are no words
pub length-past : (s : Areas) (a : ℕ) → 8 ≤ a → 0 ≡ length_of s a
unfolding length_of all_words
length-past s a l = sym (ap length (get_or-eq_default (all_words s) [] l))
