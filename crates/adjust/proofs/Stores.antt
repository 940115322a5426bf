-- Words stored one after another, a pass that closes up in place what passes a test, and what is freed after it.
-- Assumes nothing.
use mathlib.Core.Path.{◌≡◌, refl, sym, ap, ap₂, ◌∙◌}
use mathlib.Core.Bool.{Bool, true, false}
use mathlib.Core.List.{[], ◌∷◌, ◌++◌, append-nil, append_assoc}
use Prim.Native.Nat.{ℕ, suc, ◌+◌, ◌-◌, ◌≤◌}
use native.Mathlib.Nat.{add-zero}
use native.Mathlib.Numerals.{add-one}
use native.Mathlib.Omega.{arith}
use lib.ListN.{length, get_or, take, drop, set, replicate, length-append, length-set, length-drop, drop_of_length-le, replicate-append-replicate}
use lib.Seq.{sets, sets-eq, length-sets, take_at, drop-set-lt, get_or-set_other, length-take-le, drop-drop}
use borrow.Rule.Slice.PartMut.{put_mid, mid_of, post_of}
use Rattle.definitions.specs.Lists.{gather}
use Rattle.definitions.specs.Areas.{Words, N}
use Rattle.definitions.specs.Records.{padded}
use Rattle.definitions.proofs.ListLaws.{gather-step, gather-skip}
use Rattle.adjust.specs.Rewrite.{Empty, freed_from}

-- ---- one after another

-- of the words `all`, due at `to`, k are stored and those `left` are not; what lies ahead is as it was
pub record Storing (old new : Words) (to k : ℕ) (left all : Words) : Type 0 where
  pub same : length new ≡ length old
  pub ahead : (j : ℕ) → to + k ≤ j → get_or new j 0 ≡ get_or old j 0
  pub todo : sets new (to + k) left ≡ sets old to all

pub none-stored : (old : Words) (to : ℕ) (left all : Words) → left ≡ all → Storing old old to 0 left all
none-stored old to left all e = record { same = refl; ahead = λ j l. refl; todo = ap (λ i. sets old i left) (add-zero to) ∙ ap (sets old to) e }

pub one-stored : (old new : Words) (to k v : ℕ) (left more all : Words) → left ≡ v ∷ more → Storing old new to k left all
    → Storing old (set new (to + k) v) to (k + 1) more all
one-stored old new to k v left more all e s =
    let next : to + (k + 1) ≡ suc (to + k) = omega arith in
    record {
      same = length-set new (to + k) v ∙ s.same;
      ahead = λ j l. get_or-set_other new (to + k) j v 0 (λ q. omega arith) ∙ s.ahead j (omega arith);
      todo = ap (λ i. sets (set new (to + k) v) i more) next ∙ ap (sets new (to + k)) (sym e) ∙ s.todo;
    }

pub all-stored : (old new : Words) (to k : ℕ) (left all : Words) → left ≡ [] → Storing old new to k left all → new ≡ sets old to all
all-stored old new to k left all e s = ap (sets new (to + k)) (sym e) ∙ s.todo

-- ---- closing up

-- what stands before the end of a run of stores
take-sets : (l : Words) (i : ℕ) (vs : Words) → i + length vs ≤ length l → take (i + length vs) (sets l i vs) ≡ take i l ++ vs
take-sets l i vs h =
    ap (take (i + length vs)) (sets-eq vs l i h)
    ∙ take_at (take i l ++ vs) _ _ (length-append (take i l) vs ∙ ap (λ k. k + length vs) (length-take-le i l (omega arith)))

-- what stands past a run of stores
drop-sets : (vs l : Words) (i k : ℕ) → i + length vs ≤ k → drop k (sets l i vs) ≡ drop k l
drop-sets [] l i k h = refl
drop-sets (v ∷ vs) l i k h = drop-sets vs (set l i v) (suc i) k (omega arith) ∙ drop-set-lt k l i v (omega arith)

-- a part that was lent and came back as those stores is the stores
pub put-sets : (vs l : Words) (i k : ℕ) → i + length vs ≤ length l → k ≡ length vs → put_mid i k l vs ≡ sets l i vs
put-sets vs l i k h e =
    ap (λ d. take i l ++ (vs ++ d)) (ap (λ n. drop n (drop i l)) e ∙ drop-drop (length vs) i l) ∙ sym (sets-eq vs l i h ∙ append_assoc (take i l) vs _)

-- a word there is as it was
pub past-sets : (vs l : Words) (i k : ℕ) → i + length vs ≤ k → get_or (sets l i vs) k 0 ≡ get_or l k 0
past-sets [] l i k h = refl
past-sets (v ∷ vs) l i k h = past-sets vs (set l i v) (suc i) k (omega arith) ∙ get_or-set_other l i k v 0 (λ q. omega arith)

-- more stores after those
pub sets-append : (vs us l : Words) (i : ℕ) → sets l i (vs ++ us) ≡ sets (sets l i vs) (i + length vs) us
sets-append [] us l i = ap (λ k. sets l k us) (sym (add-zero i))
sets-append (w ∷ vs) us l i =
    let e : suc i + length vs ≡ i + suc (length vs) = omega arith in
    sets-append vs us (set l i w) (suc i) ∙ ap (λ k. sets (sets (set l i w) (suc i) vs) k us) e

drop_more : (d n : ℕ) (l m : Words) → drop d l ≡ drop d m → drop (d + n) l ≡ drop (d + n) m
drop_more d n l m e = sym (drop-drop n d l) ∙ ap (drop n) e ∙ drop-drop n d m

module _ (p : ℕ → Bool) (f : ℕ → Words) (old : Words) where
  -- the words before `from` are read, which is those of the first h; what these leave is written, `to` words; the rest is as it was
  pub record Partly (new : Words) (from to h : ℕ) : Type 0 where
    pub low : to ≤ from
    pub high : from ≤ length old
    pub same : length new ≡ length old
    pub done : take to new ≡ gather p f h
    pub rest : drop from new ≡ drop from old

  pub begun : Partly old 0 0 0
  unfolding gather
  begun = record { low = omega arith; high = omega arith; same = refl; done = refl; rest = refl }

  module _ (new : Words) (from to h n : ℕ) (fits : from + n ≤ length old) (part : Partly new from to h) where
    pub dropped : p h ≡ false → Partly new (from + n) to (h + 1)
    dropped e =
        record {
          low = omega (arith, part.low);
          high = fits;
          same = part.same;
          done = part.done ∙ sym (gather-skip p f h e) ∙ ap (gather p f) (sym (add-one h));
          rest = drop_more from n new old part.rest;
        }

    pub moved : (new' : Words) (to' : ℕ) → p h ≡ true → length (f h) ≡ n → new' ≡ sets new to (f h) → to' ≡ to + n → Partly new' (from + n) to' (h + 1)
    moved new' to' e len q t =
        let room : to + length (f h) ≤ length new = omega (arith, part.low, part.same) in
        let all : to' ≡ to + length (f h) = t ∙ ap (λ k. to + k) (sym len) in
        record {
          low = omega (arith, part.low);
          high = fits;
          same = ap length q ∙ length-sets new to (f h) ∙ part.same;
          done =
              ap (λ k. take k new') all ∙ ap (take (to + length (f h))) q ∙ take-sets new to (f h) room ∙ ap (λ l. l ++ f h) part.done
              ∙ sym (gather-step p f h e) ∙ ap (gather p f) (sym (add-one h));
          rest = ap (drop (from + n)) q ∙ drop-sets (f h) new to (from + n) (omega (arith, part.low)) ∙ drop_more from n new old part.rest;
        }

  -- and N to the old end
  pub ended : (new last : Words) (from to h : ℕ) → Partly new from to h → last ≡ take to new ++ replicate (length new - to) N → last ≡ padded old (gather p f h)
  unfolding padded
  ended new last from to h part e =
      let len : to ≡ length (gather p f h) = sym (length-take-le to new (omega (arith, part.low, part.high, part.same))) ∙ ap length part.done in
      cc (part.done, part.same)

-- ---- freeing

-- a list whose tail, lent as a part, came back filled
pub tail-filled : (l : Words) (to : ℕ) (part : Words) → to ≤ length l → part ≡ replicate (length (mid_of to (length l - to) l)) N
    → put_mid to (length l - to) l part ≡ take to l ++ replicate (length l - to) N
tail-filled l to part h e =
    let d : length (drop to l) ≡ length l - to = length-drop to l in
    let m : length (mid_of to (length l - to) l) ≡ length l - to = length-take-le (length l - to) (drop to l) (omega arith) in
    let q : length (drop to l) ≤ length l - to = omega arith in
    let none : post_of to (length l - to) l ≡ [] = drop_of_length-le (drop to l) q in
    ap (λ x. take to l ++ (part ++ x)) none ∙ ap (λ x. take to l ++ x) (append-nil part ∙ e ∙ ap (λ n. replicate n N) m)

-- the words before `at` stand as they are to where those from `from` on are freed
pub record Freeing (old new : Words) (from at : ℕ) : Type 0 where
  pub low : from ≤ at
  pub high : at ≤ length old
  pub same : length new ≡ length old
  pub done : take at new ≡ take from old ++ replicate (at - from) N

pub freeing : (old : Words) (from at : ℕ) → from ≤ length old → at ≡ from → Freeing old old from at
freeing old from at h e =
    let none : at - from ≡ 0 = omega arith in
    record {
      low = omega arith;
      high = omega arith;
      same = refl;
      done = ap (λ k. take k old) e ∙ sym (ap (λ n. take from old ++ replicate n N) none ∙ append-nil (take from old));
    }

more-none : (l : Words) (a b k : ℕ) → k ≡ a + b → (l ++ replicate a N) ++ replicate b N ≡ l ++ replicate k N
more-none l a b k e = append_assoc l (replicate a N) (replicate b N) ∙ ap (λ r. l ++ r) (replicate-append-replicate a b N ∙ ap (λ n. replicate n N) (sym e))

pub one-freed : (old new empty : Words) (from at next : ℕ) {new' : Words} → Freeing old new from at → Empty empty → next ≡ at + length empty → next ≤ length new
    → new' ≡ sets new at empty → Freeing old new' from next
one-freed old new empty from at next {new'} f e n l q =
    let room : at + length empty ≤ length new = omega arith in
    record {
      low = omega (arith, f.low);
      high = omega (arith, f.same);
      same = ap length q ∙ length-sets new at empty ∙ f.same;
      done =
          ap (λ k. take k new') n ∙ ap (take (at + length empty)) q ∙ take-sets new at empty room ∙ ap₂ ◌++◌ f.done e.all_none
          ∙ more-none (take from old) (at - from) (length empty) (next - from) (omega (arith, f.low));
    }

pub all-freed : (old new last : Words) (from at : ℕ) → Freeing old new from at → last ≡ freed_from at new → last ≡ freed_from from old
all-freed old new last from at f e =
    e ∙ ap (λ l. l ++ replicate (length new - at) N) f.done
    ∙ more-none (take from old) (at - from) (length new - at) (length old - from) (omega (arith, f.low, f.high, f.same))
