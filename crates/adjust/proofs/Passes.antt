-- The passes over an arena, a pool and the mentions, in place: where each stands after some turns, what a turn adds, and what is left at the end.
-- Assumes nothing.
use mathlib.Core.Path.{◌≡◌, refl, sym, ap, ap₂, subst, ◌∙◌}
use mathlib.Core.Bool.{Bool, true, false}
use mathlib.Core.List.{List, [], ◌∷◌, ◌++◌, map, append_assoc}
use Prim.Native.Nat.{ℕ, zero, suc, ◌+◌, ◌*◌, ◌/◌, ◌-◌, ◌≤◌, ◌<◌, min}
use native.Mathlib.Nat.{add-zero, zero-mul, suc-mul, mul-le-mul_right, div-mul-le_self, zero-min, suc-min-suc}
use native.Mathlib.Numerals.{add-one}
use native.Mathlib.Omega.{arith}
use lib.Dec.{T}
use lib.ListN.{length, get_or, take, drop, set, replicate, length-append, length-map, length-drop}
use lib.Seq.{sets, get_or-drop, get_or-append-add, drop-cons, set_at, take-nil, drop-nil, length-take-le}
use Rattle.definitions.specs.Lists.{total, gather, always}
use Rattle.definitions.specs.Areas.{Words, N, Arena, numbered, width, word_of, mention_width}
use Rattle.definitions.specs.Slots.{Slot, slots}
use Rattle.definitions.specs.Records.{padded}
use Rattle.definitions.specs.Outcome.{Maps, map_of}
use Rattle.definitions.specs.MapEntries.{lookup}
use Rattle.definitions.proofs.ListLaws.{total-step, total-skip}
use Rattle.definitions.proofs.Reading.{length-slots}
use Rattle.slots.specs.Codes.{span_in, words_from}
use Rattle.adjust.specs.Rewrite.{runs_by, kept_by, record_from, span_of, start_by, record_by, arena_by, run_by, pool_by, mention_by, mentions_by}
use Rattle.adjust.proofs.Stores.{Partly, begun, dropped, moved, ended}

-- words that agree from a place on agree as a record there
same-words : (new old : Words) (from : ℕ) → drop from new ≡ drop from old → words_from new from ≡ words_from old from
same-words new old from e = λ i k. (sym (get_or-drop from new k 0) ∙ ap (λ l. get_or l k 0) e ∙ get_or-drop from old k 0) i

-- a record ends where the next begins, and within the words
pub next-at : (h w : ℕ) → (h + 1) * w ≡ h * w + w
next-at h w = ap (λ k. k * w) (add-one h) ∙ suc-mul h w

pub within : (h w len : ℕ) → h < len / w → h * w + w ≤ len
within h w len l =
    let m : suc h * w ≤ len / w * w = mul-le-mul_right w l in
    let q : len / w * w ≤ len = div-mul-le_self len w in
    omega (arith, suc-mul h w)

pub length-record : (p : Maps) (b : ℕ) (f : ℕ → ℕ) (k : ℕ) (ls : List Slot) → length (record_from p b f k ls) ≡ length ls
unfolding record_from
length-record p b f k [] = refl
length-record p b f k (l ∷ ls) = ap suc (length-record p b f (suc k) ls)

-- ---- an arena, whose records have w words

module _ (p : Maps) (a : Arena) (old : Words) (w : ℕ) where
  -- h records are read; `start` is the new start of the next run
  pub record Rewriting (new : Words) (start to h : ℕ) : Type 0 where
    pub start_is : start ≡ start_by (map_of p a) a old h
    pub part : Partly (kept_by (map_of p a)) (record_by p a old) old new (h * w) to h

  pub rewriting : Rewriting old 0 0 0
  unfolding start_by total
  rewriting = record { start_is = refl; part = rw (zero-mul w) (begun _ _ _) }

  module _
      (wide : w ≡ width a) (own : Words) (mine : own ≡ map_of p a) (new : Words) (start to h : ℕ) (l : h < length old / w)
      (r : Rewriting new start to h)
    where
      pub record-dropped : (new' : Words) (start' to' : ℕ) → kept_by own h ≡ false → new' ≡ new → start' ≡ start → to' ≡ to → Rewriting new' start' to' (h + 1)
      unfolding start_by
      record-dropped new' start' to' d q t u =
          let e : kept_by (map_of p a) h ≡ false = ap (λ m. kept_by m h) (sym mine) ∙ d in
          record {
            start_is = t ∙ r.start_is ∙ ap (λ n. min n N) (sym (total-skip (kept_by (map_of p a)) (span_of a old) h e) ∙ ap (total (kept_by (map_of p a)) (span_of a old)) (sym (add-one h)));
            part = rw (q, u, next-at h w) (dropped _ _ _ _ _ _ _ w (within h w (length old) l) r.part e);
          }

      -- the record that is read is the old one
      words_are : words_from new (h * w) ≡ word_of old a h
      words_are = same-words new old (h * w) r.part.rest ∙ ap (λ n. words_from old (h * n)) wide

      record_is : record_from p start (words_from new (h * w)) 0 (slots a (words_from new (h * w))) ≡ record_by p a old h
      unfolding record_by
      record_is = ap₂ (λ b f. record_from p b f 0 (slots a f)) r.start_is words_are

      length-is : length (record_by p a old h) ≡ w
      unfolding record_by
      length-is = length-record p _ (word_of old a h) 0 (slots a (word_of old a h)) ∙ length-slots a (word_of old a h) ∙ sym wide

      pub record-kept : (new' : Words) (start' to' span : ℕ) → kept_by own h ≡ true
          → span ≡ span_in a (words_from new (h * w))
          → new' ≡ sets new to (record_from p start (words_from new (h * w)) 0 (slots a (words_from new (h * w)))) → start' ≡ min (start + span) N → to' ≡ to + w
          → Rewriting new' start' to' (h + 1)
      unfolding start_by
      record-kept new' start' to' span d s q t u =
          let e : kept_by (map_of p a) h ≡ true = ap (λ m. kept_by m h) (sym mine) ∙ d in
          let n : span ≡ span_of a old h = s ∙ ap (span_in a) words_are in
          let m : total (kept_by (map_of p a)) (span_of a old) (h + 1) ≡ total (kept_by (map_of p a)) (span_of a old) h + span_of a old h =
          ap (total (kept_by (map_of p a)) (span_of a old)) (add-one h) ∙ total-step (kept_by (map_of p a)) (span_of a old) h (subst T (sym e) tt) in
          record {
            start_is = omega (arith, r.start_is);
            part = rw (next-at h w) (moved _ _ _ _ _ _ _ w (within h w (length old) l) r.part new' to' e length-is (q ∙ ap (sets new to) record_is) u);
          }

  pub rewritten : (new last : Words) (start to h : ℕ) → w ≡ width a → h ≡ length old / w → Rewriting new start to h
      → last ≡ take to new ++ replicate (length new - to) N → last ≡ arena_by p a old
  unfolding arena_by
  rewritten new last start to h wide n r e =
      ended _ _ _ new last _ to h r.part e ∙ ap (λ k. padded old (gather (kept_by (map_of p a)) (record_by p a old) k)) (n ∙ ap (λ v. length old / v) wide)

-- ---- a pool, whose arena's records have w words

-- a part that is held to the list's end is the part
take-held : (n : ℕ) (l : Words) → take (min n (length l)) l ≡ take n l
take-held zero l = rw zero-min
take-held (suc n) [] = take-nil (min (suc n) 0)
take-held (suc n) (x ∷ l) = rw suc-min-suc (ap (λ r. x ∷ r) (take-held n l))

drop-held : (n : ℕ) (l : Words) → drop (min n (length l)) l ≡ drop n l
drop-held zero l = rw zero-min
drop-held (suc n) [] = drop-nil (min (suc n) 0)
drop-held (suc n) (x ∷ l) = rw suc-min-suc (drop-held n l)

module _ (own : Words) (a : Arena) (ws old : Words) (w : ℕ) where
  -- h records are read, and the run of the next begins at `from`
  pub record Packing (new : Words) (from to h : ℕ) : Type 0 where
    pub from_is : from ≡ min (total always (span_of a ws) h) (length old)
    pub part : Partly (kept_by own) (run_by own a ws old) old new from to h

  pub packing : Packing old 0 0 0
  unfolding total
  packing = record { from_is = sym (zero-min (length old)); part = begun _ _ _ }

  module _
      (wide : w ≡ width a) (new : Words) (from to h count span : ℕ) (r : Packing new from to h)
      (counted : count ≡ span_in a (words_from ws (h * w))) (held : span ≡ min count (length new - from))
    where
      fits : from + span ≤ length old
      fits = omega (arith, r.part.high, r.part.same)

      span-is : span ≡ min (span_of a ws h) (length (drop from old))
      span-is =
          held ∙ ap (λ n. min count (n - from)) r.part.same ∙ ap₂ min (counted ∙ ap (λ n. span_in a (words_from ws (h * n))) wide) (sym (length-drop from old))

      from_next : from + span ≡ min (total always (span_of a ws) (h + 1)) (length old)
      from_next = omega (arith, span-is, length-drop from old, r.from_is, ap (total always (span_of a ws)) (add-one h) ∙ total-step always (span_of a ws) h tt)

      run_is : map (lookup own) (take span (drop from new)) ≡ run_by own a ws old h
      unfolding run_by
      run_is =
          ap (λ l. map (lookup own) (take span l)) r.part.rest ∙ ap (λ n. map (lookup own) (take n (drop from old))) span-is
          ∙ ap (map (lookup own)) (take-held (span_of a ws h) (drop from old))
          ∙ ap (λ l. map (lookup own) (take (span_of a ws h) l)) (ap (λ n. drop n old) r.from_is ∙ drop-held (total always (span_of a ws) h) old)

      length_run : length (run_by own a ws old h) ≡ span
      length_run =
          ap length (sym run_is) ∙ length-map (take span (drop from new)) (lookup own)
          ∙ length-take-le span (drop from new) (omega (arith, length-drop from new, r.part.same, fits))

      pub run-dropped : (new' : Words) (to' : ℕ) → kept_by own h ≡ false → new' ≡ new → to' ≡ to → Packing new' (from + span) to' (h + 1)
      run-dropped new' to' e q u =
          record { from_is = from_next; part = rw (q, u) (dropped _ _ _ _ _ _ _ span fits r.part e) }

      pub run-kept : (new' : Words) (to' : ℕ) → kept_by own h ≡ true → new' ≡ sets new to (map (lookup own) (take span (drop from new))) → to' ≡ to + span
          → Packing new' (from + span) to' (h + 1)
      run-kept new' to' e q u =
          record {
            from_is = from_next;
            part = moved _ _ _ _ _ _ _ span fits r.part new' to' e length_run (q ∙ ap (sets new to) run_is) u;
          }

      -- an empty run is moved by leaving all as it is
      pub run_none : (new' : Words) (to' : ℕ) → span ≡ 0 → new' ≡ new → to' ≡ to → Packing new' (from + span) to' (h + 1)
      run_none new' to' z q u = go (kept_by own h) refl
        where
          go : (b : Bool) → kept_by own h ≡ b → Packing new' (from + span) to' (h + 1)
          go true e = run-kept new' to' e (q ∙ ap (λ n. sets new to (map (lookup own) (take n (drop from new)))) (sym z)) (omega arith)
          go false e = run-dropped new' to' e q u

  pub packed : (new last : Words) (from to h : ℕ) → w ≡ width a → h ≡ length ws / w → Packing new from to h
      → last ≡ take to new ++ replicate (length new - to) N → last ≡ pool_by own a ws old
  unfolding pool_by
  packed new last from to h wide n r e =
      ended _ _ _ new last from to h r.part e ∙ ap (λ k. padded old (gather (kept_by own) (run_by own a ws old) k)) (n ∙ ap (λ v. length ws / v) wide)

  -- and so many words were kept
  pub packed-count : (new : Words) (from to h : ℕ) → w ≡ width a → h ≡ length ws / w → Packing new from to h → to ≡ length (runs_by own a ws old)
  packed-count new from to h wide n r =
      sym (length-take-le to new (omega (arith, r.part.low, r.part.high, r.part.same)))
      ∙ ap length r.part.done
      ∙ ap (λ k. length (gather (kept_by own) (run_by own a ws old) k)) (n ∙ ap (λ v. length ws / v) wide)

-- ---- the mentions

module _ (p : Maps) (old : Words) where
  -- the first h mentions are adjusted, and the rest is as it was
  pub record Renaming (new : Words) (h : ℕ) : Type 0 where
    pub new_is : new ≡ gather always (mention_by p old) h ++ drop (h * mention_width) old

  length-mentions : (h : ℕ) → length (gather always (mention_by p old) h) ≡ h * mention_width
  unfolding gather mention_by
  length-mentions zero = refl
  length-mentions (suc h) = length-append (gather always (mention_by p old) h) (mention_by p old h) ∙ ap (λ n. n + mention_width) (length-mentions h) ∙ sym (suc-mul h mention_width)

  pub renaming : Renaming old 0
  unfolding gather
  renaming = record { new_is = refl }

  module _ (new : Words) (h : ℕ) (l : h < length old / mention_width) (r : Renaming new h) where
    abbrev first : Words
    first = gather always (mention_by p old) h

    abbrev at : ℕ
    at = h * mention_width

    -- the mention that is read is the old one
    read : (k : ℕ) → get_or new (at + k) 0 ≡ get_or old (at + k) 0
    read k =
        ap (λ d. get_or d (at + k) 0) r.new_is ∙ ap (λ n. get_or (first ++ drop at old) (n + k) 0) (sym (length-mentions h))
        ∙ get_or-append-add first (drop at old) k 0 ∙ get_or-drop at old k 0

    two : drop at old ≡ get_or old (at + 0) 0 ∷ get_or old (at + 1) 0 ∷ drop ((h + 1) * mention_width) old
    two =
        let e : (h + 1) * mention_width ≡ suc (suc at) = omega arith in
        drop-cons old at 0 (omega arith) ∙ ap (λ d. get_or old at 0 ∷ d) (drop-cons old (suc at) 0 (omega arith)) ∙ rw (e, add-one at, add-zero at)

    stored : (v : ℕ) → set new (at + 1) v ≡ first ++ get_or old (at + 0) 0 ∷ v ∷ drop ((h + 1) * mention_width) old
    stored v =
        let f : Words = first ++ (get_or old (at + 0) 0 ∷ []) in
        let e : new ≡ f ++ get_or old (at + 1) 0 ∷ drop ((h + 1) * mention_width) old =
        r.new_is ∙ ap (λ d. first ++ d) two ∙ sym (append_assoc first (get_or old (at + 0) 0 ∷ []) _) in
        ap (λ d. set d (at + 1) v) e
        ∙ set_at f _ _ v (at + 1) (length-append first (get_or old (at + 0) 0 ∷ []) ∙ ap (λ n. n + 1) (length-mentions h))
        ∙ append_assoc first (get_or old (at + 0) 0 ∷ []) _

    pub mention-renamed : (a : Arena) (v : ℕ) → a ≡ numbered (get_or new (at + 0) 0) → v ≡ lookup (map_of p a) (get_or new (at + 1) 0) → Renaming (set new (at + 1) v) (h + 1)
    unfolding gather mention_by
    mention-renamed a v its e =
        let q : v ≡ lookup (map_of p (numbered (get_or old (at + 0) 0))) (get_or old (at + 1) 0) =
        e ∙ ap₂ (λ x h. lookup (map_of p x) h) (its ∙ ap numbered (read 0)) (read 1) in
        record {
          new_is =
              stored v ∙ ap (λ x. first ++ get_or old (at + 0) 0 ∷ x ∷ drop ((h + 1) * mention_width) old) q
              ∙ sym (append_assoc first (mention_by p old h) (drop ((h + 1) * mention_width) old))
              ∙ ap (λ k. gather always (mention_by p old) k ++ drop ((h + 1) * mention_width) old) (sym (add-one h));
        }

  pub renamed : (new : Words) (h : ℕ) → h ≡ length old / mention_width → Renaming new h → new ≡ mentions_by p old
  unfolding mentions_by
  renamed new h n r = r.new_is ∙ ap (λ k. gather always (mention_by p old) k ++ drop (k * mention_width) old) n
