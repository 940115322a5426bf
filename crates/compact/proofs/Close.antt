-- What the stages of `compact` leave is the outcome.
-- Assumes nothing.
use mathlib.Core.Path.{◌≡◌, refl, sym, ap, subst, ◌∙◌}
use mathlib.Core.Bool.{Bool}
use mathlib.Core.List.{List}
use Prim.Native.Nat.{ℕ, ◌/◌, ◌≤◌, ◌<◌}
use native.Mathlib.Nat.{div-one}
use native.Mathlib.Omega.{arith}
use lib.ListN.{length, get_or}
use lib.Dec.{T, eqb, leb, eqb→eq, leb→le, lit<}
use Rattle.std.specs.Prelude.{⊤, Result, Ok, Err, IfOk}
use Rattle.definitions.specs.Areas.{N, Areas, Arena, types, constants, overrides, globals, expressions, Elem, size, width, words, pool, records_of, length_of, all_words, widths}
use Rattle.definitions.specs.References.{span}
use Rattle.definitions.specs.Sweep.{kept}
use Rattle.definitions.specs.Refusals.{runs_before, check, check3, accepted, passes, position, reported, turn, turns, under}
use Rattle.definitions.specs.Numbering.{is_kept}
use Rattle.definitions.specs.Records.{start_after, runs_up_to, areas_after}
use Rattle.definitions.specs.Outcome.{Maps, map_of, lengths, kept_counts, maps_after, outcome_of, outcome}
use Rattle.definitions.proofs.Accepted.{Sound, facts, number-passes, areas-all, area-few}
use Rattle.definitions.proofs.Kept.{kept-inside}
use Rattle.definitions.proofs.ListLaws.{total-any}
use Rattle.definitions.proofs.Counts.{run-words}
use Rattle.arena.specs.declared.sizes.Sizes.{Sizes}
use Rattle.faults.specs.Checking.{report_of, verdict_of}
use Rattle.faults.specs.declared.Fault.{Fault}
use Rattle.faults.proofs.Once.{verdict-told}
use denote.Enum.Bare.{sameb}
use Rattle.compact.specs.contracts.KeepUnused.{the_type}
use Rattle.compact.specs.declared.KeepUnused.{KeepUnused}
use Rattle.compact.specs.declared.KeepUnused.TheVariants.{No, Yes}
use Rattle.compact.specs.Answer.{keep_of, counts_of, Compacts}
use Rattle.compact.specs.Stages.{Accepts, MarksKept, verdict_in, Judges, maps_by, counts_by, Numbers, Rewrites}
use Rattle.compact.specs.declared.Counts.{Counts}
use Rattle.compact.specs.declared.number.RecordCounts.{RecordCounts}
use Rattle.compact.specs.declared.rewrite.PoolCounts.{PoolCounts}
use Rattle.compact.proofs.Numbers.{kept_records, maps-due, counts-due}
use Rattle.compact.proofs.Rewrites.{kept_pools, rewritten}

-- ---- judge

-- a module with that verdict passes
passing : (s : Areas) (p : Maps) → check s (lengths p) ≡ accepted → T (passes (check s (lengths p)))
unfolding passes
passing s p e = rw e tt

module _ (s : Areas) (p : Maps) {v : Result ⊤ Fault} (e : report_of v ≡ reported (check s (lengths p))) where
  -- an accepted module passes
  pub accepts : {x : ⊤} → v ≡ Ok x → Accepts s
  accepts q = (lengths p, passing s p (sym (verdict-told v (check s (lengths p)) e) ∙ ap verdict_of q))

  -- and is told with its sizes and marks
  pub judges-accepted : {x : ⊤} → v ≡ Ok x → {keep : Bool} {z : Sizes} {ws : List ℕ} → MarksKept s keep z ws → Judges keep (Ok z) s p ws
  judges-accepted q k = record { verdict-is = sym (ap verdict_of q) ∙ verdict-told v (check s (lengths p)) e; marks-are = k }

  -- a refused one with its fault
  pub judges-refused : {f : Fault} → v ≡ Err f → {keep : Bool} {ws : List ℕ} → Judges keep (Err f) s p ws
  judges-refused q = record { verdict-is = sym (ap verdict_of q) ∙ verdict-told v (check s (lengths p)) e; marks-are = tt }

-- ---- an accepted module

-- its maps have room
map-room : (s : Areas) (p : Maps) → T (passes (check s (lengths p))) → (a : Arena) → size s a ≤ length (map_of p a)
unfolding under turn position turns check3 lengths map_of size width words records_of length_of all_words widths
map-room s p t a = go a (areas-all 3 _ 5 (number-passes s (lengths p) t 3 tt))
  where
    go : (a : Arena) → ((i : ℕ) → i < 5 → T (leb (records_of s i) (get_or (lengths p) i 0))) → size s a ≤ length (map_of p a)
    go types f = leb→le _ _ (f 0 (lit< tt))
    go constants f = leb→le _ _ (f 1 (lit< tt))
    go overrides f = leb→le _ _ (f 2 (lit< tt))
    go globals f = leb→le _ _ (f 3 (lit< tt))
    go expressions f = leb→le _ _ (f 4 (lit< tt))

-- the runs of what is kept lie in a pool of few words
runs-few : (s : Areas) → Sound s → (m : List Elem) (a : Arena) → T (eqb (runs_before s a (size s a)) (length (pool s a))) → length (pool s a) / 1 < N
    → length (runs_up_to s m a (size s a)) < N
unfolding start_after runs_before
runs-few s c m a u l =
    let f : length (pool s a) < N = rw div-one at l in
    omega (arith, run-words s m c a, total-any (is_kept m a) (span s a) (size s a), eqb→eq (runs_before s a (size s a)) (length (pool s a)) u)

pools-few : (s : Areas) → Sound s → (m : List Elem) → ((kept_pools s m).members < N) × ((kept_pools s m).components < N)
unfolding records_of length_of all_words widths pool
pools-few s c m = (
  runs-few s c m types c.members-used (area-few s c.few 5 (lit< tt)),
  runs-few s c m expressions c.components-used (area-few s c.few 6 (lit< tt)),
)

-- the seven counts of the two stages
abbrev pub counts_with : RecordCounts → PoolCounts → Counts
counts_with n k =
    record {
      types = n.types;
      constants = n.constants;
      overrides = n.overrides;
      globals = n.globals;
      expressions = n.expressions;
      members = k.members;
      components = k.components;
    }

-- the flag that is asked for
pub is-yes : (k : KeepUnused) → sameb the_type k Yes ≡ keep_of k
is-yes No = refl
is-yes Yes = refl

-- what the stages leave of an accepted module
record Done (s : Areas) (p : Maps) (m : List Elem) (n : RecordCounts) (k : PoolCounts) (s' : Areas) (p' : Maps) : Type 0 where
  counts-are : n ≡ kept_records s m
  pools-are : k ≡ kept_pools s m
  areas-are : s' ≡ areas_after s m
  maps-are : p' ≡ maps_after s m p

module _ (s : Areas) (p : Maps) {keep : Bool} {v : Result Sizes Fault} {z : Sizes} {ws : List ℕ} {n : RecordCounts} {k : PoolCounts} {s' : Areas} {p' : Maps}
    (j : Judges keep v s p ws) (q : v ≡ Ok z) (f : Numbers ws z n p p') (r : Rewrites z n k s p' s')
  where
    accepted-so : check s (lengths p) ≡ accepted
    accepted-so = sym j.verdict-is ∙ ap verdict_in q

    marked : MarksKept s keep z ws
    marked = subst (λ v. IfOk v (λ z. MarksKept s keep z ws)) q j.marks-are

    passed : T (passes (check s (lengths p)))
    passed = passing s p accepted-so

    sound : Sound s
    sound = (facts s (lengths p) passed).sound

    done : Done s p (kept s keep) n k s' p'
    done =
        let room = map-room s p passed in
        let ne = f.counts-are ∙ ap (λ z. counts_by ws z p) marked.0 ∙ counts-due s ws (kept s keep) marked.1 p room in
        let pe = f.maps-are ∙ ap (λ z. maps_by ws z p) marked.0 ∙ maps-due s ws (kept s keep) marked.1 p room in
        let w = rewritten s (kept s keep) p sound (kept-inside s sound keep) (rw (marked.0, ne, pe) at r) in
        record { counts-are = ne; pools-are = w.1; areas-are = w.0; maps-are = pe }

    -- the pools' counts are words
    pub words-few : (k.members < N) × (k.components < N)
    words-few = rw done.pools-are (pools-few s sound (kept s keep))

    -- the answer, every area and every map, for the flag that was asked for
    pub accepted-closes : {keep' : Bool} → keep ≡ keep' → Compacts keep' (Ok (counts_with n k)) s p s' p'
    unfolding passes outcome outcome_of kept_counts
    accepted-closes e =
        record {
          verdict = sym (ap passes accepted-so);
          outcome-is =
              (λ i.
              record {
                number = 0;
                area = 0;
                record_number = 0;
                counts = counts_of (counts_with (done.counts-are i) (done.pools-are i));
                areas = done.areas-are i;
                maps = done.maps-are i;
              })
              ∙ sym (ap (outcome_of s p (kept s keep)) accepted-so)
              ∙ ap (outcome s p) e;
        }

-- ---- a refusal

pub refused-closes : (s : Areas) (p : Maps) (keep : Bool) {keep' : Bool} {v : Result Sizes Fault} {ws : List ℕ} {f : Fault}
    → Judges keep' v s p ws → v ≡ Err f → Compacts keep (Err f) s p s p
unfolding outcome outcome_of passes
refused-closes s p keep j q =
    let e = sym (ap verdict_in q) ∙ j.verdict-is in
    record { verdict = ap passes e; outcome-is = ap (outcome_of s p (kept s keep)) e }
