-- What numbers 1 and 2 leave of the arenas, the mentions and the pools. Assumes nothing.
use Rattle.std.proofs.Common.{◌<◌, div-one, arith, length}
use Rattle.definitions.specs.Areas.{N, Areas, Arena, pool, all_words, length_of, records_of, size, widths, mention_count}
use Rattle.definitions.proofs.Accepted.{as-area}
use Rattle.faults.specs.Measured.{Measured}

pub size_fits : (s : Areas) (a : Arena) → Measured s → size s a < N
size_fits s a m = as-area s (λ i n. n < N) m.few a

pub mentions_fit : (s : Areas) → Measured s → mention_count s < N
unfolding mention_count records_of length_of all_words widths
mentions_fit s m = m.few 7 (omega arith)

pub room_fits : (s : Areas) (a : Arena) → Measured s → length (pool s a) < N
unfolding pool records_of length_of all_words widths
room_fits s a m =
    let p = m.few 5 (omega arith) in
    let q = m.few 6 (omega arith) in
    grind (arith, div-one, p, q)

pub ruleset sizes_fit = (size_fits, mentions_fit)
