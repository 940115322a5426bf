-- Bit i of the words, as a digit. Assumes nothing.
use Rattle.std.proofs.Common.{rules, ◌≡◌, ◌/◌, get_or}
use Rattle.arena.specs.HandleSet.{member}
use Rattle.arena.proofs.Digits.{digit-number}
use Rattle.arena.proofs.handle_set.bit_at.Goals as goal

pub returns : goal.returns
unfolding member
returns c =
    let e : c.unwrap_or-word.result ≡ get_or c.args.marks.now (c.args.i / 64) 0 = search rules in
    rw e (digit-number _ _)
