use Rattle.std.proofs.Common.{◌≤ℤ◌, arith}
use Rattle.std.proofs.lemmas.Int.{ints}
use Rattle.pst_sound_parts.proofs.Apart.{apart_from_empty, apart_ends}
use Rattle.pst_sound_parts.proofs.ranges.is_apart.Goals as goal

pub returns : goal.returns
returns c =
    let s = c.args.one in
    let t = c.args.other in
    let one : t.low ≤ℤ s.high = grind (arith, ints) in
    let other : s.low ≤ℤ t.high = grind (arith, ints) in
    let some : s.low ≤ℤ s.high = grind (arith, ints) in
    (λ h. apart_from_empty s t (grind (arith, ints, h)), λ apart. let below = apart_ends s t one other some apart in grind (arith, ints, below))
