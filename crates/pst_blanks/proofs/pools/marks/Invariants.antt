use Rattle.std.proofs.Common.{◌≡◌, ℕ, ◌<◌, ◌||◌, length, get_or, false, drop}
use Rattle.std.specs.List.{list_any}
use Rattle.pst_legal.specs.Blanks.{refers_to}
use Rattle.pst_blanks.proofs.pools.marks.Given as goal

abbrev pub invariant-loop-act : goal.invariant-loop-act
invariant-loop-act l =
    (length l.marks.items ≡ l.count)
    × ((p : ℕ) → p < l.count → (get_or l.marks.items p false || list_any (refers_to p) (drop l.act-index l.acts)) ≡ list_any (refers_to p) l.acts)
