use Rattle.std.proofs.Common.{◌≡◌, ℕ, ◌<◌, ◌||◌, length, get_or, false, nat_eq, drop}
use Rattle.std.specs.List.{list_any}
use Rattle.pst_blanks.proofs.pools.mark_in.Given as goal

abbrev pub invariant-loop-filled : goal.invariant-loop-filled
invariant-loop-filled l =
    (length l.marks.items ≡ length l.initial.marks.items)
    × ((p : ℕ) → p < length l.initial.marks.items → (get_or l.marks.items p false || list_any (λ filled. nat_eq filled.pool p) (drop l.filled-index l.references)) ≡ (get_or l.initial.marks.items p false || list_any (λ filled. nat_eq filled.pool p) l.references))
