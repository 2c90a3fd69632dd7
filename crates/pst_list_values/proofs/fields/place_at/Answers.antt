use Rattle.std.proofs.Common.{◌≡◌, ◌<◌, ℕ, zero, suc, refl, arith}
use Rattle.std.proofs.lemmas.Option.{IfSome_then}
use Rattle.pst_list_values.proofs.fields.place_at.Goals as goal

not_zero : (n : ℕ) → (n ≡ 0 → ⊥) → 0 < n
not_zero zero other = absurd (other refl)
not_zero (suc n) other = omega arith

pub returns : goal.returns
returns c = IfSome_then c.field.result c.field.ensures (λ place is. (is, not_zero c.args.from c.if-from-eq0.false))
