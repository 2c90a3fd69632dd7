use Rattle.std.proofs.Common.{◌≡◌, ◌<◌, ℕ, zero, suc, refl, sym, ◌∙◌, arith}
use Rattle.pst_list_values.proofs.skipping.domain_at.Goals as goal

not_zero : (n : ℕ) → (n ≡ 0 → ⊥) → 0 < n
not_zero zero other = absurd (other refl)
not_zero (suc n) other = omega arith

pub returns : goal.returns
returns c = record {
  domain = c.in-Some.ensures;
  size = sym c.size-size.ensures ∙ c.if-size-count.false;
  sound = c.is_domain.ensures;
  some = not_zero c.args.from c.if-from-eq0.false;
}
