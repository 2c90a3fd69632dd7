-- Where two keys part.
use Rattle.std.proofs.Common.{◌≡◌, ℕ, ◌/◌, ◌%◌, Bool, true, false, nat_eq, refl, sym, ap, ◌∙◌, cond, Option}
use Rattle.std.specs.Prelude.{Some, None}
use Rattle.pst_members.specs.declared.versions.Versions.{Versions}
use Rattle.pst_members.specs.Found.{found, IsBranch, IsParted}
use Rattle.pst_members.proofs.Halves.{with_bit, without_bit}
use Rattle.pst_members.proofs.Kept.{finds_nothing}

abbrev one_of : Bool → Bool → ℕ → ℕ → Option ℕ
one_of a b value kept = cond a (Some value) (cond b (Some kept) None)

module _ (mid new : Versions) (key value other kept below added : ℕ) (same : key % 2 ≡ other % 2) (parted : IsParted (key / 2) value (other / 2) kept mid below) (branch : IsBranch mid key below 0 new added) where
  on_side : (q : ℕ) (b : Bool) → nat_eq (q % 2) (key % 2) ≡ b → found mid (cond b below 0) (q / 2) ≡ one_of (nat_eq q key) (nat_eq q other) value kept
  on_side q true e =
      parted.finds (q / 2)
      ∙ ap (λ (b : Bool). one_of b (nat_eq (q / 2) (other / 2)) value kept) (with_bit q key e)
      ∙ ap (λ (b : Bool). one_of (nat_eq q key) b value kept) (with_bit q other (ap (λ (n : ℕ). nat_eq (q % 2) n) (sym same) ∙ e))
  on_side q false e =
      finds_nothing mid (q / 2)
      ∙ sym (ap (λ (b : Bool). one_of b (nat_eq q other) value kept) (without_bit q key e)
      ∙ ap (λ (b : Bool). one_of false b value kept) (without_bit q other (ap (λ (n : ℕ). nat_eq (q % 2) n) (sym same) ∙ e)))

  -- two keys of one bit part further on
  pub parted_on : IsParted key value other kept new added
  parted_on = record {
    there = branch.there;
    finds = λ q. branch.finds q ∙ on_side q (nat_eq (q % 2) (key % 2)) refl;
  }
