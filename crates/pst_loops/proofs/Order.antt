-- Where a declaration stands for the first time.
use Rattle.std.proofs.Common.{◌≡◌, ℕ, zero, suc, ◌+◌, ◌<◌, ◌≤◌, inl, inr, ap, ◌∙◌, sym, subst, List, [], ◌∷◌, Some, length, get_or, arith}
use Rattle.std.specs.Prelude.{slice_get}
use Rattle.pst_base.specs.Laws.{NoneIsBeforeItself, BeforeGoesOn}
use Rattle.pst_base.specs.Places.{IsBefore}
use Rattle.pst_ast.specs.declared.scope_declaration.Declaration.{Declaration}
use Rattle.pst_loops.specs.Numbers.{IsNumber, AreInOrderTo}
use Rattle.pst_loops.proofs.Joined.{there_within, some_is}
use Rattle.pst_loops.proofs.OneMore.{below}

-- in order it stands in one place alone
pub only_number : NoneIsBeforeItself → (ds : List Declaration) (d : Declaration) (i : ℕ) → AreInOrderTo (length ds) ds → slice_get ds i ≡ Some d → IsNumber ds d i
only_number never ds d i order there = record {
  there = there;
  first = λ k l e. never d.name.place (order k i d d l (there_within ds i d there) e there);
}

pub read_there : {X : Type 0} (xs : List X) (k : ℕ) (x d : X) → k < length xs → get_or xs k d ≡ x → slice_get xs k ≡ Some x
read_there [] k x d l e = absurd (omega arith)
read_there (y ∷ xs) zero x d l e = ap Some e
read_there (y ∷ xs) (suc k) x d l e = read_there xs k x d (omega arith) e

-- one more that stands behind the last
pub in_order_on : BeforeGoesOn → (ds : List Declaration) (m n : ℕ) (p q : Declaration) → m + 1 ≡ n → AreInOrderTo n ds → slice_get ds m ≡ Some p → slice_get ds n ≡ Some q → IsBefore p.name.place q.name.place → AreInOrderTo (n + 1) ds
in_order_on on ds m n p q next order first second before i k d e l s there end = elim (below k n s) [
  | inl t ↦ order i k d e l t there end
  | inr z ↦
      let last : q ≡ e = some_is q e (sym second ∙ subst (λ (x : ℕ). slice_get ds x ≡ Some e) z end) in
      let to_last : IsBefore p.name.place e.name.place = subst (λ (x : Declaration). IsBefore p.name.place x.name.place) last before in
      elim (below i m (omega arith)) [
        | inl u ↦ on d.name.place p.name.place e.name.place (order i m d p u (omega arith) there first) to_last
        | inr u ↦ subst (λ (x : Declaration). IsBefore x.name.place e.name.place) (some_is p d (sym first ∙ subst (λ (x : ℕ). slice_get ds x ≡ Some d) u there)) to_last
      ]
]

pub one_in_order : (ds : List Declaration) → AreInOrderTo 1 ds
one_in_order ds i k d e l s there end = absurd (omega (arith, l, s))

pub all_in_order : (n : ℕ) (ds : List Declaration) → length ds ≤ n → AreInOrderTo n ds → AreInOrderTo (length ds) ds
all_in_order n ds l order i k d e a b there end = order i k d e a (omega arith) there end
