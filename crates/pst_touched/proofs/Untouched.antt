-- Nodes that a choice doesn't touch.
use Rattle.std.proofs.Common.{◌≡◌, ◌⊎◌, ℕ, zero, suc, ◌<◌, List, [], ◌∷◌, nat_eq, Bool, true, false, Option, Some, None, refl, sym, ap, ◌∙◌, inl, inr, ⊎_elim}
use Rattle.std.specs.Prelude.{slice_get}
use Rattle.std.proofs.lemmas.Bool.{cases_lt, eqb-true, false≢true, eq-eqb}
use Rattle.std.proofs.lemmas.Option.{none-some, same_Some, slice_get_within}
use Rattle.pst_scen.specs.declared.tree.Node.{Node}
use Rattle.pst_scen.specs.declared.act.Act.{Act}
use Rattle.pst_scen.specs.Tree.{StandsUnder, AtTop, Below, IsChild}
use Rattle.pst_legal.specs.Statements.{children_of}
use Rattle.pst_built.specs.Onward.{Each, MoreNode}
use Rattle.pst_touched.specs.Touched.{IsTouched, Has}
use Rattle.pst_touched.proofs.Kids.{same_kids, kid_is}

-- ---- a number is in a list, or it isn't

pub has_or : (list : List ℕ) (n : ℕ) → Has list n ⊎ (Has list n → ⊥)
has_or [] n = inr (λ has. none-some n has.1)
has_or (x ∷ xs) n = by (nat_eq x n) refl (has_or xs n)
  where
    later : {A : Type 0} → (Has xs n → A) → (x ≡ n → A) → Has (x ∷ xs) n → A
    later more one (zero, is) = one (same_Some x n is)
    later more one (suc i, is) = more (i, is)

    by : (b : Bool) → nat_eq x n ≡ b → Has xs n ⊎ (Has xs n → ⊥) → Has (x ∷ xs) n ⊎ (Has (x ∷ xs) n → ⊥)
    by true e rest = inl (0, ap Some (eqb-true x n e))
    by false e (inl has) = inl (suc has.0, has.1)
    by false e (inr none) = inr (later none (λ same. false≢true (sym e ∙ eq-eqb x n same)))

-- ---- nodes below others

pub under_all : (nodes : List Node) {a b c : ℕ} → StandsUnder nodes a b → StandsUnder nodes b c → StandsUnder nodes a c
under_all nodes one AtTop = one
under_all nodes one (Below n parent other child) = Below n parent (under_all nodes one other) child

module _ (old new : List Node) (from : ℕ) (fresh : List Act)
    (nodes : (n : ℕ) (node : Node) → n < from → slice_get new n ≡ Some node → slice_get old n ≡ Some node)
    (more : Each MoreNode old new) where
  abbrev pub IsUntouched : ℕ → Type 0
  IsUntouched n = IsTouched new from fresh n → ⊥

  pub untouched_old : (n : ℕ) → IsUntouched n → n < from
  untouched_old n not = ⊎_elim (λ l. l) (λ l. absurd (not (record { below = n; under = AtTop; new = inl l }))) (cases_lt n from)

  pub untouched_node : (n : ℕ) → IsUntouched n → slice_get new n ≡ slice_get old n
  untouched_node n not = by (slice_get new n) refl (slice_get old n) refl
    where
      by : (o : Option Node) → slice_get new n ≡ o → (p : Option Node) → slice_get old n ≡ p → o ≡ p
      by (Some x) e p f = sym (nodes n x (untouched_old n not) e) ∙ f
      by None e None f = refl
      by None e (Some y) f = let z = more n y f in absurd (none-some z.0 (sym e ∙ z.1))

  untouched_child : (n k : ℕ) → IsUntouched n → IsChild new k n → IsUntouched k
  untouched_child n k not child = λ touched. not (record { below = touched.below; under = under_all new (Below k n AtTop child) touched.under; new = touched.new })

  pub untouched_down : (n index k : ℕ) → IsUntouched n → slice_get (children_of new n) index ≡ Some k → IsUntouched k
  untouched_down n index k not at = untouched_child n k not (kid_is new n index k at)

  pub untouched_kids : (n : ℕ) → IsUntouched n → children_of new n ≡ children_of old n
  untouched_kids n not =
      same_kids 0 old new n (λ j x is. let y = more j x is in (y.0, y.1, y.2.parent))
      (λ j y is in_parent.
      let below = untouched_child n j not (record { node = y; is = is; in_parent = in_parent }) in
      slice_get_within old j y (nodes j y (untouched_old j below) is))

  -- nor is it the node of one of these actions
  pub untouched_act : (n i : ℕ) (act : Act) → IsUntouched n → slice_get fresh i ≡ Some act → act.node ≡ Some n → ⊥
  untouched_act n i act not at of = not (record { below = n; under = AtTop; new = inr (i, act, at, of) })
