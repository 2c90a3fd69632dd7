-- The ends of nodes, from the last one to the first.
use Rattle.std.proofs.Common.{◌≡◌, ◌≢◌, ◌⊎◌, inl, inr, ◌<◌, ◌≤◌, ◌+◌, ℕ, List, length, get_or, set, refl, sym, subst, ◌∙◌, arith}
use Rattle.std.proofs.lemmas.List.{get_or-set_same, get_or-set_other, length-set}
use Rattle.std.proofs.lemmas.Option.{slice_get_within}
use Rattle.pst_scen.specs.declared.tree.Node.{Node}
use Rattle.pst_scen.specs.Tree.{IsChild, StandsUnder, AtTop, Below}
use Rattle.pst_scen.specs.Laws.{IsPreorder}
use Rattle.pst_scen.specs.Scenarios.{AreInPreorder}
use Rattle.pst_nodes.specs.Tables.{AreEnds, AreEndsFrom}
use Rattle.pst_nodes.proofs.Climbs.{one_parent, parent_less, under_up, under_le}
use Rattle.pst_square.proofs.Numbers.{same_or_not}
use Rattle.pst_nodes.proofs.Preorder.{contiguous}

child_within : (nodes : List Node) (n parent : ℕ) → IsChild nodes n parent → n < length nodes
child_within nodes n parent child = slice_get_within nodes n child.node child.is

under_within : (nodes : List Node) (top n : ℕ) → top < length nodes → StandsUnder nodes top n → n < length nodes
under_within nodes top _ within AtTop = within
under_within nodes top _ within (Below n parent under child) = child_within nodes n parent child

pub own_from : (nodes : List Node) (ends : List ℕ) → length ends ≡ length nodes → ((n : ℕ) → n < length nodes → get_or ends n 0 ≡ n + 1) → AreEndsFrom nodes ends (length nodes)
own_from nodes ends many own =
    record {
      many = many;
      last = λ n within. (n, own n within, AtTop);
      kept = λ child parent from of. let within = child_within nodes child parent of in absurd (omega (arith, from, within));
    }

module _ (nodes : List Node) (preorder : IsPreorder nodes) (ends : List ℕ) (n : ℕ) (from : AreEndsFrom nodes ends (n + 1)) where
  -- what holds from the next node on, and of this one, holds from it on
  further : ((parent : ℕ) → IsChild nodes n parent → get_or ends n 0 ≤ get_or ends parent 0) → (child parent : ℕ) → n ≤ child → IsChild nodes child parent → get_or ends child 0 ≤ get_or ends parent 0
  further here child parent low of = go (same_or_not child n)
    where
      go : (child ≡ n) ⊎ (child ≢ n) → get_or ends child 0 ≤ get_or ends parent 0
      go (inl same) = subst (λ (c : ℕ). get_or ends c 0 ≤ get_or ends parent 0) (sym same) (here parent (subst (λ (c : ℕ). IsChild nodes c parent) same of))
      go (inr differs) = from.kept child parent (omega (arith, low, differs)) of

  pub unchanged_from : ((parent : ℕ) → IsChild nodes n parent → get_or ends n 0 ≤ get_or ends parent 0) → AreEndsFrom nodes ends n
  unchanged_from here = record { many = from.many; last = from.last; kept = further here }

  pub widened_from : (p : ℕ) → n < length nodes → IsChild nodes n p → get_or ends p 0 < get_or ends n 0 → AreEndsFrom nodes (set ends p (get_or ends n 0)) n
  widened_from p n_in child less =
      record {
        many = length-set ends p (get_or ends n 0) ∙ from.many;
        last = λ m m_in. last m m_in (same_or_not m p);
        kept = λ c parent low of. kept c parent low of (same_or_not parent p);
      }
    where
      p_less : p < n
      p_less = parent_less nodes n p preorder child

      p_in : p < length ends
      p_in = let many = from.many in omega (arith, p_less, n_in, many)

      at : get_or (set ends p (get_or ends n 0)) p 0 ≡ get_or ends n 0
      at = get_or-set_same ends p (get_or ends n 0) 0 p_in

      other : (m : ℕ) → m ≢ p → get_or (set ends p (get_or ends n 0)) m 0 ≡ get_or ends m 0
      other m differs = get_or-set_other ends p m (get_or ends n 0) 0 differs

      last : (m : ℕ) → m < length nodes → (m ≡ p) ⊎ (m ≢ p) → (last : ℕ) × (get_or (set ends p (get_or ends n 0)) m 0 ≡ last + 1) × StandsUnder nodes m last
      last m m_in (inl same) =
          let own = from.last n n_in in
          (own.0, subst (λ (x : ℕ). get_or (set ends p (get_or ends n 0)) x 0 ≡ own.0 + 1) (sym same) (at ∙ own.1), subst (λ (x : ℕ). StandsUnder nodes x own.0) (sym same) (under_up nodes p n own.0 (Below n p AtTop child) own.2))
      last m m_in (inr differs) = let own = from.last m m_in in (own.0, other m differs ∙ own.1, own.2)

      kept : (c parent : ℕ) → n ≤ c → IsChild nodes c parent → (parent ≡ p) ⊎ (parent ≢ p) → get_or (set ends p (get_or ends n 0)) c 0 ≤ get_or (set ends p (get_or ends n 0)) parent 0
      kept c parent low of (inl same) = go (same_or_not c n)
        where
          here : get_or (set ends p (get_or ends n 0)) c 0 ≡ get_or ends c 0
          here = other c (omega (arith, p_less, low))

          there : get_or (set ends p (get_or ends n 0)) parent 0 ≡ get_or ends n 0
          there = subst (λ (x : ℕ). get_or (set ends p (get_or ends n 0)) x 0 ≡ get_or ends n 0) (sym same) at

          go : (c ≡ n) ⊎ (c ≢ n) → get_or (set ends p (get_or ends n 0)) c 0 ≤ get_or (set ends p (get_or ends n 0)) parent 0
          go (inl is) =
              let own : get_or ends c 0 ≡ get_or ends n 0 = subst (λ (x : ℕ). get_or ends x 0 ≡ get_or ends n 0) (sym is) refl in
              omega (arith, here, there, own)
          go (inr differs) =
              let before : get_or ends c 0 ≤ get_or ends parent 0 = from.kept c parent (omega (arith, low, differs)) of in
              let is : get_or ends parent 0 ≡ get_or ends p 0 = subst (λ (x : ℕ). get_or ends x 0 ≡ get_or ends p 0) (sym same) refl in
              omega (arith, here, there, before, is, less)
      kept c parent low of (inr differs) =
          let here : get_or (set ends p (get_or ends n 0)) c 0 ≡ get_or ends c 0 = other c (omega (arith, p_less, low)) in
          let there : get_or (set ends p (get_or ends n 0)) parent 0 ≡ get_or ends parent 0 = other parent differs in
          let apart : c ≢ n = λ is. differs (one_parent nodes n parent p (subst (λ (x : ℕ). IsChild nodes x parent) is of) child) in
          let before : get_or ends c 0 ≤ get_or ends parent 0 = from.kept c parent (omega (arith, low, apart)) of in
          omega (arith, here, there, before)

-- the ends of all nodes
pub all_ends : (nodes : List Node) (ends : List ℕ) → AreInPreorder nodes → IsPreorder nodes → AreEndsFrom nodes ends 0 → AreEnds nodes ends
all_ends nodes ends preorder parents from =
    record {
      many = from.many;
      each = λ n within. record { under = under n within; behind = λ m below. behind n within m below };
      within = λ n within. let own = from.last n within in let last = under_within nodes n own.0 within own.2 in let is = own.1 in omega (arith, last, is);
    }
  where
    under : (n : ℕ) → n < length nodes → (m : ℕ) → n ≤ m → m < get_or ends n 0 → StandsUnder nodes n m
    under n within m low high = let own = from.last n within in let is = own.1 in contiguous nodes n m own.0 preorder own.2 low (omega (arith, is, high))

    grows : (n m : ℕ) → StandsUnder nodes n m → get_or ends m 0 ≤ get_or ends n 0
    grows n _ AtTop = omega arith
    grows n _ (Below m parent over child) =
        let upper : get_or ends parent 0 ≤ get_or ends n 0 = grows n parent over in
        let lower : get_or ends m 0 ≤ get_or ends parent 0 = from.kept m parent (omega arith) child in
        omega (arith, upper, lower)

    behind : (n : ℕ) → n < length nodes → (m : ℕ) → StandsUnder nodes n m → m < get_or ends n 0
    behind n within m below =
        let m_in : m < length nodes = under_within nodes n m within below in
        let own = from.last m m_in in
        let is = own.1 in
        let low : m ≤ own.0 = under_le nodes m own.0 parents own.2 in
        let high : get_or ends m 0 ≤ get_or ends n 0 = grows n m below in
        omega (arith, is, low, high)
