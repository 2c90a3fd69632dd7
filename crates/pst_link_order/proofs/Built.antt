-- The written scenario is built.
use Rattle.std.proofs.Common.{◌≡◌, ℕ, zero, suc, ◌+◌, ◌<◌, ◌^◌, List, [], ◌∷◌, ◌++◌, length, map, replicate, cond, Option, Some, None, refl, sym, ap, ◌∙◌, subst, ⊎_elim, arith, drop, get_or, append_assoc}
use Rattle.std.specs.List.{count_by, range_with_len}
use Rattle.std.specs.Option.{is_none}
use Rattle.std.proofs.Math.Seq.{drop-cons}
use Rattle.std.proofs.lemmas.List.{length-map, map-append}
use Rattle.std.proofs.lemmas.List.Sums.{sum_by-cons}
use Rattle.pst_scen.specs.declared.act.Act.{Act}
use Rattle.pst_scen.specs.declared.act.Link.TheVariants as link
use Rattle.pst_scen.specs.declared.scenario.Scenario.{Scenario}
use Rattle.pst_scen.specs.Tree.{IsNode}
use Rattle.pst_scen.specs.Laws.{IsPreorder, HasOneLeafEach}
use Rattle.pst_scen.specs.Scenarios.{AreInPreorder, leaves_of}
use Rattle.pst_order.specs.Facts.{IsLinked}
use Rattle.pst_order.specs.Built.{IsBuilt}
use Rattle.pst_order_ahead.specs.LaidOut.{IsLaidOut}
use Rattle.pst_built.proofs.Parents.{get_cases}
use Rattle.pst_link_order.specs.Written.{IsWrittenAct, AreWritten, AreActsOf, IsWrittenOf}
use Rattle.pst_link_order.proofs.Ahead.{reason, no_read, no_write}

abbrev leaf_in : Act → Option ℕ
leaf_in act = act.node

-- one for no leaf
abbrev one_if : Option ℕ → ℕ
one_if o = cond (is_none o) 1 0

count_one : (x : Act) (xs : List Act) → count_by (λ act. is_none act.node) (x ∷ xs) ≡ one_if x.node + count_by (λ act. is_none act.node) xs
count_one x xs = sum_by-cons (λ (act : Act). cond (is_none act.node) 1 0) x xs

first_is : (x : Option ℕ) (xs : List (Option ℕ)) (y : Option ℕ) (ys : List (Option ℕ)) → (x ∷ xs) ≡ (y ∷ ys) → (x ≡ y) × (xs ≡ ys)
first_is x xs y ys e = (cc, cc)

none_first : (x : Option ℕ) (xs : List (Option ℕ)) → [] ≡ (x ∷ xs) → ⊥
none_first x xs e = cc

-- ---- one action more

pub leaves_on : (old acts : List Act) (i : ℕ) (x y : Act) → y ≡ get_or acts i y → i < length acts → x.node ≡ y.node → map leaf_in old ++ map leaf_in (drop i acts) ≡ map leaf_in acts
    → map leaf_in (old ++ x ∷ []) ++ map leaf_in (drop (i + 1) acts) ≡ map leaf_in acts
leaves_on old acts i x y is below same before =
    let next : suc i ≡ i + 1 = omega arith in
    let cut : drop i acts ≡ y ∷ drop (i + 1) acts = drop-cons acts i y below ∙ ap (λ z. z ∷ drop (suc i) acts) (sym is) ∙ ap (λ n. y ∷ drop n acts) next in
    ap (λ xs. xs ++ map leaf_in (drop (i + 1) acts)) (map-append leaf_in old (x ∷ []))
    ∙ append_assoc (map leaf_in old) (leaf_in x ∷ []) (map leaf_in (drop (i + 1) acts))
    ∙ ap (λ o. map leaf_in old ++ (o ∷ map leaf_in (drop (i + 1) acts))) same
    ∙ ap (λ ys. map leaf_in old ++ map leaf_in ys) (sym cut)
    ∙ before

pub written_on : (s : Scenario) (old : List Act) (x : Act) → AreWritten s old → IsWrittenAct s (length old) x → AreWritten s (old ++ x ∷ [])
written_on s old x all one a act is =
    ⊎_elim (λ was. all a act was) (λ new. subst (λ k. IsWrittenAct s k act) (sym new.0) (subst (IsWrittenAct s (length old)) new.1 one)) (get_cases old x a act is)

-- how many actions stand behind those of the leaves
counted : (acts : List Act) (ls : List (ℕ × ℕ)) (k : ℕ) → map leaf_in acts ≡ map (λ e. Some e.1) ls ++ replicate k None → count_by (λ act. is_none act.node) acts ≡ k
counted [] [] zero e = refl
counted [] [] (suc k) e = absurd (none_first None (replicate k None) e)
counted [] (l ∷ ls) k e = absurd (none_first (Some l.1) (map (λ x. Some x.1) ls ++ replicate k None) e)
counted (x ∷ xs) [] zero e = absurd (none_first x.node (map leaf_in xs) (sym e))
counted (x ∷ xs) [] (suc k) e =
    let p = first_is x.node (map leaf_in xs) None (replicate k None) e in
    let rest = counted xs [] k p.1 in
    let here : one_if x.node ≡ 1 = ap one_if p.0 in
    let sum = count_one x xs in
    omega (arith, rest, here, sum)
counted (x ∷ xs) (l ∷ ls) k e =
    let p = first_is x.node (map leaf_in xs) (Some l.1) (map (λ y. Some y.1) ls ++ replicate k None) e in
    let rest = counted xs ls k p.1 in
    let here : one_if x.node ≡ 0 = ap one_if p.0 in
    let sum = count_one x xs in
    omega (arith, rest, here, sum)

same_act : (a b r q : ℕ) → link.Act a r ≡ link.Act b q → a ≡ b
same_act a b r q e = cc

module _ (s t : Scenario) (laid : IsLaidOut s) (nodes : t.nodes ≡ s.nodes) (acts : AreActsOf s t.actions) where
  written : AreWritten s t.actions
  written = acts.written

  many : length t.actions ≡ length s.actions
  many = sym (length-map t.actions leaf_in) ∙ ap length acts.leaves ∙ length-map s.actions leaf_in

  linked : IsLinked t
  linked = record {
    preorder = subst IsPreorder (sym nodes) laid.parents;
    one_leaf = subst HasOneLeafEach (sym nodes) laid.one_leaf;
    leaves_in = λ n act node is leaf. subst (λ k. act < k) (sym many) (laid.leaves_in n act node (subst (λ ns. IsNode ns n node) nodes is) leaf);
    links_in = λ a pool other reference flow x.
        let r = reason s t written a pool flow (link.Act other reference) x in
        let same : r.other ≡ other = same_act r.other other r.link.0 reference (sym r.link.1 ∙ x.linked) in
        subst (λ k. other < k) (sym many) (subst (λ b. b < length s.actions) same r.below);
    links_other = λ a pool other reference flow x.
        let r = reason s t written a pool flow (link.Act other reference) x in
        let same : r.other ≡ other = same_act r.other other r.link.0 reference (sym r.link.1 ∙ x.linked) in
        (λ e. r.different (same ∙ e));
    reads_linked = λ a pool x. no_read s t written a pool link.Nothing x;
    writes_linked = λ a pool x. no_write s t written a pool link.Nothing x;
    states = record {
      source = λ a pool writer reference x. absurd (no_read s t written a pool (link.Act writer reference) x);
      previous = λ a pool writer reference x. absurd (no_write s t written a pool (link.Act writer reference) x);
      one_next = λ pool a reference b other previous x y. absurd (no_write s t written a pool previous
          (record { act = x.act; reference = reference; filled = x.filled; is_act = x.is_act; is = x.is; of_flow = x.of_flow; of_pool = x.of_pool; linked = x.linked }));
    };
  }

  pub built : t.level ≡ count_by (λ act. is_none act.node) s.actions → IsBuilt t
  built level =
      let same : laid.inferred ≡ t.level = sym (level ∙ counted s.actions (leaves_of s.nodes) laid.inferred laid.leaves.nodes) in
      record {
        preorder = subst AreInPreorder (sym nodes) laid.preorder;
        leaves = record {
          numbers = subst (λ ns. map (λ e. e.0) (leaves_of ns) ≡ range_with_len 0 (length (leaves_of ns))) (sym nodes) laid.leaves.numbers;
          nodes = acts.leaves ∙ laid.leaves.nodes ∙ ap (λ k. map (λ e. Some e.1) (leaves_of s.nodes) ++ replicate k None) same ∙ ap (λ ns. map (λ e. Some e.1) (leaves_of ns) ++ replicate t.level None) (sym nodes);
        };
        linked = linked;
        small = record { acts = subst (λ k. k < 2 ^ 31) (sym many) laid.small.acts; nodes = subst (λ ns. length ns < 2 ^ 31) (sym nodes) laid.small.nodes };
      }

  pub is_written : t.level ≡ count_by (λ act. is_none act.node) s.actions → IsWrittenOf s t
  is_written level = record { nodes = nodes; acts = acts; built = built level }
