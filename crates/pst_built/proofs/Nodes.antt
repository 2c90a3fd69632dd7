-- A further node, and a further value of a compound action, go on from what is known.
use Rattle.std.proofs.Common.{◌≡◌, ◌⊎◌, ℕ, zero, suc, ◌+◌, ℤ, List, [], ◌∷◌, ◌++◌, map, length, take, drop, Bool, true, false, if◌then◌else◌, Option, Some, refl, ap, ◌∙◌, subst, inl, inr}
use Rattle.std.specs.Prelude.{slice_get}
use Rattle.std.specs.List.{enumerate_from, filter}
use Rattle.std.proofs.lemmas.Option.{none-some, same_Some}
use Rattle.pst_model.specs.ModelTree.{ModelTree}
use Rattle.pst_scen.specs.declared.tree.Node.{Node}
use Rattle.pst_scen.specs.declared.tree.Fill.{Fill}
use Rattle.pst_scen.specs.declared.tree.Fill.TheVariants as fill
use Rattle.pst_scen.specs.declared.scenario.Scenario.{Scenario}
use Rattle.pst_scen.specs.Tree.{is_parent}
use Rattle.pst_legal.specs.Growing.{Look, Inner, Leaf, open_act, with_look}
use Rattle.pst_legal.specs.Reading.{with_value, node_with_value, put_value}
use Rattle.pst_legal.specs.Statements.{children_of, IsBranch}
use Rattle.pst_built.proofs.Parents.{get_more}
use Rattle.pst_built.specs.Onward.{Each, MoreValues, MoreNode, MoreAct, Onward}
use Rattle.pst_built.proofs.Onward.{each_same, node_same, act_same}

pub each_more : {A : Type 0} (R : A → A → Type 0) → ((x : A) → R x x) → (xs ys : List A) → Each R xs (xs ++ ys)
each_more R same xs ys k x is = (x, get_more xs ys k x is, same x)

-- ---- children

-- the children among nodes of which the first has that number
abbrev kids : ℕ → List Node → ℕ → List ℕ
kids k nodes parent = map (λ (e : ℕ × Node). e.0) (filter (λ e. is_parent parent e.1.parent) (enumerate_from k nodes))

more_kids : (parent k : ℕ) (xs ys : List Node) (i n : ℕ) → slice_get (kids k xs parent) i ≡ Some n → slice_get (kids k (xs ++ ys) parent) i ≡ Some n
more_kids parent k [] ys i n is = absurd (none-some n is)
more_kids parent k (x ∷ xs) ys i n is = by (is_parent parent x.parent) i (λ j e. more_kids parent (k + 1) xs ys j n e) is
  where
    by : (b : Bool) (i : ℕ) → ((j : ℕ) → slice_get (kids (k + 1) xs parent) j ≡ Some n → slice_get (kids (k + 1) (xs ++ ys) parent) j ≡ Some n)
        → slice_get (map (λ (e : ℕ × Node). e.0) (if b then (k, x) ∷ filter (λ e. is_parent parent e.1.parent) (enumerate_from (k + 1) xs) else filter (λ e. is_parent parent e.1.parent) (enumerate_from (k + 1) xs))) i ≡ Some n
        → slice_get (map (λ (e : ℕ × Node). e.0) (if b then (k, x) ∷ filter (λ e. is_parent parent e.1.parent) (enumerate_from (k + 1) (xs ++ ys)) else filter (λ e. is_parent parent e.1.parent) (enumerate_from (k + 1) (xs ++ ys)))) i ≡ Some n
    by true zero each is = is
    by true (suc i) each is = each i is
    by false i each is = each i is

pub branch_more : (nodes more : List Node) (top index n : ℕ) → IsBranch nodes top index n → IsBranch (nodes ++ more) top index n
branch_more nodes more top index n is = more_kids top 0 nodes more index n is

abbrev put_node : ℤ → ℕ → List Node → List Node
put_node v n nodes = take n nodes ++ (node_with_value v (slice_get nodes n) ++ drop (suc n) nodes)

put_kids : (v : ℤ) (parent k n : ℕ) (nodes : List Node) → kids k (put_node v n nodes) parent ≡ kids k nodes parent
put_kids v parent k zero [] = refl
put_kids v parent k (suc n) [] = refl
put_kids v parent k zero (y ∷ ys) = by (is_parent parent y.parent)
  where
    by : (b : Bool)
        → map (λ (e : ℕ × Node). e.0) (if b then (k, record y { fill = with_value v y.fill }) ∷ filter (λ e. is_parent parent e.1.parent) (enumerate_from (k + 1) ys) else filter (λ e. is_parent parent e.1.parent) (enumerate_from (k + 1) ys))
        ≡ map (λ (e : ℕ × Node). e.0) (if b then (k, y) ∷ filter (λ e. is_parent parent e.1.parent) (enumerate_from (k + 1) ys) else filter (λ e. is_parent parent e.1.parent) (enumerate_from (k + 1) ys))
    by true = refl
    by false = refl
put_kids v parent k (suc n) (y ∷ ys) = by (is_parent parent y.parent) (put_kids v parent (k + 1) n ys)
  where
    by : (b : Bool) → kids (k + 1) (put_node v n ys) parent ≡ kids (k + 1) ys parent
        → map (λ (e : ℕ × Node). e.0) (if b then (k, y) ∷ filter (λ e. is_parent parent e.1.parent) (enumerate_from (k + 1) (put_node v n ys)) else filter (λ e. is_parent parent e.1.parent) (enumerate_from (k + 1) (put_node v n ys)))
        ≡ map (λ (e : ℕ × Node). e.0) (if b then (k, y) ∷ filter (λ e. is_parent parent e.1.parent) (enumerate_from (k + 1) ys) else filter (λ e. is_parent parent e.1.parent) (enumerate_from (k + 1) ys))
    by true e = ap (λ ns. k ∷ ns) e
    by false e = e

pub put_children : (s : Scenario) (n : ℕ) (v : ℤ) (parent : ℕ) → children_of (put_value s n v).nodes parent ≡ children_of s.nodes parent
put_children s n v parent = put_kids v parent 0 n s.nodes

-- ---- nodes and their values

value_more : (v : ℤ) (f : Fill) → (with_value v f ≡ f) ⊎ MoreValues f (with_value v f)
value_more v (fill.Compound action instance fields) =
    inr (record { action = action; instance = instance; old = fields; new = fields ++ v ∷ []; was = refl; is = refl; keeps = λ k w e. get_more fields (v ∷ []) k w e })
value_more v (fill.Leaf act) = inl refl
value_more v fill.Sequence = inl refl
value_more v fill.Parallel = inl refl
value_more v fill.Schedule = inl refl
value_more v (fill.Joined parallel joined) = inl refl
value_more v (fill.Select branch) = inl refl
value_more v fill.Repeat = inl refl
value_more v (fill.Turn index) = inl refl
value_more v (fill.If taken) = inl refl
value_more v (fill.Match arm) = inl refl

each_put : (nodes : List Node) (n : ℕ) (v : ℤ) → Each MoreNode nodes (put_node v n nodes)
each_put [] n v k x is = absurd (none-some x is)
each_put (y ∷ ys) zero v zero x is =
    let same : y ≡ x = same_Some y x is in
    (record y { fill = with_value v y.fill }, refl, subst (λ z. MoreNode z (record y { fill = with_value v y.fill })) same (record { parent = refl; fill = value_more v y.fill }))
each_put (y ∷ ys) zero v (suc k) x is = (x, is, node_same x)
each_put (y ∷ ys) (suc n) v zero x is = (x, is, node_same x)
each_put (y ∷ ys) (suc n) v (suc k) x is = each_put ys n v k x is

pub onward_put : (s : Scenario) (n : ℕ) (v : ℤ) → Onward s (put_value s n v)
onward_put s n v = record {
  nodes = each_put s.nodes n v;
  branches = λ top index k e. ap (λ ns. slice_get ns index) (put_children s n v top) ∙ e;
  acts = each_same MoreAct act_same s.actions;
  firsts = λ pool k w e. e;
}

pub onward_look : (m : ModelTree) (s : Scenario) (parent : Option ℕ) (look : Look) → Onward s (with_look m s parent look)
onward_look m s parent (Inner f) =
    let node : Node = record { parent = parent; fill = f } in
    record {
      nodes = each_more MoreNode node_same s.nodes (node ∷ []);
      branches = λ top index n e. branch_more s.nodes (node ∷ []) top index n e;
      acts = each_same MoreAct act_same s.actions;
      firsts = λ pool k v e. e;
    }
onward_look m s parent (Leaf action instance) =
    let node : Node = record { parent = parent; fill = fill.Leaf (length s.actions) } in
    record {
      nodes = each_more MoreNode node_same s.nodes (node ∷ []);
      branches = λ top index n e. branch_more s.nodes (node ∷ []) top index n e;
      acts = each_more MoreAct act_same s.actions (open_act m action instance (Some (length s.nodes)) ∷ []);
      firsts = λ pool k v e. e;
    }
