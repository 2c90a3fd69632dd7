-- An item in another's place, and what is taken back.
use Rattle.std.proofs.Common.{◌≡◌, ℕ, zero, suc, ◌+◌, ◌-◌, ◌<◌, ◌≤◌, ℤ, List, [], ◌∷◌, ◌++◌, length, take, drop, map, Bool, true, false, Option, Some, None, refl, sym, ap, ◌∙◌, subst, arith, length-append}
use Rattle.std.specs.Prelude.{slice_get, slice_set}
use Rattle.std.proofs.Math.Seq.{take-append_seam}
use Rattle.pst_scen.specs.declared.tree.Node.{Node}
use Rattle.pst_scen.specs.declared.tree.Fill.{Fill}
use Rattle.pst_scen.specs.declared.tree.Fill.TheVariants as fill
use Rattle.pst_scen.specs.declared.act.Act.{Act}
use Rattle.pst_legal.specs.Reading.{with_value, node_with_value}
use Rattle.pst_shape_parts.specs.Trees.{Tree, put, taken_back, but_last, without_value, node_without_value, values_at, Extends, cut_to}

pub set_is : {X : Type 0} (xs : List X) (n : ℕ) (z : X) → n < length xs → slice_set xs n z ≡ take n xs ++ z ∷ drop (suc n) xs
set_is [] n z h = absurd (omega arith)
set_is (x ∷ xs) zero z h = refl
set_is (x ∷ xs) (suc n) z h = ap (λ (ys : List _). x ∷ ys) (set_is xs n z (omega arith))

-- the node of that number, made anew
abbrev pub remade : (Node → Node) → Option Node → List Node
remade f None = []
remade f (Some x) = f x ∷ []

abbrev pub remade_at : (Node → Node) → List Node → ℕ → List Node
remade_at f xs n = take n xs ++ (remade f (slice_get xs n) ++ drop (suc n) xs)

remade_beyond : (f : Node → Node) (xs : List Node) (n : ℕ) → length xs ≤ n → remade_at f xs n ≡ xs
remade_beyond f [] zero h = refl
remade_beyond f [] (suc n) h = refl
remade_beyond f (x ∷ xs) zero h = absurd (omega arith)
remade_beyond f (x ∷ xs) (suc n) h = ap (λ (ys : List Node). x ∷ ys) (remade_beyond f xs n (omega arith))

length_remade : (f : Node → Node) (xs : List Node) (n : ℕ) → length (remade_at f xs n) ≡ length xs
length_remade f [] zero = refl
length_remade f [] (suc n) = refl
length_remade f (x ∷ xs) zero = refl
length_remade f (x ∷ xs) (suc n) = ap suc (length_remade f xs n)

-- the one undoes the other
pub remade_back : (f g : Node → Node) (xs : List Node) (n : ℕ) → ((x : Node) → slice_get xs n ≡ Some x → g (f x) ≡ x) → remade_at g (remade_at f xs n) n ≡ xs
remade_back f g [] zero h = refl
remade_back f g [] (suc n) h = refl
remade_back f g (x ∷ xs) zero h = ap (λ (y : Node). y ∷ xs) (h x refl)
remade_back f g (x ∷ xs) (suc n) h = ap (λ (ys : List Node). x ∷ ys) (remade_back f g xs n h)

pub got_remade : (f : Node → Node) (xs : List Node) (n : ℕ) (x : Node) → slice_get xs n ≡ Some x → slice_get (remade_at f xs n) n ≡ Some (f x)
got_remade f [] zero x h = cc
got_remade f [] (suc n) x h = cc
got_remade f (y ∷ xs) zero x h = let e : y ≡ x = cc in ap (λ (z : Node). Some (f z)) e
got_remade f (y ∷ xs) (suc n) x h = got_remade f xs n x h

-- ---- a value more, and a value less

abbrev pub more : ℤ → Node → Node
more v x = record x { fill = with_value v x.fill }

abbrev pub less : Node → Node
less x = record x { fill = without_value x.fill }

with_is : (v : ℤ) (o : Option Node) → node_with_value v o ≡ remade (more v) o
with_is v None = refl
with_is v (Some x) = refl

without_is : (o : Option Node) → node_without_value o ≡ remade less o
without_is None = refl
without_is (Some x) = refl

pub put_nodes : (t : Tree) (n : ℕ) (v : ℤ) → (put t n v).nodes ≡ remade_at (more v) t.nodes n
put_nodes t n v = ap (λ (ys : List Node). take n t.nodes ++ (ys ++ drop (suc n) t.nodes)) (with_is v (slice_get t.nodes n))

pub back_nodes : (t : Tree) (n : ℕ) → (taken_back t n).nodes ≡ remade_at less t.nodes n
back_nodes t n = ap (λ (ys : List Node). take n t.nodes ++ (ys ++ drop (suc n) t.nodes)) (without_is (slice_get t.nodes n))

pub tree_is : (t u : Tree) → t.nodes ≡ u.nodes → t.leaves ≡ u.leaves → t ≡ u
tree_is t u e f = λ i. record { nodes = e i; leaves = f i }

pub length_put : (t : Tree) (n : ℕ) (v : ℤ) → length (put t n v).nodes ≡ length t.nodes
length_put t n v = ap length (put_nodes t n v) ∙ length_remade (more v) t.nodes n

-- the code's place in the list
pub put_set : (t : Tree) (n : ℕ) (v : ℤ) (x : Node) → slice_get t.nodes n ≡ Some x → n < length t.nodes → slice_set t.nodes n (more v x) ≡ (put t n v).nodes
put_set t n v x e h = set_is t.nodes n (more v x) h ∙ ap (λ (o : Option Node). take n t.nodes ++ (node_with_value v o ++ drop (suc n) t.nodes)) (sym e)

pub back_set : (t : Tree) (n : ℕ) (x : Node) → slice_get t.nodes n ≡ Some x → n < length t.nodes → slice_set t.nodes n (less x) ≡ (taken_back t n).nodes
back_set t n x e h = set_is t.nodes n (less x) h ∙ ap (λ (o : Option Node). take n t.nodes ++ (node_without_value o ++ drop (suc n) t.nodes)) (sym e)

pub put_beyond : (t : Tree) (n : ℕ) (v : ℤ) → length t.nodes ≤ n → put t n v ≡ t
put_beyond t n v h = tree_is (put t n v) t (put_nodes t n v ∙ remade_beyond (more v) t.nodes n h) refl

pub back_beyond : (t : Tree) (n : ℕ) → length t.nodes ≤ n → taken_back t n ≡ t
back_beyond t n h = tree_is (taken_back t n) t (back_nodes t n ∙ remade_beyond less t.nodes n h) refl

pub but_last_more : (xs : List ℤ) (v : ℤ) → but_last (xs ++ v ∷ []) ≡ xs
but_last_more xs v =
    let e : length (xs ++ v ∷ []) - 1 ≡ length xs = ap (λ n. n - 1) (length-append xs (v ∷ [])) ∙ omega arith in
    ap (λ n. take n (xs ++ v ∷ [])) e ∙ take-append_seam xs (v ∷ [])

-- ---- what a choice made is taken back

pub cut_back : (t u : Tree) (n k : ℕ) → Extends t u → length t.nodes ≡ n → length t.leaves ≡ k → cut_to n k u ≡ t
cut_back t u n k e en ek =
    tree_is (cut_to n k u) t
    (ap (λ i. take i u.nodes) (sym en) ∙ ap (take (length t.nodes)) e.nodes.1 ∙ take-append_seam t.nodes e.nodes.0)
    (ap (λ i. take i u.leaves) (sym ek) ∙ ap (take (length t.leaves)) e.leaves.1 ∙ take-append_seam t.leaves e.leaves.0)
