-- The leaves of nodes, and what a further node or a value changes.
use Rattle.std.proofs.Common.{◌≡◌, ℕ, zero, suc, ◌+◌, ℤ, List, [], ◌∷◌, ◌++◌, map, length, take, drop, refl, sym, ap, ap₂, ◌∙◌, arith, append_assoc, append-nil, length-append}
use Rattle.std.specs.Prelude.{slice_get, flat_map}
use Rattle.std.specs.List.{enumerate_from, range_with_len}
use Rattle.std.proofs.lemmas.List.{map-append, length-map}
use Rattle.pst_scen.specs.declared.tree.Node.{Node}
use Rattle.pst_scen.specs.declared.tree.Fill.{Fill}
use Rattle.pst_scen.specs.declared.tree.Fill.TheVariants as fill
use Rattle.pst_scen.specs.Scenarios.{leaf_of, leaves_of}
use Rattle.pst_legal.specs.Reading.{with_value, node_with_value}
use Rattle.pst_built.proofs.Parents.{parent_in, parents}

abbrev leaves_from : ℕ → List Node → List (ℕ × ℕ)
leaves_from k nodes = flat_map (λ e. leaf_of e.0 e.1.fill) (enumerate_from k nodes)

push_from : (k : ℕ) (nodes : List Node) (node : Node) → leaves_from k (nodes ++ node ∷ []) ≡ leaves_from k nodes ++ leaf_of (k + length nodes) node.fill
push_from k [] node = append-nil (leaf_of k node.fill) ∙ ap (λ v. leaf_of v node.fill) (omega arith)
push_from k (x ∷ xs) node =
    ap (λ ls. leaf_of k x.fill ++ ls) (push_from (k + 1) xs node ∙ ap (λ v. leaves_from (k + 1) xs ++ leaf_of v node.fill) (omega arith))
    ∙ sym (append_assoc (leaf_of k x.fill) (leaves_from (k + 1) xs) (leaf_of (k + length (x ∷ xs)) node.fill))

pub leaves_push : (nodes : List Node) (node : Node) → leaves_of (nodes ++ node ∷ []) ≡ leaves_of nodes ++ leaf_of (length nodes) node.fill
leaves_push nodes node = push_from 0 nodes node ∙ ap (λ v. leaves_of nodes ++ leaf_of v node.fill) (omega arith)

-- ---- a value more

abbrev pub put : List Node → ℕ → ℤ → List Node
put nodes n v = take n nodes ++ (node_with_value v (slice_get nodes n) ++ drop (suc n) nodes)

pub put_parents : (nodes : List Node) (n : ℕ) (v : ℤ) → parents (put nodes n v) ≡ parents nodes
put_parents [] zero v = refl
put_parents [] (suc n) v = refl
put_parents (x ∷ xs) zero v = refl
put_parents (x ∷ xs) (suc n) v = ap (λ ps. x.parent ∷ ps) (put_parents xs n v)

leaf_stays : (n : ℕ) (v : ℤ) (f : Fill) → leaf_of n (with_value v f) ≡ leaf_of n f
leaf_stays n v (fill.Leaf act) = refl
leaf_stays n v (fill.Compound action instance fields) = refl
leaf_stays n v fill.Sequence = refl
leaf_stays n v fill.Parallel = refl
leaf_stays n v fill.Schedule = refl
leaf_stays n v (fill.Joined parallel joined) = refl
leaf_stays n v (fill.Select branch) = refl
leaf_stays n v fill.Repeat = refl
leaf_stays n v (fill.Turn index) = refl
leaf_stays n v (fill.If taken) = refl
leaf_stays n v (fill.Match arm) = refl

put_from : (k : ℕ) (nodes : List Node) (n : ℕ) (v : ℤ) → leaves_from k (put nodes n v) ≡ leaves_from k nodes
put_from k [] zero v = refl
put_from k [] (suc n) v = refl
put_from k (x ∷ xs) zero v = ap (λ ls. ls ++ leaves_from (k + 1) xs) (leaf_stays k v x.fill)
put_from k (x ∷ xs) (suc n) v = ap (λ ls. leaf_of k x.fill ++ ls) (put_from (k + 1) xs n v)

pub put_leaves : (nodes : List Node) (n : ℕ) (v : ℤ) → leaves_of (put nodes n v) ≡ leaves_of nodes
put_leaves nodes n v = put_from 0 nodes n v

pub length_put : (nodes : List Node) (n : ℕ) (v : ℤ) → length (put nodes n v) ≡ length nodes
length_put nodes n v = sym (length-map (put nodes n v) parent_in) ∙ ap length (put_parents nodes n v) ∙ length-map nodes parent_in

-- ---- numbers of leaves

range_push : (a n : ℕ) → range_with_len a (suc n) ≡ range_with_len a n ++ (a + n) ∷ []
range_push a zero = ap (λ v. v ∷ []) (omega arith)
range_push a (suc n) = ap (λ xs. a ∷ xs) (range_push (a + 1) n ∙ ap (λ v. range_with_len (a + 1) n ++ v ∷ []) (omega arith))

pub numbers_push : (ls : List (ℕ × ℕ)) (a n : ℕ) → map (λ e. e.0) ls ≡ range_with_len 0 (length ls) → a ≡ length ls
    → map (λ e. e.0) (ls ++ (a, n) ∷ []) ≡ range_with_len 0 (length (ls ++ (a, n) ∷ []))
numbers_push ls a n numbers last =
    let longer : suc (length ls) ≡ length (ls ++ (a, n) ∷ []) = omega (arith, length-append ls ((a, n) ∷ [])) in
    let same : a ≡ 0 + length ls = omega (arith, last) in
    map-append (λ e. e.0) ls ((a, n) ∷ [])
    ∙ ap₂ (λ xs v. xs ++ v ∷ []) numbers same
    ∙ sym (range_push 0 (length ls))
    ∙ ap (range_with_len 0) longer
