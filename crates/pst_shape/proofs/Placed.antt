-- What is put in another's place, and what is taken back.
use Rattle.std.proofs.Common.{◌≡◌, ℕ, List, ◌∷◌, [], ◌++◌, ℤ, length, Option, Some, None, refl, sym, ap, ◌∙◌, subst}
use Rattle.std.specs.Prelude.{slice_get}
use Rattle.pst_scen.specs.declared.tree.Node.{Node}
use Rattle.pst_scen.specs.declared.tree.Fill.{Fill}
use Rattle.pst_scen.specs.declared.tree.Fill.TheVariants as fill
use Rattle.pst_legal.specs.Reading.{with_value}
use Rattle.pst_shape_parts.specs.Trees.{Tree, put, taken_back, without_value, values_at, Extends, cut_to}
use Rattle.pst_shape_parts.proofs.Placed.{remade_at, remade_back, got_remade, more, less, put_nodes, back_nodes, tree_is, length_put, but_last_more, cut_back}
use Rattle.pst_shape_steps.specs.Pending.{IsCompound}

compound_back : (v : ℤ) (x : Node) → IsCompound (Some x) → less (more v x) ≡ x
compound_back v x h =
    let e : without_value (with_value v x.fill) ≡ x.fill = ap (λ (f : Fill). without_value (with_value v f)) h.3 ∙ ap (fill.Compound h.0 h.1) (but_last_more h.2 v) ∙ sym h.3 in
    λ i. record { parent = x.parent; fill = e i }

compound_at : (xs : List Node) (n : ℕ) (x : Node) → IsCompound (slice_get xs n) → slice_get xs n ≡ Some x → IsCompound (Some x)
compound_at xs n x h e = subst IsCompound e h

pub back_put : (t : Tree) (n : ℕ) (v : ℤ) → IsCompound (slice_get t.nodes n) → taken_back (put t n v) n ≡ t
back_put t n v h =
    tree_is (taken_back (put t n v) n) t
    (back_nodes (put t n v) n ∙ ap (λ xs. remade_at less xs n) (put_nodes t n v)
    ∙ remade_back (more v) less t.nodes n (λ x e. compound_back v x (compound_at t.nodes n x h e))) refl

pub put_back : (t u : Tree) (n nodes leaves : ℕ) (v : ℤ) → IsCompound (slice_get t.nodes n) → Extends (put t n v) u → length t.nodes ≡ nodes → length t.leaves ≡ leaves → taken_back (cut_to nodes leaves u) n ≡ t
put_back t u n nodes leaves v h e en el =
    ap (λ x. taken_back x n) (cut_back (put t n v) u nodes leaves e (length_put t n v ∙ en) el) ∙ back_put t n v h

-- ---- what stands at the node then

some_of : (o : Option Node) → IsCompound o → (x : Node) × (o ≡ Some x)
some_of None h = absurd h
some_of (Some x) h = (x, refl)

values_more : (v : ℤ) (x : Node) → IsCompound (Some x) → values_at (Some (more v x)) ≡ values_at (Some x) ++ v ∷ []
values_more v x h = ap (λ (f : Fill). values_at (Some (record x { fill = with_value v f }))) h.3 ∙ sym (ap (λ (f : Fill). values_at (Some (record x { fill = f })) ++ v ∷ []) h.3)

pub put_values : (t : Tree) (n : ℕ) (v : ℤ) → IsCompound (slice_get t.nodes n) → values_at (slice_get (put t n v).nodes n) ≡ values_at (slice_get t.nodes n) ++ v ∷ []
put_values t n v h =
    let s = some_of (slice_get t.nodes n) h in
    ap (λ xs. values_at (slice_get xs n)) (put_nodes t n v)
    ∙ ap values_at (got_remade (more v) t.nodes n s.0 s.1)
    ∙ values_more v s.0 (subst IsCompound s.1 h)
    ∙ sym (ap (λ o. values_at o ++ v ∷ []) s.1)

compound_more : (v : ℤ) (x : Node) → IsCompound (Some x) → IsCompound (Some (more v x))
compound_more v x h = (h.0, h.1, h.2 ++ v ∷ [], ap (with_value v) h.3)

pub put_compound : (t : Tree) (n : ℕ) (v : ℤ) → IsCompound (slice_get t.nodes n) → IsCompound (slice_get (put t n v).nodes n)
put_compound t n v h =
    let s = some_of (slice_get t.nodes n) h in
    subst IsCompound (sym (ap (λ xs. slice_get xs n) (put_nodes t n v) ∙ got_remade (more v) t.nodes n s.0 s.1)) (compound_more v s.0 (subst IsCompound s.1 h))
