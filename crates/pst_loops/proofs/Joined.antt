-- Walks among numbers, and what leads to what.
use Rattle.std.proofs.Common.{◌≡◌, ℕ, zero, suc, ◌<◌, ◌⊎◌, inl, inr, refl, ap, ◌∙◌, sym, subst, List, [], ◌∷◌, Some, length, arith}
use Rattle.std.specs.Prelude.{slice_get}
use Rattle.pst_ast.specs.declared.scope_declaration.Declaration.{Declaration}
use Rattle.pst_ast.specs.NameRules.{LeadsTo, Reaches, AtOnce, Through}
use Rattle.pst_loops.specs.Graph.{Graph, HasEdge, IsWalk, HasWalk, AreEdges}
use Rattle.pst_loops.specs.Numbers.{IsNumber, AreRows}

pub some_is : {X : Type 0} (x y : X) → Some x ≡ Some y → x ≡ y
some_is x y e = cc

pub there_within : {X : Type 0} (xs : List X) (i : ℕ) (x : X) → slice_get xs i ≡ Some x → i < length xs
there_within [] i x e = cc
there_within (y ∷ ys) zero x e = omega arith
there_within (y ∷ ys) (suc i) x e = let l = there_within ys i x e in omega arith

pub is_there : {X : Type 0} (xs : List X) (i : ℕ) → i < length xs → (x : X) × (slice_get xs i ≡ Some x)
is_there [] i l = absurd (omega arith)
is_there (x ∷ xs) zero l = (x, refl)
is_there (x ∷ xs) (suc i) l = is_there xs i (omega arith)

-- the edges of rows lead to vertices
pub rows_are_edges : (ds : List Declaration) (g : Graph) → AreRows ds g → AreEdges g
rows_are_edges ds g rows a b (row, (v, at, is), in_row) =
    let (d, there) = is_there ds a (subst (λ (n : ℕ). a < n) rows.long (there_within g a v at)) in
    let (e, number, leads) = rows.sound a b d there (row, (v, at, is), in_row) in
    subst (λ (n : ℕ). b < n) (sym rows.long) (there_within ds b e number.there)

-- a walk of numbers is a way among declarations
pub walk_leads : (ds : List Declaration) (g : Graph) → AreRows ds g → (i : ℕ) (s : List ℕ) (j : ℕ) (d e : Declaration)
    → slice_get ds i ≡ Some d → slice_get ds j ≡ Some e → IsWalk (HasEdge g) (i ∷ s) j → Reaches ds d e
walk_leads ds g rows i [] j d e there end edge =
    let (f, number, leads) = rows.sound i j d there edge in
    AtOnce d e (subst (LeadsTo ds d) (some_is f e (sym number.there ∙ end)) leads)
walk_leads ds g rows i (k ∷ s) j d e there end (edge, walk) =
    let (f, number, leads) = rows.sound i k d there edge in
    Through d f e leads (walk_leads ds g rows k s j f e number.there end walk)

pub below_or : (i k : ℕ) → (i < k) ⊎ ((i ≡ k) ⊎ (k < i))
below_or zero zero = inr (inl refl)
below_or zero (suc k) = inl (omega arith)
below_or (suc i) zero = inr (inr (omega arith))
below_or (suc i) (suc k) = elim (below_or i k) [ inl l ↦ inl (omega arith) | inr (inl e) ↦ inr (inl (ap suc e)) | inr (inr l) ↦ inr (inr (omega arith)) ]

-- a declaration has one number
pub one_number : (ds : List Declaration) (d : Declaration) (i k : ℕ) → IsNumber ds d i → IsNumber ds d k → i ≡ k
one_number ds d i k a b = elim (below_or i k) [ inl l ↦ absurd (b.first i l a.there) | inr (inl e) ↦ e | inr (inr l) ↦ absurd (a.first k l b.there) ]

-- a way among declarations is a walk of numbers
pub leads_walk : (ds : List Declaration) (g : Graph) → AreRows ds g → (i j : ℕ) (d e : Declaration)
    → slice_get ds i ≡ Some d → IsNumber ds e j → Reaches ds d e → HasWalk g i j
leads_walk ds g rows i j _ _ there number (AtOnce d e leads) =
    let (k, at, edge) = rows.whole i d e there leads in
    ([], subst (HasEdge g i) (one_number ds e k j at number) edge)
leads_walk ds g rows i j _ _ there number (Through d f e leads more) =
    let (k, at, edge) = rows.whole i d f there leads in
    let (s, walk) = leads_walk ds g rows k j f e at.there number more in
    (k ∷ s, (edge, walk))

-- it leads back just where a walk leads to its number
pub back_by_walk : (ds : List Declaration) (g : Graph) → AreRows ds g → (i j : ℕ) (d : Declaration) → slice_get ds i ≡ Some d → IsNumber ds d j → (HasWalk g i j → Reaches ds d d) × (Reaches ds d d → HasWalk g i j)
back_by_walk ds g rows i j d there number = (
  (λ (s, walk). walk_leads ds g rows i s j d d there number.there walk),
  (λ back. leads_walk ds g rows i j d d there number back),
)

-- what is on no loop leads not back
pub never_back : (ds : List Declaration) (g : Graph) → AreRows ds g → (j : ℕ) (d : Declaration) → IsNumber ds d j → (HasWalk g j j → ⊥) → Reaches ds d d → ⊥
never_back ds g rows j d number apart back = apart (leads_walk ds g rows j j d d number.there number back)
