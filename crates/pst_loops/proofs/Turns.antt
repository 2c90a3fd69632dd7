-- Each turn of a search.
use Rattle.std.proofs.Common.{◌≡◌, ℕ, zero, suc, ◌+◌, ◌<◌, ◌≤◌, ◌⊎◌, inl, inr, refl, ap, ◌∙◌, sym, subst, List, [], ◌∷◌, ◌++◌, Some, length, set, arith, length-set, get_or, take, Bool, true, false, replicate}
use Rattle.std.specs.Prelude.{slice_get}
use Rattle.std.specs.Global.{Vec}
use Rattle.std.proofs.lemmas.Bool.{cases_eq}
use Rattle.std.proofs.lemmas.Option.{slice_get-get_or}
use Rattle.std.proofs.lemmas.List.{take_more, length-replicate}
use Rattle.std.proofs.lemmas.List.Sums.{sum_by-set}
use Rattle.pst_loops.specs.Graph.{Graph, IsIn, IsRow, HasEdge, IsWalk, HasWalk}
use Rattle.pst_loops.specs.Search.{IsSearch, IsReached, IsGone, EachGone, weight, work}

pub in_cases : (x : ℕ) (s : List ℕ) (t : ℕ) → IsIn x (s ++ t ∷ []) → IsIn x s ⊎ (t ≡ x)
in_cases x [] t (inl e) = inr e
in_cases x [] t (inr e) = absurd e
in_cases x (a ∷ s) t (inl e) = inl (inl e)
in_cases x (a ∷ s) t (inr e) = elim (in_cases x s t e) [ inl y ↦ inl (inr y) | inr y ↦ inr y ]

pub in_front : (x : ℕ) (s : List ℕ) (t : ℕ) → IsIn x s → IsIn x (s ++ t ∷ [])
in_front x [] t e = absurd e
in_front x (a ∷ s) t (inl e) = inl e
in_front x (a ∷ s) t (inr e) = inr (in_front x s t e)

pub in_last : (s : List ℕ) (t : ℕ) → IsIn t (s ++ t ∷ [])
in_last [] t = inl refl
in_last (a ∷ s) t = inr (in_last s t)

in_read : (s : List ℕ) (i d : ℕ) → i < length s → IsIn (get_or s i d) s
in_read [] i d l = absurd (omega arith)
in_read (a ∷ s) zero d l = inl refl
in_read (a ∷ s) (suc i) d l = inr (in_read s i d (omega arith))

pub walk_on : (E : ℕ → ℕ → Type 0) (a : ℕ) (s : List ℕ) (b c : ℕ) → IsWalk E (a ∷ s) b → E b c → IsWalk E (a ∷ (s ++ b ∷ [])) c
walk_on E a [] b c w e = (w, e)
walk_on E a (d ∷ s) b c w e = (w.0, walk_on E d s b c w.1 e)

pub set_cases : (xs : List Bool) (t : ℕ) (y : Bool) (i : ℕ) (s : Bool) → slice_get (set xs t y) i ≡ Some s → (i ≡ t) ⊎ (slice_get xs i ≡ Some s)
set_cases [] t y i s e = cc
set_cases (x ∷ xs) zero y zero s e = inl refl
set_cases (x ∷ xs) zero y (suc i) s e = inr e
set_cases (x ∷ xs) (suc t) y zero s e = inr e
set_cases (x ∷ xs) (suc t) y (suc i) s e = elim (set_cases xs t y i s e) [ inl p ↦ inl (ap suc p) | inr p ↦ inr p ]

marked : (xs : List Bool) (t : ℕ) → t < length xs → slice_get (set xs t true) t ≡ Some true
marked [] t l = absurd (omega arith)
marked (x ∷ xs) zero l = refl
marked (x ∷ xs) (suc t) l = marked xs t (omega arith)

still_marked : (xs : List Bool) (t i : ℕ) → slice_get xs i ≡ Some true → slice_get (set xs t true) i ≡ Some true
still_marked [] t i e = e
still_marked (x ∷ xs) zero zero e = refl
still_marked (x ∷ xs) zero (suc i) e = e
still_marked (x ∷ xs) (suc t) zero e = e
still_marked (x ∷ xs) (suc t) (suc i) e = still_marked xs t i e

pub still_reached : (from : ℕ) (xs : List Bool) (t v : ℕ) → IsReached from xs v → IsReached from (set xs t true) v
still_reached from xs t v (inl e) = inl e
still_reached from xs t v (inr e) = inr (still_marked xs t v e)

-- an edge from a vertex that was reached
pub reached_on : (g : Graph) (from v y : ℕ) (marks : List Bool) → ((x : ℕ) → slice_get marks x ≡ Some true → HasWalk g from x) → IsReached from marks v → HasEdge g v y → HasWalk g from y
reached_on g from v y marks f (inl e) h = ([], subst (λ x. HasEdge g x y) e h)
reached_on g from v y marks f (inr e) h = let r = f v e in (r.0 ++ v ∷ [], walk_on (HasEdge g) from r.0 v y r.1 h)

pub edge_there : (g : Graph) (v : ℕ) (row : List ℕ) (i d : ℕ) → IsRow g v row → i < length row → HasEdge g v (get_or row i d)
edge_there g v row i d r l = (row, r, in_read row i d l)

-- the edge was to a vertex that is marked
pub known_edge : (g : Graph) (from to : ℕ) (marks : List Bool) (stack : List ℕ) (v : ℕ) (row : List ℕ) (i y : ℕ) → IsSearch g from to marks stack (IsGone v (take i row))
    → i < length row → y ≡ get_or row i y → slice_get marks y ≡ Some true → (y ≡ to → ⊥) → IsSearch g from to marks stack (IsGone v (take (i + 1) row))
known_edge g from to marks stack v row i y h l r m n = record {
  found = h.found;
  waiting = h.waiting;
  closed = λ x z reached off gone edge. elim (cases_eq x v) [
    | inl e ↦ elim (in_cases z (take i row) (get_or row i y) (subst (IsIn z) (take_more row i y l) (gone e))) [
      | inl before ↦ h.closed x z reached off (λ q. before) edge
      | inr now ↦ (ap (slice_get marks) (sym (r ∙ now)) ∙ m, λ q. n (r ∙ now ∙ q))
    ]
    | inr e ↦ h.closed x z reached off (λ q. absurd (e q)) edge
  ];
  within = h.within;
  all = h.all;
}

-- the edge was to a new vertex
pub new_edge : (g : Graph) (from to : ℕ) (marks : List Bool) (stack : List ℕ) (v : ℕ) (row : List ℕ) (i y : ℕ) → IsSearch g from to marks stack (IsGone v (take i row))
    → i < length row → y ≡ get_or row i y → IsReached from marks v → HasEdge g v y → y < length g → (y ≡ to → ⊥) → IsSearch g from to (set marks y true) (stack ++ y ∷ []) (IsGone v (take (i + 1) row))
new_edge g from to marks stack v row i y h l r reach edge bound n = known_edge g from to (set marks y true) (stack ++ y ∷ []) v row i y
    (record {
      found = λ x e. elim (set_cases marks y true x true e) [ inl p ↦ subst (HasWalk g from) (sym p) (reached_on g from v y marks h.found reach edge) | inr p ↦ h.found x p ];
      waiting = λ x e. elim (in_cases x stack y e) [ inl p ↦ still_reached from marks y x (h.waiting x p) | inr p ↦ inr (subst (λ z. slice_get (set marks y true) z ≡ Some true) p (marked marks y (subst (λ k. y < k) (sym h.all) bound))) ];
      closed = λ x z reached off gone e. elim reached [
        | inl p ↦ let c = h.closed x z (inl p) (λ q. off (in_front x stack y q)) gone e in (still_marked marks y z c.0, c.1)
        | inr p ↦ elim (set_cases marks y true x true p) [
          | inl q ↦ absurd (off (subst (λ w. IsIn w (stack ++ y ∷ [])) (sym q) (in_last stack y)))
          | inr q ↦ let c = h.closed x z (inr q) (λ o. off (in_front x stack y o)) gone e in (still_marked marks y z c.0, c.1)
        ]
      ];
      within = λ x e. elim (in_cases x stack y e) [ inl p ↦ h.within x p | inr p ↦ subst (λ z. z < length g) p bound ];
      all = length-set marks y true ∙ h.all;
    }) l r (marked marks y (subst (λ k. y < k) (sym h.all) bound)) n

pub same_row : (g : Graph) (v : ℕ) (row other : List ℕ) → IsRow g v row → IsRow g v other → other ≡ row
same_row g v row other (a, p, q) (b, r, s) = let e : a ≡ b = cc in sym s ∙ ap (λ (w : Vec ℕ). w.items) (sym e) ∙ q

-- all edges of v have been gone through
pub turned : (g : Graph) (from to : ℕ) (marks : List Bool) (stack : List ℕ) (v : ℕ) (row : List ℕ) → IsRow g v row → IsSearch g from to marks stack (IsGone v row) → IsSearch g from to marks stack EachGone
turned g from to marks stack v row r h = record {
  found = h.found;
  waiting = h.waiting;
  closed = λ x y reached off gone (other, o, i). h.closed x y reached off (λ e. subst (IsIn y) (same_row g v row other r (subst (λ z. IsRow g z other) e o)) i) (other, o, i);
  within = h.within;
  all = h.all;
}

-- v is taken off the stack
pub popped : (g : Graph) (from to : ℕ) (marks : List Bool) (stack : List ℕ) (v : ℕ) → IsSearch g from to marks (stack ++ v ∷ []) EachGone → IsSearch g from to marks stack (IsGone v [])
popped g from to marks stack v h = record {
  found = h.found;
  waiting = λ x e. h.waiting x (in_front x stack v e);
  closed = λ x y reached off gone edge. h.closed x y reached (λ i. elim (in_cases x stack v i) [ inl p ↦ off p | inr p ↦ gone (sym p) ]) tt edge;
  within = λ x e. h.within x (in_front x stack v e);
  all = h.all;
}

pub top_reached : (g : Graph) (from to : ℕ) (marks : List Bool) (stack : List ℕ) (v : ℕ) → IsSearch g from to marks (stack ++ v ∷ []) EachGone → IsReached from marks v × (v < length g)
top_reached g from to marks stack v h = (h.waiting v (in_last stack v), h.within v (in_last stack v))

no_walk : (g : Graph) (from to : ℕ) (marks : List Bool) → IsSearch g from to marks [] EachGone → (a : ℕ) (s : List ℕ) → IsReached from marks a → IsWalk (HasEdge g) (a ∷ s) to → ⊥
no_walk g from to marks h a [] r w = (h.closed a to r (λ i. i) tt w).1 refl
no_walk g from to marks h a (c ∷ s) r w = no_walk g from to marks h c s (inr (h.closed a c r (λ i. i) tt w.0).0) w.1

-- nothing is left on the stack
pub not_reached : (g : Graph) (from to : ℕ) (marks : List Bool) → IsSearch g from to marks [] EachGone → HasWalk g from to → ⊥
not_reached g from to marks h (s, w) = no_walk g from to marks h from s (inl refl) w

pub none_marked : (n x : ℕ) → slice_get (replicate n false) x ≡ Some true → ⊥
none_marked zero x e = cc
none_marked (suc n) zero e = cc
none_marked (suc n) (suc x) e = none_marked n x e

pub begun : (g : Graph) (from to : ℕ) → from < length g → IsSearch g from to (replicate (length g) false) (from ∷ []) EachGone
begun g from to l = record {
  found = λ x e. absurd (none_marked (length g) x e);
  waiting = λ x i. elim i [ inl e ↦ inl (sym e) | inr e ↦ absurd e ];
  closed = λ x y reached off gone edge. elim reached [ inl e ↦ absurd (off (inl (sym e))) | inr e ↦ absurd (none_marked (length g) x e) ];
  within = λ x i. elim i [ inl e ↦ subst (λ z. z < length g) e l | inr e ↦ absurd e ];
  all = length-replicate (length g) false;
}

pub row_read : (g : Graph) (v : ℕ) (row : Vec ℕ) → v < length g → row ≡ get_or g v row → IsRow g v row.items
row_read g v row l e = (row, slice_get-get_or g v row l ∙ ap Some (sym e), refl)

pub work_marked : (marks : List Bool) (y : ℕ) (b : Bool) → y < length marks → get_or marks y b ≡ false → work (set marks y true) + 1 ≡ work marks
work_marked marks y b l e = let s = sum_by-set weight marks y true b l in let g = ap weight e in omega arith

pub same_read : (s : List ℕ) (i d e : ℕ) → i < length s → get_or s i d ≡ get_or s i e
same_read [] i d e l = absurd (omega arith)
same_read (x ∷ s) zero d e l = refl
same_read (x ∷ s) (suc i) d e l = same_read s i d e (omega arith)

pub same_search : (g : Graph) (from to : ℕ) (marks marks' : List Bool) (stack stack' : List ℕ) (G : ℕ → ℕ → Type 0) → marks' ≡ marks → stack' ≡ stack → IsSearch g from to marks stack G → IsSearch g from to marks' stack' G
same_search g from to marks marks' stack stack' G m s h = subst (λ (x : List Bool). IsSearch g from to x stack' G) (sym m) (subst (λ (x : List ℕ). IsSearch g from to marks x G) (sym s) h)

pub take_all : (s : List ℕ) (i : ℕ) → length s ≤ i → take i s ≡ s
take_all [] zero l = refl
take_all [] (suc i) l = refl
take_all (x ∷ s) zero l = absurd (omega arith)
take_all (x ∷ s) (suc i) l = ap (λ t. x ∷ t) (take_all s i (omega arith))

pub empty : (s : List ℕ) → length s ≡ 0 → s ≡ []
empty [] e = refl
empty (x ∷ s) e = absurd (omega arith)
