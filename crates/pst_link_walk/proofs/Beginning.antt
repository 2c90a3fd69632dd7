-- How a walk over the sources begins, and what choices make of it.
use Rattle.std.proofs.Common.{◌≡◌, ℕ, ◌+◌, ◌<◌, List, [], ◌∷◌, ◌++◌, map, length, Option, Some, None, refl, sym, ap, ◌∙◌, subst, append-nil, arith}
use Rattle.pst_model.specs.declared.model.Model.{Model}
use Rattle.pst_model.specs.ModelView.{view_model}
use Rattle.pst_scen.specs.declared.act.Act.{Act}
use Rattle.pst_scen.specs.declared.tree.Node.{Node}
use Rattle.pst_scen.specs.declared.next.Next.TheVariants as next
use Rattle.pst_scen.specs.declared.scenario.Scenario.{Scenario}
use Rattle.pst_legal.specs.Reading.{Reading, Wants, Stops, Reads}
use Rattle.pst_legal.specs.SupplyReading.{read_supply}
use Rattle.pst_legal.specs.ValueReading.{Answer, Options, Dead, Whole, answer_of}
use Rattle.pst_shape_parts.specs.Trees.{bare}
use Rattle.pst_shape.specs.Walks.{Kept as Shape, answer as shape_answer, next_of, IfRead, HasDigit}
use Rattle.pst_supply.specs.Walks.{Kept as Supply, answer as supply_answer}
use Rattle.pst_link_walk.specs.Walks.{Kept, tree_reading, reading, answer, IsUsed}
use Rattle.pst_link_walk.specs.Made.{IsInside, choices_of, IsBehind, Stands, Begins, supply_of, shape_of}
use Rattle.pst_link_walk.proofs.Walking.{tree_back, tree_place, supply_next, supply_back, supply_nil, inside_answer, whole_reads, not_whole, supply_reads, behind_reads}
use Rattle.pst_link_walk.proofs.Used.{inside_used}

next_whole : (a : Answer) → next_of a ≡ next.Whole → (t : Scenario) × (a ≡ Whole t)
next_whole (Options s n) e = absurd cc
next_whole Dead e = absurd cc
next_whole (Whole t) e = (t, refl)

pub has_same : (a b : Answer) (d : ℕ) → next_of a ≡ next_of b → HasDigit a d → HasDigit b d
has_same (Options s n) (Options t k) d e h = let same : n ≡ k = cc in subst (λ x. d < x) same h
has_same (Options s n) Dead d e h = absurd cc
has_same (Options s n) (Whole t) d e h = absurd cc
has_same Dead b d e h = absurd h
has_same (Whole t) b d e h = absurd h

pub has_inside : (r : Reading) (d : ℕ) → HasDigit (answer_of r) d → IsInside r
has_inside (Wants s n) d h = tt
has_inside Stops d h = tt
has_inside (Reads s q []) d h = absurd h
has_inside (Reads s q (e ∷ left)) d h = absurd h

abbrev pub fresh_supply : Model → ℕ → ℕ → ℕ → List Node → List Act → Supply
fresh_supply m seed level place nodes leaves = record { model = m; nodes = nodes; leaves = leaves; seed = seed; place = place; level = level; choices = [] }

module _ (m : Model) (root seed level : ℕ) (xs : List ℕ) (shape : Shape) (is : shape ≡ shape_of m root seed xs) where
  abbrev R : Reading
  R = tree_reading m root seed level xs

  pub shape_reads : shape_answer shape level ≡ answer_of R
  shape_reads = ap (λ k. shape_answer k level) is

  pub begins_whole : (k : Supply) (place : ℕ) (nodes : List Node) (leaves : List Act) → next_of (shape_answer shape level) ≡ next.Whole → IfRead (shape_answer shape level) (λ s. nodes ≡ s.nodes)
      → IfRead (shape_answer shape level) (λ s. leaves ≡ map bare s.actions) → place ≡ length xs → k ≡ fresh_supply m seed level place nodes leaves → Begins m root seed level xs (Some k)
  begins_whole k place nodes leaves e same_nodes same_leaves count made =
      let w = next_whole (shape_answer shape level) e in
      let r = whole_reads R w.0 (sym shape_reads ∙ w.1) in
      let n : nodes ≡ w.0.nodes = subst (λ a. IfRead a (λ s. nodes ≡ s.nodes)) w.1 same_nodes in
      let l : leaves ≡ map bare w.0.actions = subst (λ a. IfRead a (λ s. leaves ≡ map bare s.actions)) w.1 same_leaves in
      let at : r.0 ≡ 0 + length xs = tree_place (view_model m) seed root level xs w.0 r.0 r.1 in
      let q : place ≡ r.0 = omega (arith, count, at) in
      let none : k.choices ≡ [] = ap (λ (x : Supply). x.choices) made in
      record {
        stands = record {
          tree = w.0;
          place = r.0;
          reads = r.1;
          is = made
              ∙ ap (λ ns. fresh_supply m seed level place ns leaves) n
              ∙ ap (λ ls. fresh_supply m seed level place w.0.nodes ls) l
              ∙ ap (λ p. fresh_supply m seed level p w.0.nodes (map bare w.0.actions)) q
              ∙ ap (λ ys. supply_of m seed level w.0 r.0 ys) (sym none);
          used = subst (λ ys. IsUsed (read_supply (view_model m) seed w.0 r.0 ys)) (sym none) (supply_nil (view_model m) seed w.0 r.0);
        };
        fresh = none;
      }

  pub begins_none : IsUsed R → (next_of (shape_answer shape level) ≡ next.Whole → ⊥) → Begins m root seed level xs None
  begins_none used other = record { stands = not_whole R used (λ t e. other (ap next_of (shape_reads ∙ e))); fresh = refl }

-- ---- choices

module _ (m : Model) (root seed level : ℕ) where
  abbrev kept_at : List ℕ → Kept
  kept_at choices = record { model = m; root = root; seed = seed; level = level; choices = choices }

  -- before the activity is read through
  pub inside_answers : (xs : List ℕ) → IsInside (tree_reading m root seed level xs) → answer (kept_at (xs ++ [])) ≡ answer_of (tree_reading m root seed level xs)
  inside_answers xs inside = ap (λ ys. answer (kept_at ys)) (append-nil xs) ∙ ap answer_of (inside_answer (tree_reading m root seed level xs) (read_supply (view_model m) seed) inside)

  -- nothing is left over
  pub stands_used : (xs : List ℕ) (supply : Option Supply) → Stands m root seed level xs supply → IsUsed (reading (kept_at (xs ++ choices_of supply)))
  stands_used xs None inside =
      subst IsUsed (sym (ap (λ ys. reading (kept_at ys)) (append-nil xs) ∙ inside_answer (tree_reading m root seed level xs) (read_supply (view_model m) seed) inside)) (inside_used (tree_reading m root seed level xs) inside)
  stands_used xs (Some k) behind = subst IsUsed (sym (behind_reads m root seed level xs k behind k.choices)) behind.used

  -- one choice more of a source
  pub behind_next : (xs : List ℕ) (k l : Supply) (d : ℕ) → IsBehind m root seed level xs k → HasDigit (supply_answer k) d → l ≡ record k { choices = k.choices ++ d ∷ [] } → IsBehind m root seed level xs l
  behind_next xs k l d behind has e =
      let inside : IsInside (read_supply (view_model m) seed behind.tree behind.place k.choices) =
      has_inside (read_supply (view_model m) seed behind.tree behind.place k.choices) d (subst (λ a. HasDigit a d) (supply_reads m root seed level xs k behind) has) in
      let longer : l.choices ≡ k.choices ++ d ∷ [] = ap (λ (x : Supply). x.choices) e in
      record {
        tree = behind.tree;
        place = behind.place;
        reads = behind.reads;
        is = e ∙ ap (λ (x : Supply). record x { choices = k.choices ++ d ∷ [] }) behind.is ∙ ap (λ ys. supply_of m seed level behind.tree behind.place ys) (sym longer);
        used = subst (λ ys. IsUsed (read_supply (view_model m) seed behind.tree behind.place ys)) (sym longer) (supply_next (view_model m) seed behind.tree behind.place k.choices d inside);
      }

  -- one choice less of a source
  pub behind_back : (xs : List ℕ) (k l : Supply) (d : ℕ) → IsBehind m root seed level xs k → k ≡ record l { choices = l.choices ++ d ∷ [] } → IsBehind m root seed level xs l
  behind_back xs k l d behind e =
      let longer : k.choices ≡ l.choices ++ d ∷ [] = ap (λ (x : Supply). x.choices) e in
      record {
        tree = behind.tree;
        place = behind.place;
        reads = behind.reads;
        is = ap (λ (x : Supply). record x { choices = l.choices }) (sym e ∙ behind.is);
        used = inside_used (read_supply (view_model m) seed behind.tree behind.place l.choices)
            (supply_back (view_model m) seed behind.tree behind.place l.choices d (subst (λ ys. IsUsed (read_supply (view_model m) seed behind.tree behind.place ys)) longer behind.used));
      }

  -- one choice less of the activity
  pub inside_back : (xs : List ℕ) (d : ℕ) (supply : Option Supply) → Stands m root seed level (xs ++ d ∷ []) supply → IsInside (tree_reading m root seed level xs)
  inside_back xs d None inside = tree_back (view_model m) seed root level xs d (inside_used (tree_reading m root seed level (xs ++ d ∷ [])) inside)
  inside_back xs d (Some k) behind = tree_back (view_model m) seed root level xs d (subst IsUsed (sym behind.reads) refl)
