-- What the two walks of a list read is what the list reads.
use Rattle.std.proofs.Common.{◌≡◌, ℕ, List, [], ◌∷◌, ◌++◌, length, Option, Some, None, refl, sym, ap, ◌∙◌, subst, append-nil}
use Rattle.pst_model.specs.declared.model.Model.{Model}
use Rattle.pst_model.specs.ModelView.{view_model}
use Rattle.pst_scen.specs.declared.next.Next.TheVariants as next
use Rattle.pst_scen.specs.declared.scenario.First.{First}
use Rattle.pst_scen.specs.declared.scenario.Scenario.{Scenario}
use Rattle.pst_legal.specs.Reading.{Reading, Wants, Stops, Reads, then_read}
use Rattle.pst_legal.specs.ValueReading.{Answer, Options, Dead, Whole, answer_of, read_values}
use Rattle.pst_shape.specs.Walks.{next_of, IfRead}
use Rattle.pst_value_walk.specs.Walks.{Kept as Values, answer as value_answer}
use Rattle.pst_link_walk.specs.Walks.{Kept, reading, IsUsed, IsEnd, AtEnd}
use Rattle.pst_link_walk.specs.Walks.{answer as link_answer}
use Rattle.pst_link_walk.specs.Made.{IsInside}
use Rattle.pst_link_walk.proofs.Walking.{inside_answer, whole_reads, not_whole}
use Rattle.pst_link_walk.proofs.Ends.{link_on, link_back}
use Rattle.pst_list_walk.specs.Walks.{answer}
use Rattle.pst_list_walk.specs.Made.{kept_at, linked_of, values_of, IsBehind, Stands, Begins}

next_whole : (a : Answer) → next_of a ≡ next.Whole → (t : Scenario) × (a ≡ Whole t)
next_whole (Options s n) e = absurd cc
next_whole Dead e = absurd cc
next_whole (Whole t) e = (t, refl)

abbrev linked_by : Scenario → ℕ → List First → Scenario
linked_by s level firsts = record { level = level; nodes = s.nodes; actions = s.actions; firsts = firsts }

used_of : (k : Kept) (r : Reading) → AtEnd k r → IsUsed r
used_of k (Wants s n) e = tt
used_of k Stops e = tt
used_of k (Reads s q left) e = e.used

module _ (m : Model) (root seed level : ℕ) where
  abbrev L : List ℕ → Reading
  L xs = reading (kept_at m root seed level xs)

  pub begins_whole : (xs : List ℕ) (s : Scenario) (k : Values) (place : ℕ) → AtEnd (kept_at m root seed level xs) (L xs) → next_of (link_answer (kept_at m root seed level xs)) ≡ next.Whole
      → IfRead (link_answer (kept_at m root seed level xs)) (λ t. s ≡ linked_of level t) → place ≡ length xs → k ≡ values_of m seed (record s { firsts = [] }) place [] → Begins m root seed level xs (Some k)
  begins_whole xs s k place end e same count made =
      let w = next_whole (link_answer (kept_at m root seed level xs)) e in
      let r = whole_reads (L xs) w.0 w.1 in
      let at : IsEnd (kept_at m root seed level xs) w.0 r.0 [] = subst (AtEnd (kept_at m root seed level xs)) r.1 end in
      let l : s ≡ linked_of level w.0 = subst (λ a. IfRead a (λ t. s ≡ linked_of level t)) w.1 same in
      let bare : (record s { firsts = [] }) ≡ linked_of level w.0 = ap (λ (x : Scenario). record x { firsts = [] }) l in
      let is : linked_of level w.0 ≡ w.0 = ap (λ n. linked_by w.0 n []) (sym at.of_level) ∙ ap (λ f. linked_by w.0 w.0.level f) (sym at.firsts) in
      let none : k.choices ≡ [] = ap (λ (x : Values). x.choices) made in
      record {
        stands = record {
          linked = w.0;
          place = r.0;
          reads = r.1;
          is = made
              ∙ ap (λ t. values_of m seed t place []) (bare ∙ is)
              ∙ ap (λ p. values_of m seed w.0 p []) (count ∙ sym at.counts)
              ∙ ap (λ ys. values_of m seed w.0 r.0 ys) (sym none);
        };
        fresh = none;
      }

  pub begins_none : (xs : List ℕ) → AtEnd (kept_at m root seed level xs) (L xs) → (next_of (link_answer (kept_at m root seed level xs)) ≡ next.Whole → ⊥) → Begins m root seed level xs None
  begins_none xs end other = record {
    stands = not_whole (L xs) (used_of (kept_at m root seed level xs) (L xs) end) (λ t e. other (ap next_of e));
    fresh = refl;
  }

  -- before the sources are read through
  pub inside_answers : (xs : List ℕ) → IsInside (L xs) → answer (kept_at m root seed level (xs ++ [])) ≡ link_answer (kept_at m root seed level xs)
  inside_answers xs inside =
      ap (λ ys. answer (kept_at m root seed level ys)) (append-nil xs) ∙ ap answer_of (inside_answer (L xs) (read_values (view_model m) seed) inside)

  -- and behind them
  pub behind_answers : (xs : List ℕ) (k : Values) → IsBehind m root seed level xs k → value_answer k ≡ answer (kept_at m root seed level (xs ++ k.choices))
  behind_answers xs k behind =
      ap value_answer behind.is
      ∙ ap (λ r. answer_of (then_read r (read_values (view_model m) seed))) (sym (link_on m root seed level xs behind.linked behind.place [] behind.reads k.choices))

  -- one choice more, or less, of a value
  pub behind_next : (xs : List ℕ) (k l : Values) (d : ℕ) → IsBehind m root seed level xs k → l ≡ record k { choices = k.choices ++ d ∷ [] } → IsBehind m root seed level xs l
  behind_next xs k l d behind e =
      let longer : l.choices ≡ k.choices ++ d ∷ [] = ap (λ (x : Values). x.choices) e in
      record {
        linked = behind.linked;
        place = behind.place;
        reads = behind.reads;
        is = e ∙ ap (λ (x : Values). record x { choices = k.choices ++ d ∷ [] }) behind.is ∙ ap (λ ys. values_of m seed behind.linked behind.place ys) (sym longer);
      }

  pub behind_back : (xs : List ℕ) (k l : Values) (d : ℕ) → IsBehind m root seed level xs k → k ≡ record l { choices = l.choices ++ d ∷ [] } → IsBehind m root seed level xs l
  behind_back xs k l d behind e = record {
    linked = behind.linked;
    place = behind.place;
    reads = behind.reads;
    is = ap (λ (x : Values). record x { choices = l.choices }) (sym e ∙ behind.is);
  }

  -- one choice less of what stands before the values
  pub inside_back : (xs : List ℕ) (d : ℕ) (values : Option Values) → Stands m root seed level (xs ++ d ∷ []) values → IsInside (L xs)
  inside_back xs d None inside = link_back m root seed level xs d (used_inside (L (xs ++ d ∷ [])) inside)
    where
      used_inside : (r : Reading) → IsInside r → IsUsed r
      used_inside (Wants s n) i = tt
      used_inside Stops i = tt
      used_inside (Reads s q left) i = absurd i
  inside_back xs d (Some k) behind = link_back m root seed level xs d (subst IsUsed (sym behind.reads) refl)
