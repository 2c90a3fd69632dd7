-- A list has one front that reads the activity and the sources to their end.
use Rattle.std.proofs.Common.{◌≡◌, ◌⊎◌, ℕ, List, [], ◌∷◌, ◌++◌, length, refl, sym, ap, ap₂, ◌∙◌, inl, inr, ⊎_elim, append-nil}
use Rattle.pst_model.specs.ModelTree.{ModelTree}
use Rattle.pst_scen.specs.declared.scenario.Scenario.{Scenario}
use Rattle.pst_legal.specs.Reading.{Reads}
use Rattle.pst_few_places.proofs.PassedOn.{sources_on}
use Rattle.pst_search_places.specs.Facts.{sources_of}

head_same : (x y : ℕ) (xs ys : List ℕ) → (x ∷ xs) ≡ (y ∷ ys) → x ≡ y
head_same x y xs ys e = cc

tail_same : (x y : ℕ) (xs ys : List ℕ) → (x ∷ xs) ≡ (y ∷ ys) → xs ≡ ys
tail_same x y xs ys e = cc

-- one of two fronts begins with the other
pub record Goes (a b c d : List ℕ) : Type 0 where
  pub more : List ℕ
  pub longer : c ≡ a ++ more
  pub rest : b ≡ more ++ d

split : (a b c d : List ℕ) → a ++ b ≡ c ++ d → Goes a b c d ⊎ Goes c d a b
split [] b c d e = inl (record { more = c; longer = refl; rest = e })
split (x ∷ a) b [] d e = inr (record { more = x ∷ a; longer = refl; rest = sym e })
split (x ∷ a) b (y ∷ c) d e =
    let first = head_same x y (a ++ b) (c ++ d) e in
    ⊎_elim
    (λ (g : Goes a b c d). inl (record { more = g.more; longer = ap₂ ◌∷◌ (sym first) g.longer; rest = g.rest }))
    (λ (g : Goes c d a b). inr (record { more = g.more; longer = ap₂ ◌∷◌ first g.longer; rest = g.rest }))
    (split a b c d (tail_same x y (a ++ b) (c ++ d) e))

none_left : (u w : Scenario) (p q : ℕ) (left : List ℕ) → Reads u p left ≡ Reads w q [] → left ≡ []
none_left u w p q left e = cc

same_read : (u w : Scenario) (p q : ℕ) (left : List ℕ) → Reads u p left ≡ Reads w q [] → u ≡ w
same_read u w p q left e = cc

pub record AreOne (a b c d : List ℕ) (u w : Scenario) : Type 0 where
  pub front : a ≡ c
  pub present : b ≡ d
  pub scenario : u ≡ w

module _ (m : ModelTree) (root seed level : ℕ) where
  goes_same : (a b c d : List ℕ) (u w : Scenario) → Goes a b c d → sources_of m root seed level a ≡ Reads u (length a) [] → sources_of m root seed level c ≡ Reads w (length c) [] → AreOne a b c d u w
  goes_same a b c d u w g one other =
      let both : Reads u (length a) g.more ≡ Reads w (length c) [] =
      sym (sources_on m root seed level a g.more u (length a) [] one) ∙ ap (sources_of m root seed level) (sym g.longer) ∙ other in
      let none = none_left u w (length a) (length c) g.more both in
      record {
        front = sym (g.longer ∙ ap (λ xs. a ++ xs) none ∙ append-nil a);
        present = g.rest ∙ ap (λ xs. xs ++ d) none;
        scenario = same_read u w (length a) (length c) g.more both;
      }

  turned : (a b c d : List ℕ) (u w : Scenario) → AreOne c d a b w u → AreOne a b c d u w
  turned a b c d u w one = record { front = sym one.front; present = sym one.present; scenario = sym one.scenario }

  pub one_front : (a b c d : List ℕ) (u w : Scenario) → a ++ b ≡ c ++ d → sources_of m root seed level a ≡ Reads u (length a) [] → sources_of m root seed level c ≡ Reads w (length c) [] → AreOne a b c d u w
  one_front a b c d u w e one other =
      ⊎_elim (λ g. goes_same a b c d u w g one other) (λ g. turned a b c d u w (goes_same c d a b w u g other one)) (split a b c d e)
