-- What references and claims break is the least breach of the rules of pools.
use Rattle.std.proofs.Common.{◌≡◌, ◌⊎◌, inl, inr, ⊎_elim, arith, refl, sym, subst, ap, ◌∙◌}
use Rattle.std.specs.Prelude.{ℕ, zero, suc, slice_get, nat_eq, Bool, true, false, not, ◌||◌, List, [], ◌∷◌, Option, Some, None, Contains, if◌then◌else◌}
use Rattle.std.specs.List.{list_any, filter_map, cons_option}
use Rattle.std.specs.Option.{option_map}
use Rattle.std.proofs.lemmas.Bool.{eqb-true, eqb-false}
use Rattle.std.proofs.lemmas.Option.{slice_get-get_or}
use Rattle.pst_base.specs.Laws.{BeforeGoesOn}
use Rattle.pst_base.specs.declared.position.Place.{Place}
use Rattle.pst_ast.specs.declared.instance.Instance.{Instance}
use Rattle.pst_ast.specs.DeclarationTree.{UnitTree}
use Rattle.pst_ast.specs.Breaches.{IsLeast, IsNone}
use Rattle.pst_ast.specs.declared.scope_declaration.Declaration.{Declaration}
use Rattle.pst_ast.specs.declared.referent.Finding.{Finding}
use Rattle.pst_ast.specs.Declarations.{declarations}
use Rattle.pst_name_rules.specs.Earlier.{earlier}
use Rattle.pst_name_rules.specs.Leasts.{IsLeastOf, IsIn, least_at}
use Rattle.pst_name_rules.proofs.Leasts.{told, least_in, same_some, some_is_none}
use Rattle.pst_bound_pools.specs.declared.explicit_rows.ExplicitRows.{ExplicitRows}
use Rattle.pst_bound_pools.specs.declared.default_rows.DefaultRows.{DefaultRows}
use Rattle.pst_bind.specs.declared.judging.Judged.{Judged}
use Rattle.pst_pool_binds.specs.PoolBinds.{explicit_binds, default_binds}
use Rattle.pst_bind.specs.Needs.{Need, needs, candidates_for, served_by, serving}
use Rattle.pst_bind.specs.PoolRules.{PoolBreach, NoPool, TwoPools}
use Rattle.pst_bound_pools.specs.KeptBinds.{AreExplicitRows, AreDefaultRows}
use Rattle.pst_bind.specs.Choices.{choice_of, pool_of, finding_at}
use Rattle.pst_bind.specs.Judging.{choice_for, found_with, served_with}
use Rattle.pst_bind.specs.PooledSources.{IsBreach, AreJudged}
use Rattle.pst_bind.proofs.Made.{unserved, need_finding, finding_made, pool_made}
use Rattle.pst_bind.proofs.NearestRows.{candidates_are}
use Rattle.pst_bind.proofs.Serves.{another, not_same, is_first, is_behind}

-- ---- elements

in_found : {X : Type 0} (f : X → Option Finding) (xs : List X) (g : Finding) → IsIn f xs g → (x : X) × Contains xs x × (f x ≡ Some g)
in_found f [] g there = absurd there
in_found f (x ∷ xs) g there = ⊎_elim
    (λ here. (x, (0, omega arith, refl), here))
    (λ later. let more = in_found f xs g later in (more.0, (suc more.1.0, omega (arith, more.1.1), more.1.2), more.2))
    there

nothing_at : {X : Type 0} {x : X} → None ≡ Some x → ⊥
nothing_at {X} {x} e = cc

some_at : {X : Type 0} {x y : X} → Some x ≡ Some y → x ≡ y
some_at {X} {x} {y} e = cc

right_true : (a b : Bool) → b ≡ true → (a || b) ≡ true
right_true true b e = refl
right_true false b e = e

found_at : {X : Type 0} (f : X → Option Finding) (xs : List X) (x : X) (g : Finding) (k : ℕ) → slice_get xs k ≡ Some x → f x ≡ Some g → IsIn f xs g
found_at f [] x g k at is = absurd (nothing_at at)
found_at f (y ∷ ys) x g zero at is = inl (ap f (some_at at) ∙ is)
found_at f (y ∷ ys) x g (suc k) at is = inr (found_at f ys x g k at is)

-- ---- what a reference or claim breaks

module _ (units : List UnitTree) (instances : List Instance) where
  abbrev ds : List Declaration
  ds = declarations units

  abbrev found_for : Need → Option Finding
  found_for n = need_finding n.need.name.place (candidates_for units instances n)

  abbrev at : Place → ℕ → Finding
  at place rule = record { place = place; rule = rule }

  -- two that differ
  two_by : (n : Need) (g : Finding) (p : ℕ) (more : List ℕ) (b : Bool) → Contains (needs units instances) n → candidates_for units instances n ≡ p ∷ more → list_any (λ q. not (nat_eq q p)) more ≡ b
      → unserved n.need.name.place (if b then None else Some p) ≡ Some g → IsBreach units instances g
  two_by n g p more false among found any is = absurd (some_is_none (sym is))
  two_by n g p more true among found any is =
      let other = another p more any in
      subst (IsBreach units instances) (same_some is)
      (TwoPools n p other.0 among (subst (λ (ps : List ℕ). Contains ps p) (sym found) (is_first p more)) (subst (λ (ps : List ℕ). Contains ps other.0) (sym found) (is_behind p other.0 more other.1)) (not_same p other.0 other.2))

  breaks_by : (n : Need) (g : Finding) (ps : List ℕ) → Contains (needs units instances) n → candidates_for units instances n ≡ ps → need_finding n.need.name.place ps ≡ Some g → IsBreach units instances g
  breaks_by n g [] among found is = subst (IsBreach units instances) (same_some is) (NoPool n among found)
  breaks_by n g (p ∷ more) among found is = two_by n g p more (list_any (λ q. not (nat_eq q p)) more) among found refl is

  found_breaks : (g : Finding) → IsIn found_for (needs units instances) g → IsBreach units instances g
  found_breaks g there = let x = in_found found_for (needs units instances) g there in breaks_by x.0 g (candidates_for units instances x.0) x.1 refl x.2

  -- ---- each breach is found

  contained : {A : Type 0} (xs : List A) (x : A) (c : Contains xs x) → slice_get xs c.0 ≡ Some x
  contained xs x c = slice_get-get_or xs c.0 x c.1 ∙ ap (λ y. Some y) c.2

  differs : (x r : ℕ) (b : Bool) → nat_eq x r ≡ b → (x ≡ r → ⊥) → nat_eq x r ≡ false
  differs x r true is other = absurd (other (eqb-true x r is))
  differs x r false is other = is

  any_at : (r x : ℕ) (more : List ℕ) (k : ℕ) → slice_get more k ≡ Some x → nat_eq x r ≡ false → list_any (λ q. not (nat_eq q r)) more ≡ true
  any_at r x [] k at other = absurd (nothing_at at)
  any_at r x (y ∷ more) zero at other =
      ap (λ (b : Bool). not b || list_any (λ q. not (nat_eq q r)) more) (ap (λ (z : ℕ). nat_eq z r) (some_at at) ∙ other)
  any_at r x (y ∷ more) (suc k) at other = right_true (not (nat_eq y r)) (list_any (λ q. not (nat_eq q r)) more) (any_at r x more k at other)

  any_other : (r x : ℕ) (more : List ℕ) (k : ℕ) → slice_get (r ∷ more) k ≡ Some x → (x ≡ r → ⊥) → list_any (λ q. not (nat_eq q r)) more ≡ true
  any_other r x more zero at other = absurd (other (sym (some_at at)))
  any_other r x more (suc k) at other = any_at r x more k at (differs x r (nat_eq x r) refl other)

  two_found : (n : Need) (p q : ℕ) (ps : List ℕ) → Contains ps p → Contains ps q → (p ≡ q → ⊥) → need_finding n.need.name.place ps ≡ Some (at n.need.name.place 23)
  two_found n p q [] a b other = absurd (omega (arith, a.1))
  two_found n p q (r ∷ more) a b other = ap (λ (c : Bool). unserved n.need.name.place (if c then None else Some r)) (by_first (nat_eq p r) refl)
    where
      by_first : (c : Bool) → nat_eq p r ≡ c → list_any (λ x. not (nat_eq x r)) more ≡ true
      by_first true is = any_other r q more b.0 (contained (r ∷ more) q b) (λ e. other (eqb-true p r is ∙ sym e))
      by_first false is = any_other r p more a.0 (contained (r ∷ more) p a) (eqb-false p r is)

  breach_found : {place : Place} {rule : ℕ} → PoolBreach units instances place rule → IsIn found_for (needs units instances) (at place rule)
  breach_found (NoPool n among none) = found_at found_for (needs units instances) n (at n.need.name.place 22) among.0 (contained (needs units instances) n among) (ap (need_finding n.need.name.place) none)
  breach_found (TwoPools n p q among a b other) =
      found_at found_for (needs units instances) n (at n.need.name.place 23) among.0 (contained (needs units instances) n among) (two_found n p q (candidates_for units instances n) a b other)

  breaks_found : (g : Finding) → IsBreach units instances g → IsIn found_for (needs units instances) g
  breaks_found g breaks = breach_found breaks

  -- ---- the least

  least_found : BeforeGoesOn → IsLeastOf (IsBreach units instances) (least_at found_for (needs units instances) None)
  least_found on =
      let least = least_at found_for (needs units instances) None in
      told on (λ f. ⊥ ⊎ IsIn found_for (needs units instances) f) (IsBreach units instances) least (λ f has. ⊎_elim (λ no. absurd no) (λ there. found_breaks f there) has) (λ f breaks. inr (breaks_found f breaks))
      (least_in on found_for (needs units instances) (λ f. ⊥) None (λ f no. no))

  module _ (explicit : ExplicitRows) (defaults : DefaultRows) (are : AreExplicitRows ds instances (explicit_binds units) explicit) (are_defaults : AreDefaultRows ds instances (default_binds units) defaults) where
    same_choice : (n : Need) → choice_for ds explicit defaults instances n ≡ choice_of (candidates_for units instances n)
    same_choice n = ap choice_of (candidates_are units instances explicit defaults are are_defaults n.action n.need n.instance)

    same_finding : (n : Need) → found_with (choice_for ds explicit defaults instances) n ≡ found_for n
    same_finding n = ap (finding_at n.need.name.place) (same_choice n) ∙ finding_made n.need.name.place (candidates_for units instances n)

    same_least : (ns : List Need) (before : Option Finding) → least_at (found_with (choice_for ds explicit defaults instances)) ns before ≡ least_at found_for ns before
    same_least [] before = refl
    same_least (n ∷ more) before =
        same_least more (earlier before (found_with (choice_for ds explicit defaults instances) n)) ∙ ap (λ (f : Option Finding). least_at found_for more (earlier before f)) (same_finding n)

    pub judged_least : BeforeGoesOn → (least : Option Finding) → least ≡ least_at (found_with (choice_for ds explicit defaults instances)) (needs units instances) None → IsLeastOf (IsBreach units instances) least
    judged_least on least is = subst (IsLeastOf (IsBreach units instances)) (sym (is ∙ same_least (needs units instances) None)) (least_found on)

    same_served : (n : Need) → served_with (choice_for ds explicit defaults instances) n ≡ serving units instances n
    same_served n = ap (option_map (served_by n)) (ap pool_of (same_choice n) ∙ pool_made (candidates_for units instances n))

    pub judged_served : (ns : List Need) → filter_map (served_with (choice_for ds explicit defaults instances)) ns ≡ filter_map (serving units instances) ns
    judged_served [] = refl
    judged_served (n ∷ more) = λ i. cons_option (same_served n i) (judged_served more i)

  -- by a list of declarations, and of references and claims, however these are told
  abbrev Judges : List Declaration → List Need → Type 0
  Judges all ns =
      (explicit : ExplicitRows) (defaults : DefaultRows) → AreExplicitRows all instances (explicit_binds units) explicit → AreDefaultRows all instances (default_binds units) defaults → BeforeGoesOn
      → (judged : Judged) → judged.least ≡ least_at (found_with (choice_for all explicit defaults instances)) ns None → judged.served.items ≡ filter_map (served_with (choice_for all explicit defaults instances)) ns
      → AreJudged units instances judged

  judges_here : Judges ds (needs units instances)
  judges_here explicit defaults are are_defaults on judged least served =
      (judged_least explicit defaults are are_defaults on judged.least least, served ∙ judged_served explicit defaults are are_defaults (needs units instances))

  pub judges : (all : List Declaration) (ns : List Need) → all ≡ ds → ns ≡ needs units instances → Judges all ns
  judges all ns e f = subst (λ (xs : List Declaration). Judges xs ns) (sym e) (subst (λ (ms : List Need). Judges ds ms) (sym f) judges_here)

-- ---- none, or the least

pub none_of : (units : List UnitTree) (instances : List Instance) → IsLeastOf (IsBreach units instances) None → IsNone (PoolBreach units instances)
none_of units instances none = λ p r breaks. none (record { place = p; rule = r }) breaks

pub least_of : (units : List UnitTree) (instances : List Instance) (f : Finding) → IsLeastOf (IsBreach units instances) (Some f) → IsLeast (PoolBreach units instances) f.place f.rule
least_of units instances f least = record { is = least.0; least = λ p r breaks. least.1 (record { place = p; rule = r }) breaks }
