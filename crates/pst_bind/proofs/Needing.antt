-- The references and claims that pools serve are added action by action, and instance by instance.
use Rattle.std.proofs.Common.{◌≡◌, ◌<◌, refl, sym, subst, ap, ◌∙◌, cond}
use Rattle.std.specs.Prelude.{ℕ, ◌+◌, Bool, true, false, not, ◌&&◌, List, [], ◌∷◌, ◌++◌, map, length, drop, get_or, None}
use Rattle.std.specs.List.{filter, flat_map, enumerate_from}
use Rattle.std.proofs.lemmas.List.{drop_more}
use Rattle.std.proofs.lemmas.List.Elements.{filter_agree}
use Rattle.pst_ast.specs.declared.instance.Instance.{Instance}
use Rattle.pst_ast.specs.DeclarationTree.{UnitTree}
use Rattle.pst_ast.specs.declared.scope_declaration.Declaration.{Declaration}
use Rattle.pst_ast.specs.declared.scope_declaration.Scope.TheVariants.{Files}
use Rattle.pst_ast.specs.declared.scope_declaration.Sort.TheVariants.{Component}
use Rattle.pst_ast.specs.Declarations.{declarations}
use Rattle.pst_ast.specs.Sorts.{is_action}
use Rattle.pst_type_rules.specs.Members.{those_that}
use Rattle.pst_type_rules.specs.Sites.{actions}
use Rattle.pst_tree.specs.declared.sites.ActionSite.{ActionSite}
use Rattle.pst_tree.specs.Bases.{with_bases}
use Rattle.pst_tree.specs.InheritedFound.{site_of}
use Rattle.pst_tree.proofs.ContentFound.{content_found, concrete_found}
use Rattle.pst_bind.specs.Needs.{Need, is_performed, needs}
use Rattle.pst_bind.specs.ListedNeeds.{added_by, is_performed_by, needs_from, needs_found}

-- a declaration where one has to stand
abbrev pub blank : Declaration
blank = record { name = record { id = record { 0 = 0 }; place = record { file = 0; line = 0; column = 0 } }; scope = Files; inside = None; sort = Component }

abbrev pub number_of : ℕ × Instance → ℕ
number_of x = x.0

pub home_more : (f : ℕ → List Need) (at : ℕ) (i : Instance) (home : Bool) (rest : List (ℕ × Instance))
    → flat_map f (map (λ (x : ℕ × Instance). x.0) (cond home ((at, i) ∷ rest) rest)) ≡ cond home (f at) [] ++ flat_map f (map (λ (x : ℕ × Instance). x.0) rest)
home_more f at i true rest = refl
home_more f at i false rest = refl

module _ (sites : List ActionSite) (ds : List Declaration) (instances : List Instance) where
  abbrev all_from : List (ℕ × Declaration) → List Need
  all_from numbered = needs_from sites ds instances numbered

  one_kept : (p : Bool) (x : ℕ × Declaration) (rest : List (ℕ × Declaration))
      → flat_map (λ (y : ℕ × Declaration). added_by ds instances y.0 y.1) (cond p (x ∷ rest) rest) ≡ cond p (added_by ds instances x.0 x.1) [] ++ flat_map (λ (y : ℕ × Declaration). added_by ds instances y.0 y.1) rest
  one_kept true x rest = refl
  one_kept false x rest = refl

  by_sort : (a : Bool) (n : ℕ) (d : Declaration) (xs : List Declaration)
      → all_from (enumerate_from n (cond a (d ∷ xs) xs)) ≡ cond a (cond (is_performed_by sites ds d) (added_by ds instances n d) []) [] ++ all_from (enumerate_from (cond a (n + 1) n) xs)
  by_sort true n d xs = one_kept (is_performed_by sites ds d) (n, d) (filter (λ (x : ℕ × Declaration). is_performed_by sites ds x.1) (enumerate_from (n + 1) xs))
  by_sort false n d xs = refl

  -- an action type takes the next number
  pub numbered_step : (i n : ℕ) → i < length ds
      → all_from (enumerate_from n (those_that is_action (drop i ds)))
      ≡ cond (is_action (get_or ds i blank).sort) (cond (is_performed_by sites ds (get_or ds i blank)) (added_by ds instances n (get_or ds i blank)) []) []
      ++ all_from (enumerate_from (cond (is_action (get_or ds i blank).sort) (n + 1) n) (those_that is_action (drop (i + 1) ds)))
  numbered_step i n within =
      ap (λ (xs : List Declaration). all_from (enumerate_from n (those_that is_action xs))) (drop_more ds i blank within) ∙ by_sort (is_action (get_or ds i blank).sort) n (get_or ds i blank) (those_that is_action (drop (i + 1) ds))

  -- by a list of declarations, however it is told
  abbrev Steps : List Declaration → Type 0
  Steps xs =
      (i n next : ℕ) → i < length xs → next ≡ cond (is_action (get_or xs i blank).sort) (n + 1) n
      → all_from (enumerate_from n (those_that is_action (drop i ds)))
      ≡ cond (is_action (get_or xs i blank).sort) (cond (is_performed_by sites ds (get_or xs i blank)) (added_by ds instances n (get_or xs i blank)) []) []
      ++ all_from (enumerate_from next (those_that is_action (drop (i + 1) ds)))

  steps_here : Steps ds
  steps_here i n next within is_next =
      let d = get_or ds i blank in
      let rest = those_that is_action (drop (i + 1) ds) in
      numbered_step i n within
      ∙ ap (λ (m : ℕ). cond (is_action d.sort) (cond (is_performed_by sites ds d) (added_by ds instances n d) []) [] ++ all_from (enumerate_from m rest)) (sym is_next)

  pub numbered_in : (xs : List Declaration) → xs ≡ ds → Steps xs
  numbered_in xs e = subst Steps (sym e) steps_here

-- ---- by the sources

module _ (units : List UnitTree) (instances : List Instance) where
  abbrev ds : List Declaration
  ds = declarations units

  abbrev sites : List ActionSite
  sites = map site_of (actions units)

  performed : (d : Declaration) → is_performed_by sites ds d ≡ is_performed units d
  performed d = λ i. concrete_found units d i && not (content_found units (with_bases ds d) i)

  pub needs_are : needs_found sites ds instances ≡ needs units instances
  needs_are =
      ap (λ (xs : List (ℕ × Declaration)). flat_map (λ (x : ℕ × Declaration). added_by ds instances x.0 x.1) xs)
      (filter_agree (λ (x : ℕ × Declaration). is_performed_by sites ds x.1) (λ (x : ℕ × Declaration). is_performed units x.1) (λ x. performed x.1) (enumerate_from 0 (those_that is_action ds)))
