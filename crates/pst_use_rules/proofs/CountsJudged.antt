-- What is found of counts is the least of what they break.
use Rattle.std.proofs.Common.{◌≡◌, ℕ, zero, suc, ◌+◌, length, List, [], ◌∷◌, ◌++◌, Option, refl, sym, ap, subst, ◌∙◌, arith, true≢false}
use Rattle.std.specs.Prelude.{Some, None, is_some, slice_get}
use Rattle.std.specs.Option.{option_map}
use Rattle.pst_base.specs.declared.position.Place.{Place}
use Rattle.pst_ast.specs.ExpressionTree.{ExprTree}
use Rattle.pst_ast.specs.DeclarationTree.{UnitTree}
use Rattle.pst_model.specs.Limits.{most_branches}
use Rattle.pst_ast.specs.declared.referent.Finding.{Finding}
use Rattle.pst_ast.specs.Uses.{Uniques, Branches}
use Rattle.pst_type_rules.specs.Limits.{most_unique}
use Rattle.pst_type_rules.specs.Places.{expr_place}
use Rattle.pst_type_rules.specs.TypeRules.{UseBreaks, ManyItems, ManyBranches}
use Rattle.pst_name_rules.specs.Leasts.{IsLeastOf}
use Rattle.pst_use_rules.specs.Found.{too_many, unique_found, branches_found}
use Rattle.pst_use_rules.specs.Laws.{CountsAreJudged, IsBroken}
use Rattle.pst_use_rules.proofs.Told.{at, no_later, none_not}

-- what is told by something that may be there
of_option : {X : Type 0} (P : Finding → Type 0) (o : Option X) (f : X → Finding) → ((x : X) → o ≡ Some x → P (f x)) → ((g : Finding) → P g → (x : X) × (o ≡ Some x) × (g ≡ f x)) → IsLeastOf P (option_map f o)
of_option P None f to from = λ g has. none_not None (from g has).0 refl (from g has).1
of_option P (Some x) f to from = (to x refl, λ g has. no_later (f x) g (ap (option_or_else f (f x)) (from g has).1 ∙ sym (from g has).2))
  where
    option_or_else : {X : Type 0} → (X → Finding) → Finding → Option X → Finding
    option_or_else f g None = g
    option_or_else f g (Some x) = f x

-- an element, and what stands before it
split : {X : Type 0} (xs : List X) (n : ℕ) (x : X) → slice_get xs n ≡ Some x → (front : List X) × (more : List X) × (xs ≡ front ++ x ∷ more) × (length front ≡ n)
split [] n x is = absurd (none_not None x refl is)
split (y ∷ ys) zero x is = ([], ys, ap (λ (z : _). z ∷ ys) (some_is is), refl)
  where
    some_is : {X : Type 0} {a b : X} → Some a ≡ Some b → a ≡ b
    some_is e = cc
split (y ∷ ys) (suc n) x is = let s = split ys n x is in (y ∷ s.0, s.1, ap (λ (zs : List _). y ∷ zs) s.2, ap suc s.3)

joined : {X : Type 0} (front : List X) (x : X) (more : List X) → slice_get (front ++ x ∷ more) (length front) ≡ Some x
joined [] x more = refl
joined (y ∷ front) x more = joined front x more

there : {X : Type 0} (xs front more : List X) (x : X) (n : ℕ) → xs ≡ front ++ x ∷ more → length front ≡ n → slice_get xs n ≡ Some x
there xs front more x n is len = ap (λ (zs : List _). slice_get zs n) is ∙ ap (slice_get (front ++ x ∷ more)) (sym len) ∙ joined front x more

module _ (units : List UnitTree) (names : List (List ℕ)) where
  unique_told : (items : List ExprTree) (place : Place) (rule : ℕ) → UseBreaks units names (Uniques items) place rule → (e : ExprTree) × (slice_get items most_unique ≡ Some e) × (at place rule ≡ too_many (expr_place e))
  unique_told items place rule (ManyItems all front more item is len) = (item, there items front more item most_unique is len, refl)

  uniques : (items : List ExprTree) → IsLeastOf (IsBroken units names (Uniques items)) (unique_found items)
  uniques items =
      of_option (IsBroken units names (Uniques items)) (slice_get items most_unique) (λ e. too_many (expr_place e))
      (λ e is. let s = split items most_unique e is in ManyItems items s.0 s.1 e s.2 s.3)
      (λ g has. unique_told items g.place g.rule has)

  branches_told : (places : List Place) (place : Place) (rule : ℕ) → UseBreaks units names (Branches places) place rule → (p : Place) × (slice_get places most_branches ≡ Some p) × (at place rule ≡ too_many p)
  branches_told places place rule (ManyBranches all front more branch is len) = (branch, there places front more branch most_branches is len, refl)

  branches : (places : List Place) → IsLeastOf (IsBroken units names (Branches places)) (branches_found places)
  branches places =
      of_option (IsBroken units names (Branches places)) (slice_get places most_branches) too_many
      (λ p is. let s = split places most_branches p is in ManyBranches places s.0 s.1 p s.2 s.3)
      (λ g has. branches_told places g.place g.rule has)

pub counts_are_judged : CountsAreJudged
counts_are_judged units names = (uniques units names, branches units names)
