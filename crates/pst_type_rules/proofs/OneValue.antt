-- An enum item, and an expression, has at most one value.
use Rattle.std.proofs.Common.{◌≡◌, refl, sym, subst, ap, ◌∙◌}
use Rattle.std.specs.Prelude.{ℕ, ℤ, pos, List, Option, Some, None, option_and_then}
use Rattle.std.specs.Option.{unwrap_or}
use Rattle.pst_base.specs.declared.position.Place.{Place}
use Rattle.pst_ast.specs.declared.leaf.Name.{Name}
use Rattle.pst_ast.specs.ExpressionTree.{ExprTree}
use Rattle.pst_ast.specs.DeclarationTree.{UnitTree}
use Rattle.pst_num.specs.Arithmetic.{sum_of}
use Rattle.pst_ast.specs.declared.scope_declaration.Declaration.{Declaration}
use Rattle.pst_ast.specs.declared.environment.Environment.{Environment}
use Rattle.pst_ast.specs.declared.referent.Owner.TheVariants.{Nobody}
use Rattle.pst_ast.specs.Declarations.{declarations}
use Rattle.pst_ast.specs.Uses.{environment}
use Rattle.pst_type_rules.specs.Enums.{DeclaredItem, item_at}
use Rattle.pst_type_rules.specs.Constants.{item_of_path, value_by, IsItemValue, First, Next, Given, HasValue}
use Rattle.pst_type_rules.proofs.Agreeing.{Agree, to_agree, from_agree, value_agrees}

-- values that agree at the item that a path names
path_agrees : (f g : Place → Option ℤ) → ((p : Place) → Agree (f p) (g p)) → (d : Option Declaration)
    → Agree (option_and_then (λ d. f d.name.place) d) (option_and_then (λ d. g d.name.place) d)
path_agrees f g h None = tt
path_agrees f g h (Some d) = h d.name.place

-- where items have values that agree, so have expressions
by_agrees : (ds : List Declaration) (names : List (List ℕ)) (f g : Place → Option ℤ) (at : Environment) (e : ExprTree) → ((p : Place) → Agree (f p) (g p))
    → Agree (value_by ds names f at e) (value_by ds names g at e)
by_agrees ds names f g at e h = value_agrees _ _ (λ p. path_agrees f g h (item_of_path ds names at p)) e

pub some_is : {A : Type 0} (x y : A) → Some x ≡ Some y → x ≡ y
some_is x y e = ap (λ o. unwrap_or o x) e

same_found : {A : Type 0} (o : Option A) (x y : A) → o ≡ Some x → o ≡ Some y → x ≡ y
same_found o x y p q = some_is x y (sym p ∙ q)

abbrev IsNone : {A : Type 0} → Option A → Type 0
IsNone None = Unit {0}
IsNone (Some x) = ⊥

pub not_both : {A : Type 0} (o : Option A) (x : A) → o ≡ None → o ≡ Some x → ⊥
not_both o x p q = subst IsNone q (subst IsNone (sym p) tt)

module _ (units : List UnitTree) (names : List (List ℕ)) where
  abbrev Item : Place → ℤ → Type 0
  Item p v = IsItemValue units names p v

  -- one item is no other
  the_item : (p : Place) (i j : DeclaredItem) → item_at units p ≡ Some i → item_at units p ≡ Some j → j ≡ i
  the_item p i j a b = same_found (item_at units p) j i b a

  next_is : (v w m n : ℤ) → v ≡ w → sum_of v (pos 1) ≡ Some m → sum_of w (pos 1) ≡ Some n → m ≡ n
  next_is v w m n e p q = some_is m n (sym p ∙ (ap (λ (z : ℤ). sum_of z (pos 1)) e ∙ q))

  given_is : (i j : DeclaredItem) (e f : ExprTree) (known other : Place → Option ℤ) (v w : ℤ) → j ≡ i → f ≡ e → ((p : Place) → Agree (known p) (other p))
      → value_by (declarations units) names known (environment i.component Nobody) e ≡ Some v
      → value_by (declarations units) names other (environment j.component Nobody) f ≡ Some w → v ≡ w
  given_is i j e f known other v w same also h a b =
      from_agree _ _ v w (by_agrees (declarations units) names known other (environment i.component Nobody) e h) a
      (subst (λ (k : DeclaredItem). value_by (declarations units) names other (environment k.component Nobody) e ≡ Some w) same
      (subst (λ (x : ExprTree). value_by (declarations units) names other (environment j.component Nobody) x ≡ Some w) also b))

  pub item_value_is_one : (p : Place) (v w : ℤ) → Item p v → Item p w → v ≡ w
  item_value_is_one p v w (First _ i at none before) (First _ j there nothing behind) = refl
  item_value_is_one p v w (First _ i at none before) (Next _ j b x y there nothing behind d s) =
      absurd (not_both i.before b before (subst (λ (k : DeclaredItem). k.before ≡ Some b) (the_item p i j at there) behind))
  item_value_is_one p v w (First _ i at none before) (Given _ j e known x there given items value) =
      absurd (not_both i.expr e none (subst (λ (k : DeclaredItem). k.expr ≡ Some e) (the_item p i j at there) given))
  item_value_is_one p v w (Next _ i b x y at none before d s) (First _ j there nothing behind) =
      absurd (not_both i.before b (subst (λ (k : DeclaredItem). k.before ≡ None) (the_item p i j at there) behind) before)
  item_value_is_one p v w (Next _ i b x y at none before d s) (Next _ j c z u there nothing behind f t) =
      let same : c ≡ b = same_found i.before c b (subst (λ (k : DeclaredItem). k.before ≡ Some c) (the_item p i j at there) behind) before in
      next_is x z y u (item_value_is_one b.place x z d (subst (λ (n : Name). Item n.place z) same f)) s t
  item_value_is_one p v w (Next _ i b x y at none before d s) (Given _ j e known z there given items value) =
      absurd (not_both i.expr e none (subst (λ (k : DeclaredItem). k.expr ≡ Some e) (the_item p i j at there) given))
  item_value_is_one p v w (Given _ i e known x at given items value) (First _ j there nothing behind) =
      absurd (not_both i.expr e (subst (λ (k : DeclaredItem). k.expr ≡ None) (the_item p i j at there) nothing) given)
  item_value_is_one p v w (Given _ i e known x at given items value) (Next _ j b y z there nothing behind d s) =
      absurd (not_both i.expr e (subst (λ (k : DeclaredItem). k.expr ≡ None) (the_item p i j at there) nothing) given)
  item_value_is_one p v w (Given _ i e known x at given items value) (Given _ j f other y there also more result) =
      given_is i j e f known other x y (the_item p i j at there) (same_found i.expr f e (subst (λ (k : DeclaredItem). k.expr ≡ Some f) (the_item p i j at there) also) given)
      (λ q. to_agree (known q) (other q) (λ a b l r. item_value_is_one q a b (items q a l) (more q b r))) value result

  pub value_is_one : (at : Environment) (e : ExprTree) (v w : ℤ) → HasValue units names at e v → HasValue units names at e w → v ≡ w
  value_is_one at e v w one two =
      from_agree _ _ v w (by_agrees (declarations units) names one.known two.known at e (λ q. to_agree (one.known q) (two.known q) (λ a b l r. item_value_is_one q a b (one.items q a l) (two.items q b r))))
      one.value two.value
