-- The constants that are listed are those of the sources.
use Rattle.std.proofs.Common.{◌≡◌, ◌↔◌, ◌⊎◌, ⊎_elim, ℕ, ℤ, Bool, true, false, List, [], ◌∷◌, Option, refl, sym, ap, subst, ◌∙◌, true≢false}
use Rattle.std.specs.Prelude.{Some, None, Contains}
use Rattle.std.specs.List.{flat_map}
use Rattle.std.proofs.lemmas.List.Elements.{Contains-append_left, Contains-append_right, Contains-append_cases}
use Rattle.pst_base.specs.declared.position.Place.{Place}
use Rattle.pst_ast.specs.ExpressionTree.{ExprTree}
use Rattle.pst_ast.specs.DeclarationTree.{UnitTree}
use Rattle.pst_ast.specs.declared.environment.Environment.{Environment}
use Rattle.pst_ast.specs.Declarations.{declarations}
use Rattle.pst_ast.specs.Uses.{Use, Judges, Role, uses}
use Rattle.pst_type_rules.specs.Constants.{IsConstant}
use Rattle.pst_type_rules.specs.declared.typed.ConstantValue.{ConstantValue}
use Rattle.pst_type_rules.specs.Places.{expr_place}
use Rattle.pst_type_rules.specs.TypeRules.{is_constant}
use Rattle.pst_type_rules.specs.Typed.{AreInOrder, AreConstants, IsConstantOf}
use Rattle.pst_evaluate.specs.Kept.{constant_by}
use Rattle.pst_evaluate.specs.Laws.{ConstantsAreFound}
use Rattle.pst_evaluate.specs.Settled.{AreItemValues}
use Rattle.pst_typed_uses.specs.Judged.{constant_if}
use Rattle.pst_typed_uses.specs.Found.{constants_in}
use Rattle.pst_typed_uses.specs.InOrder.{HaveSame}
use Rattle.pst_typed_uses.proofs.Least.{none_in, cons_cases, cons_first, cons_rest}

in_flat_map : {X Y : Type 0} (f : X → List Y) (xs : List X) (x : X) (y : Y) → Contains xs x → Contains (f x) y → Contains (flat_map f xs) y
in_flat_map f [] x y among there = absurd (none_in x among)
in_flat_map f (z ∷ zs) x y among there = ⊎_elim
    (λ e. Contains-append_left (f z) (flat_map f zs) y (subst (λ w. Contains (f w) y) (sym e) there))
    (λ more. Contains-append_right (f z) (flat_map f zs) y (in_flat_map f zs x y more there))
    (cons_cases z x zs among)

flat_map_cases : {X Y : Type 0} (f : X → List Y) (xs : List X) (y : Y) → Contains (flat_map f xs) y → (x : X) × Contains xs x × Contains (f x) y
flat_map_cases f [] y there = absurd (none_in y there)
flat_map_cases f (z ∷ zs) y there = ⊎_elim
    (λ first. (z, cons_first z zs, first))
    (λ later. let more = flat_map_cases f zs y later in (more.0, cons_rest z more.0 zs more.1, more.2))
    (Contains-append_cases (f z) (flat_map f zs) y there)

-- a constant that is kept
kept : (test : Bool) (place : Place) (value : Option ℤ) (c : ConstantValue) → Contains (constant_if test place value) c → (test ≡ true) × (c.at ≡ place) × (value ≡ Some c.value)
kept true place (Some v) c there =
    ⊎_elim (λ e. (refl, sym (ap (λ (d : ConstantValue). d.at) e), ap (λ (d : ConstantValue). Some d.value) e)) (λ never. absurd (none_in c never)) (cons_cases (record { at = place; value = v }) c [] there)
kept true place None c there = absurd (none_in c there)
kept false place value c there = absurd (none_in c there)

keeps : (test : Bool) (place : Place) (value : Option ℤ) (c : ConstantValue) → test ≡ true → c.at ≡ place → value ≡ Some c.value → Contains (constant_if test place value) c
keeps test place value c t at v =
    subst (λ (b : Bool). Contains (constant_if b place value) c) (sym t)
    (subst (λ (o : Option ℤ). Contains (constant_if true place o) c) (sym v)
    (subst (λ (p : Place). Contains (constant_if true p (Some c.value)) c) at (cons_first c [])))

module _ (law : ConstantsAreFound) (units : List UnitTree) (names : List (List ℕ)) (known : Place → Option ℤ) (are : AreItemValues units names known) where
  abbrev value_of : Environment → ExprTree → Option ℤ
  value_of at expr = constant_by (declarations units) names known at expr

  of_use : (u : Use) (c : ConstantValue) → Contains (uses units) u → Contains (constants_in units names known u) c → IsConstantOf units names c
  of_use (Judges here role expr) c among there =
      let k = kept (is_constant role) (expr_place expr) (value_of here expr) c there in
      record { environment = here; role = role; expr = expr; among = among; constant = k.0; at = k.1; value = (law units names known here expr c.value are).0 k.2 }
  of_use _ c among there = absurd (none_in c there)

  listed : (c : ConstantValue) → Contains (flat_map (constants_in units names known) (uses units)) c → IsConstantOf units names c
  listed c there = let (u, among, in_it) = flat_map_cases (constants_in units names known) (uses units) c there in of_use u c among in_it

  in_list : (c : ConstantValue) → IsConstantOf units names c → Contains (flat_map (constants_in units names known) (uses units)) c
  in_list c is =
      in_flat_map (constants_in units names known) (uses units) (Judges is.environment is.role is.expr) c is.among
      (keeps (is_constant is.role) (expr_place is.expr) (value_of is.environment is.expr) c is.constant is.at ((law units names known is.environment is.expr c.value are).1 is.value))

  pub are_constants : (found all : List ConstantValue) → all ≡ flat_map (constants_in units names known) (uses units) → AreInOrder found → HaveSame found all → AreConstants units names found
  are_constants found all is order same = record {
    order = order;
    each = λ c. (
      (λ has. listed c (subst (λ (cs : List ConstantValue). Contains cs c) is ((same c).0 has))),
      (λ has. (same c).1 (subst (λ (cs : List ConstantValue). Contains cs c) (sym is) (in_list c has))),
    );
  }
