use Rattle.std.proofs.Common.{◌≡◌, List, map, subst, ap, sym, ◌∙◌}
use Rattle.std.specs.Prelude.{Some, None}
use Rattle.pst_ast.specs.DeclarationView.{view_unit}
use Rattle.pst_ast.specs.declared.scope_declaration.Declaration.{Declaration}
use Rattle.pst_ast.specs.Declarations.{declarations}
use Rattle.pst_ast.specs.NameRules.{Reaches}
use Rattle.std.specs.List.{Contains}
use Rattle.pst_tree.specs.Instances.{root_of}
use Rattle.pst_tree.specs.Found.{AreTyped}
use Rattle.pst_tree.specs.Lasts.{lasts_from}
use Rattle.pst_tree.specs.Walked.{AreWalked}
use Rattle.pst_tree.proofs.Typed.{found_many, found_all, found_few}
use Rattle.pst_tree.proofs.sources.instances_in.Goals as goal

pub returns-in-None : goal.returns-in-None
returns-in-None c =
    let units = map view_unit c.args.units.now in
    let names = c.args.names.now in
    let ds = declarations units in
    let root : root_of names ds ≡ Some c.in-Some.root = subst (λ (xs : List Declaration). root_of names xs ≡ Some c.in-Some.root) c.requires.declared (sym c.root_of.ensures ∙ c.in-Some.is) in
    let typed : AreTyped ds = subst AreTyped c.requires.declared (c.are_typed.ensures c.if-not-are_typed.false) in
    let never = subst (λ (xs : List Declaration). (d : Declaration) → Contains xs d → Reaches xs d d → ⊥) c.requires.declared c.requires.no_loops in
    let walked : AreWalked ds c.in-Some.root None =
    subst (λ (xs : List Declaration). AreWalked xs c.in-Some.root None) c.requires.declared (subst (AreWalked c.args.index.now c.in-Some.root) c.in-None.is c.in_ok-walk.ensures) in
    found_many units names c.in-Some.root root typed never walked

pub returns : goal.returns
returns c =
    let units = map view_unit c.args.units.now in
    let names = c.args.names.now in
    let ds = declarations units in
    let root : root_of names ds ≡ Some c.in-Some.root = subst (λ (xs : List Declaration). root_of names xs ≡ Some c.in-Some.root) c.requires.declared (sym c.root_of.ensures ∙ c.in-Some.is) in
    let typed : AreTyped ds = subst AreTyped c.requires.declared (c.are_typed.ensures c.if-not-are_typed.false) in
    let never = subst (λ (xs : List Declaration). (d : Declaration) → Contains xs d → Reaches xs d d → ⊥) c.requires.declared c.requires.no_loops in
    let listed = c.in-Some-2.listed in
    let walked : AreWalked ds c.in-Some.root (Some listed) =
    subst (λ (xs : List Declaration). AreWalked xs c.in-Some.root (Some listed)) c.requires.declared (subst (AreWalked c.args.index.now c.in-Some.root) c.in-Some-2.is c.in_ok-walk.ensures) in
    let lasts : c.in_ok-instances-in-Some-2.instances.items ≡ lasts_from 0 listed.items = c.in_ok-instances-in-Some-2.ensures ∙ ap (lasts_from 0) c.as_slice-in-Some-2.ensures.value in (
      found_all units names c.in-Some.root root typed never listed.items c.in_ok-instances-in-Some-2.instances.items walked.0 lasts,
      found_few units names c.in-Some.root root typed never listed.items c.in_ok-instances-in-Some-2.instances.items walked.0 lasts walked.1,
    )
