-- Roots by their parts.
use Rattle.std.proofs.Common.{◌≡◌, ℕ, ◌+◌, List, [], ◌∷◌, refl, ap, ◌∙◌, Bool, true, false, map}
use Rattle.std.specs.Prelude.{Option, Some, None, if◌then◌else◌, ◌||◌, ◌&&◌}
use Rattle.std.specs.List.{filter, list_any, enumerate_from}
use Rattle.std.specs.Option.{option_map_or, option_and_then}
use Rattle.pst_ast.specs.declared.instance.Instance.{Instance}
use Rattle.pst_ast.specs.DeclarationTree.{UnitTree}
use Rattle.pst_ast.specs.declared.scope_declaration.Declaration.{Declaration}
use Rattle.pst_ast.specs.Declarations.{declarations}
use Rattle.pst_ast.specs.Lookups.{declared_at, is_text}
use Rattle.pst_bind.specs.Needs.{is_concrete, is_home, homes_of}
use Rattle.pst_elab_rules.specs.Ends.{is_filled, is_root}
use Rattle.pst_source_rules.specs.Rooted.{has_home_in, is_named_root}

one : (b : Bool) (n : ℕ) (x : Instance) (rest : List (ℕ × Instance)) (any : Bool) → is_filled (map (λ (y : ℕ × Instance). y.0) rest) ≡ any
    → is_filled (map (λ (y : ℕ × Instance). y.0) (if b then (n, x) ∷ rest else rest)) ≡ (b || any)
one true n x rest any e = refl
one false n x rest any e = e

filled : (f : Instance → Bool) (n : ℕ) (xs : List Instance) → is_filled (map (λ (y : ℕ × Instance). y.0) (filter (λ (y : ℕ × Instance). f y.1) (enumerate_from n xs))) ≡ list_any f xs
filled f n [] = refl
filled f n (x ∷ xs) = one (f x) n x (filter (λ (y : ℕ × Instance). f y.1) (enumerate_from (n + 1) xs)) (list_any f xs) (filled f (n + 1) xs)

turned : (a b c d : Bool) → (a && (b && (c && d))) ≡ (((a && b) && c) && d)
turned true true c d = refl
turned true false c d = refl
turned false b c d = refl

by_component : (o : Option Declaration) (text : Declaration → Bool) (own concrete home : Bool) → (option_map_or text o false && (own && (concrete && home))) ≡ ((option_map_or (λ c. text c && own) o false && concrete) && home)
by_component None text own concrete home = refl
by_component (Some c) text own concrete home = turned (text c) own concrete home

pub root_is : (units : List UnitTree) (names : List (List ℕ)) (instances : List Instance) (component action : List ℕ) (d : Declaration)
    → is_root units names instances component action d ≡ ((is_named_root (declarations units) names component action d && is_concrete units d) && has_home_in (declarations units) instances d)
root_is units names instances component action d =
    let ds = declarations units in
    by_component (option_and_then (declared_at ds) d.inside) (λ c. is_text names component c.name.id) (is_text names action d.name.id) (is_concrete units d) (is_filled (homes_of ds instances d))
    ∙ ap (λ (home : Bool). (is_named_root ds names component action d && is_concrete units d) && home) (filled (is_home ds d) 0 instances)
