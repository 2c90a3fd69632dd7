-- The end of the last file, where no file has the component `pss_top`.
use Rattle.std.proofs.Common.{◌≡◌, inr, ℕ, zero, suc, ◌-◌, Bool, true, false, List, [], ◌∷◌, ◌++◌, length, map, Option, refl, sym, ap, subst, ◌∙◌, arith, true≢false}
use Rattle.std.specs.Prelude.{Some, None, slice_get}
use Rattle.std.specs.List.{list_any}
use Rattle.std.specs.Option.{option_map}
use Rattle.std.proofs.lemmas.List.{length-append, length-map}
use Rattle.pst_ast.specs.declared.declaration.Unit.{Unit}
use Rattle.pst_ast.specs.DeclarationTree.{UnitTree}
use Rattle.pst_ast.specs.DeclarationView.{view_unit}
use Rattle.pst_ast.specs.declared.referent.Finding.{Finding}
use Rattle.pst_ast.specs.Declarations.{declarations}
use Rattle.pst_ast.specs.NameRules.{is_root_component, finish_of}
use Rattle.pst_name_rules.specs.Leasts.{IsLeastOf}
use Rattle.pst_names.specs.Resolved.{IsRootless, last_finish, root_finding}
use Rattle.pst_name_rules.proofs.Leasts.{same_some}

got_mapped : {X Y : Type 0} (f : X → Y) (xs : List X) (i : ℕ) → slice_get (map f xs) i ≡ option_map f (slice_get xs i)
got_mapped f [] i = refl
got_mapped f (x ∷ xs) zero = refl
got_mapped f (x ∷ xs) (suc i) = got_mapped f xs i

mapped_twice : {X Y Z : Type 0} (f : X → Y) (g : Y → Z) (o : Option X) → option_map g (option_map f o) ≡ option_map (λ x. g (f x)) o
mapped_twice f g None = refl
mapped_twice f g (Some x) = refl

abbrev finish : UnitTree → Finding
finish u = record { place = finish_of u; rule = 8 }

-- the finish of the last of some units that are seen as trees
pub finish_seen : (us : List Unit) → last_finish (map view_unit us) ≡ option_map (λ u. record { place = u.finish.place; rule = 8 }) (slice_get us (length us - 1))
finish_seen us =
    ap (λ (n : ℕ). option_map finish (slice_get (map view_unit us) (n - 1))) (length-map us view_unit)
    ∙ ap (λ (o : Option UnitTree). option_map finish o) (got_mapped view_unit us (length us - 1))
    ∙ mapped_twice view_unit finish (slice_get us (length us - 1))

at_end : (front : List UnitTree) (last : UnitTree) → slice_get (front ++ last ∷ []) (length front) ≡ Some last
at_end [] last = refl
at_end (u ∷ us) last = at_end us last

last_got : (front : List UnitTree) (last : UnitTree) → slice_get (front ++ last ∷ []) (length (front ++ last ∷ []) - 1) ≡ Some last
last_got front last = ap (λ (n : ℕ). slice_get (front ++ last ∷ []) n) (omega (arith, length-append front (last ∷ []))) ∙ at_end front last

last_finished : (units front : List UnitTree) (last : UnitTree) → units ≡ front ++ last ∷ [] → last_finish units ≡ Some (finish last)
last_finished units front last split = ap last_finish split ∙ ap (λ (o : Option UnitTree). option_map finish o) (last_got front last)

split_last : (u : UnitTree) (us : List UnitTree) → (front : List UnitTree) × (last : UnitTree) × (u ∷ us ≡ front ++ last ∷ [])
split_last u [] = ([], u, refl)
split_last u (v ∷ vs) = let more = split_last v vs in (u ∷ more.0, more.1, ap (λ (l : List UnitTree). u ∷ l) more.2)

no_front : (front : List UnitTree) (last : UnitTree) → [] ≡ front ++ last ∷ [] → ⊥
no_front front last e = absurd (omega (arith, ap length e, length-append front (last ∷ [])))

by_units : (names : List (List ℕ)) (units : List UnitTree) → list_any (is_root_component names) (declarations units) ≡ false → (all : List UnitTree) → all ≡ units → IsLeastOf (IsRootless units names) (last_finish all)
by_units names units none [] e = λ f has. no_front has.0 has.1 (e ∙ has.2)
by_units names units none (u ∷ us) e =
    let (front, last, split) = split_last u us in
    subst (IsLeastOf (IsRootless units names)) (sym (last_finished (u ∷ us) front last split)) (
      (front, last, sym e ∙ split, none, refl),
      λ g (other, end, parts, rootless, is). inr (ap (λ (f : Finding). f.place) (same_some (sym (last_finished (u ∷ us) front last split) ∙ last_finished (u ∷ us) other end (e ∙ parts)) ∙ sym is), omega (arith, ap (λ (f : Finding). f.rule) is)),
    )

by_root : (units : List UnitTree) (names : List (List ℕ)) (has : Bool) → list_any (is_root_component names) (declarations units) ≡ has → IsLeastOf (IsRootless units names) (root_finding has units)
by_root units names true is = λ f (front, last, split, none, at). absurd (true≢false (sym is ∙ none))
by_root units names false is = by_units names units is units refl

pub least_rootless : (units : List UnitTree) (names : List (List ℕ)) → IsLeastOf (IsRootless units names) (root_finding (list_any (is_root_component names) (declarations units)) units)
least_rootless units names = by_root units names (list_any (is_root_component names) (declarations units)) refl
