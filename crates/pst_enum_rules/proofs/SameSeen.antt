-- What items break depends on which values have been seen, and not on how that is known.
use Rattle.std.proofs.Common.{◌≡◌, ◌||◌, Bool, false, List, [], ◌∷◌, Option, refl, ap, ◌∙◌}
use Rattle.std.specs.Prelude.{ℤ, Some, None}
use Rattle.std.specs.Option.{option_map_or}
use Rattle.pst_base.specs.declared.position.Place.{Place}
use Rattle.pst_ast.specs.DeclarationTree.{EnumItemTree}
use Rattle.pst_ast.specs.declared.referent.Finding.{Finding}
use Rattle.pst_name_rules.specs.Earlier.{earlier}
use Rattle.pst_enum_rules.specs.Enums.{is_value, least_of_items, name_place, seen_finding, tree_finding}

same_answer : (s t : ℤ → Bool) → ((v : ℤ) → s v ≡ t v) → (value : Option ℤ) → option_map_or s value false ≡ option_map_or t value false
same_answer s t same None = refl
same_answer s t same (Some v) = same v

module _ (known : Place → Option ℤ) where
  same_least : (s t : ℤ → Bool) (least found : Option Finding) (items : List EnumItemTree) → ((v : ℤ) → s v ≡ t v) → least ≡ found → least_of_items known s least items ≡ least_of_items known t found items
  same_least s t least found [] same is = is
  same_least s t least found (item ∷ more) same is =
      same_least (λ v. is_value (known (name_place item)) v || s v) (λ v. is_value (known (name_place item)) v || t v) (earlier least (seen_finding known s item)) (earlier found (seen_finding known t item)) more
      (λ v. ap (λ (b : Bool). is_value (known (name_place item)) v || b) (same v))
      (ap (λ (f : Option Finding). earlier f (seen_finding known s item)) is
      ∙ ap (λ (b : Bool). earlier found (tree_finding (known (name_place item)) b item)) (same_answer s t same (known (name_place item))))

  pub same_seen : (s t : ℤ → Bool) (least : Option Finding) (items : List EnumItemTree) → ((v : ℤ) → s v ≡ t v) → least_of_items known s least items ≡ least_of_items known t least items
  same_seen s t least items same = same_least s t least least items same refl

  -- one item more
  pub one_item : (s t : ℤ → Bool) (least found : Option Finding) (item : EnumItemTree) (more : List EnumItemTree) → ((v : ℤ) → t v ≡ (is_value (known (name_place item)) v || s v))
      → found ≡ earlier least (seen_finding known s item) → least_of_items known t found more ≡ least_of_items known s least (item ∷ more)
  one_item s t least found item more same is = same_least t (λ v. is_value (known (name_place item)) v || s v) found (earlier least (seen_finding known s item)) more same is
