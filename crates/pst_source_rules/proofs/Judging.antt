-- All rules, by what each part says.
use Rattle.std.proofs.Common.{◌≡◌, ℕ, ◌≤◌, List, length}
use Rattle.std.specs.Prelude.{Ok, Err}
use Rattle.pst_base.specs.declared.position.Place.{Place}
use Rattle.pst_ast.specs.declared.instance.Instance.{Instance}
use Rattle.pst_ast.specs.DeclarationTree.{UnitTree}
use Rattle.pst_elab_rules.specs.declared.end.ElabEnd.TheVariants as the_end
use Rattle.pst_elab_rules.specs.Ends.{AreTyped, InNames, InTypes, AtLast}
use Rattle.pst_evaluate.specs.Kept.{known_in}
use Rattle.pst_evaluate.specs.Settled.{AreItemValues}
use Rattle.pst_names.specs.declared.end.RuleEnd.TheVariants as rule_end
use Rattle.pst_names.specs.Resolved.{IsUnresolved}
use Rattle.pst_ast.specs.Breaches.{IsNone}
use Rattle.pst_ast.specs.NameRules.{NameBreach}
use Rattle.pst_tree.specs.Found.{AreMany}
use Rattle.pst_tree.specs.Instances.{AreInstances}
use Rattle.pst_type_rules.specs.Typed.{AreConstants}
use Rattle.pst_type_rules.specs.TypeRules.{TypeBreach}
use Rattle.pst_types.specs.Checked.{IsUntyped}
use Rattle.pst_source_rules.specs.declared.judged.Judged.{Judged}
use Rattle.pst_source_rules.specs.Judged.{IsLast, IsJudged, IsEnd}

module _ (units : List UnitTree) (names : List (List ℕ)) (component action : List ℕ) where
  pub typed_is : IsNone (NameBreach units names) → IsNone (TypeBreach units names) → AreTyped units names
  typed_is named typed = record { names_right = named; types_right = typed }

  pub judged_is : (j : Judged) → AreTyped units names → AreConstants units names j.typed.constants → AreItemValues units names (known_in j.values) → AreInstances units names j.tree.instances → length j.tree.instances ≤ 256
      → IsLast units names j.tree.instances component action (Ok (j.pools, j.root)) → IsJudged units names component action j
  judged_is j typed constants values are few last = record { typed = typed; constants = constants; values = values; instances = are; few = few; pooled = last.0; last = last.1; is_root = last.2 }

  pub broken_at_last : (instances : List Instance) (place : Place) (rule : ℕ) → AreTyped units names → AreInstances units names instances → length instances ≤ 256
      → IsLast units names instances component action (Err (record { place = place; rule = rule })) → IsEnd units names component action (the_end.Broken place rule)
  broken_at_last instances place rule typed are few least = AtLast instances typed are few least

  pub many_is : (count : ℕ) → AreTyped units names → count ≡ 257 → AreMany units names → IsEnd units names component action (the_end.Many count)
  many_is count typed is many = (is, record { typed = typed; instances = many.instances; are = many.are; many = many.many })

  pub broken_in_types : (place : Place) (rule : ℕ) → IsNone (NameBreach units names) → IsUntyped units names (rule_end.Broken place rule) → IsEnd units names component action (the_end.Broken place rule)
  broken_in_types place rule named least = InTypes named least

  pub broken_in_names : (place : Place) (rule : ℕ) → IsUnresolved units names (rule_end.Broken place rule) → IsEnd units names component action (the_end.Broken place rule)
  broken_in_names place rule least = InNames least
