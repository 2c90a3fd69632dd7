-- The actions that have constraints in their own text, and what is listed by such bases.
use Rattle.std.specs.Prelude.{◌≡◌, Bool, List, map, is_some}
use Rattle.std.specs.List.{filter, filter_map}
use Rattle.pst_ast.specs.ConstraintTree.{ConstraintDeclarationTree}
use Rattle.pst_ast.specs.DeclarationTree.{ActionPartTree}
use Rattle.pst_elab_rules.specs.Types.{constraint_in}
use Rattle.pst_type_rules.specs.Sites.{DeclaredAction, actions}
use Rattle.pst_tree.specs.Contents.{first_of}
use Rattle.pst_marked_bases.specs.Shown.{Shown}
use Rattle.pst_contents.specs.Marks.{content_bases}
use Rattle.pst_terms.specs.Sources.{Sources, declared_in}
use Rattle.pst_model_types.specs.declared.bases.ActionBases.{ActionBases}

-- whether some of the parts of an action are constraints
abbrev pub have_constraint : List ActionPartTree → Bool
have_constraint parts = is_some (first_of (filter_map constraint_in parts))

abbrev pub has_constraint : DeclaredAction → Bool
has_constraint a = have_constraint a.parts

-- these actions are marked
abbrev pub constraint_bases : Sources → Shown
constraint_bases s = record { places = map (λ a. a.name.place) (filter has_constraint (actions s.units)); declared = declared_in s }

-- what is listed by the bases of the actions of sources
pub record AreBasesOf (s : Sources) (b : ActionBases) : Type 0 where
  pub constraints : b.constraints ≡ constraint_bases s
  pub contents : b.contents ≡ content_bases s
