-- The least of what declarations break, each counted with its base.
use Rattle.std.specs.Prelude.{◌≡◌, List, map, Option, None}
use Rattle.std.specs.List.{Contains, filter}
use Rattle.std.specs.Option.{option_map}
use Rattle.pst_ast.specs.declared.scope_declaration.Declaration.{Declaration}
use Rattle.pst_ast.specs.declared.referent.Finding.{Finding}
use Rattle.pst_type_rules.specs.Limits.{is_local_of}
use Rattle.pst_type_rules.specs.Members.{own_members}
use Rattle.pst_type_rules.specs.Sites.{action_at}
use Rattle.pst_name_rules.specs.Leasts.{IsIn, IsLeastOf, least_at}
use Rattle.pst_declaration_rules.specs.declared.member.Member.{Member}
use Rattle.pst_declaration_rules.specs.declared.shape.Shape.{Shape}
use Rattle.pst_declaration_rules.specs.declared.sources.TypeSources.{TypeSources}
use Rattle.pst_declaration_rules.specs.declared.tally.Tally.{Tally}
use Rattle.pst_declaration_rules.specs.Findings.{findings}
use Rattle.pst_declaration_rules.specs.Shapes.{shape_of}
use Rattle.pst_declaration_rules.specs.Tallied.{IsStart, adding, units_of}

-- a type's own members
abbrev pub own_of : TypeSources → Declaration → List Member
own_of k d = map (adding k) (own_members k.index.now d)

-- the locals in the text of an action
abbrev pub locals_of : TypeSources → Declaration → List Member
locals_of k d = map (adding k) (filter (is_local_of d) k.index.now)

abbrev pub shape_in : TypeSources → Declaration → Option Shape
shape_in k d = option_map shape_of (action_at (units_of k) d.name.place)

-- what a declaration breaks, given the counts of its base
abbrev pub findings_at : TypeSources → Declaration → Tally → List (Option Finding)
findings_at k d start = findings k.index.now d start (own_of k d) (locals_of k d) (shape_in k d)

unfoldable pub least_finding : TypeSources → Declaration → Tally → Option Finding
least_finding k d start = least_at (λ o. o) (findings_at k d start) None

-- it is the least of what a declaration breaks
abbrev pub IsOwnFinding : TypeSources → Declaration → Option Finding → Type 0
IsOwnFinding k d found = (start : Tally) × IsStart k d start × (found ≡ least_finding k d start)

-- a declaration breaks that, its bases apart
abbrev pub BreaksItself : TypeSources → Declaration → Finding → Type 0
BreaksItself k d f = (start : Tally) × IsStart k d start × IsIn (λ o. o) (findings_at k d start) f

-- it is the least of what declarations break
pub record IsJudged (k : TypeSources) (ds : List Declaration) (least : Option Finding) : Type 0 where
  pub is_least : IsLeastOf (λ f. (d : Declaration) × Contains ds d × BreaksItself k d f) least
  pub starts : (d : Declaration) → Contains ds d → (start : Tally) × IsStart k d start
