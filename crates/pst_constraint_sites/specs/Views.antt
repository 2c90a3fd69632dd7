-- Sites, groups and meanings of the program.
use Rattle.std.specs.Prelude.{map}
use Rattle.pst_model.specs.ConstraintTree.{view_constraint}
use Rattle.pst_blanks.specs.Blanks.{read_blank}
use Rattle.pst_constraint_sites.specs.declared.site.Site.{Site}
use Rattle.pst_constraint_sites.specs.declared.site.Site.TheVariants as site
use Rattle.pst_constraint_sites.specs.declared.site.Group.{Group}
use Rattle.pst_constraint_sites.specs.declared.meaning.Meaning.{Meaning}
use Rattle.pst_constraint_sites.specs.declared.meaning.Meaning.TheVariants as meaning
use Rattle.pst_constraint_sites.specs.Sites.{SiteTree, AtNode, AtTraversal, AtAct, AtOutput, AtClaim, AtFirst}
use Rattle.pst_constraint_sites.specs.Senses.{Sense, Value, InBlank, Nothing, Untold}
use Rattle.pst_constraint_sites.specs.Groups.{GroupTree}

abbrev pub view_site : Site → SiteTree
view_site (site.Node node) = AtNode node
view_site (site.Traversal node top indices) = AtTraversal node top indices.items
view_site (site.Act act) = AtAct act
view_site (site.Output act reference) = AtOutput act reference
view_site (site.Claim act claim) = AtClaim act claim
view_site (site.First pool) = AtFirst pool

abbrev pub view_group : Group → GroupTree
view_group g = record { site = view_site g.site; constraints = map view_constraint g.constraints.now }

abbrev pub sense_of : Meaning → Sense
sense_of (meaning.Value v) = Value v
sense_of (meaning.Blank blank) = InBlank (read_blank blank)
sense_of meaning.Nothing = Nothing
sense_of meaning.Untold = Untold
