use Rattle.pst_built.proofs.Filled.{fill_root, whole_fills_root}
use Rattle.pst_built.proofs.laws.activities_fill_their_root.Goals as goal

pub returns-clause-activity : goal.returns-clause-activity
returns-clause-activity c = fill_root c.domains_list_values.ensures

pub returns-clause-whole : goal.returns-clause-whole
returns-clause-whole c = whole_fills_root c.domains_list_values.ensures
