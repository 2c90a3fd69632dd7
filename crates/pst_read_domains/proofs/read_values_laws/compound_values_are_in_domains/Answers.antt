use Rattle.pst_read_domains.proofs.ReadValuesWhole.{compounds_valued}
use Rattle.pst_read_domains.proofs.read_values_laws.compound_values_are_in_domains.Goals as goal

pub returns : goal.returns
returns c = compounds_valued c.domains_list_values.ensures
