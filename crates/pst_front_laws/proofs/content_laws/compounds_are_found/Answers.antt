use Rattle.pst_front_laws.proofs.Contents.{compounds_are_found}
use Rattle.pst_front_laws.proofs.content_laws.compounds_are_found.Goals as goal

pub returns : goal.returns
returns c = compounds_are_found
