use Rattle.pst_type_members.specs.Listed.{is_of}
use Rattle.pst_type_members.proofs.Listing.{handles_within, if_ok, others_within}
use Rattle.pst_type_members.proofs.rows.Members.bases_of.Goals as goal

pub returns-in-Handle : goal.returns-in-Handle
returns-in-Handle c = if_ok c.bases_with.result (λ v listed. listed (is_of c.args.by) (handles_within c.args.by c.in-Handle.is)) c.bases_with.ensures

pub returns-in_default : goal.returns-in_default
returns-in_default c = if_ok c.bases_with-in_default.result (λ v listed. listed (is_of c.args.by) (others_within c.args.by c.in_default.not-Handle)) c.bases_with-in_default.ensures
