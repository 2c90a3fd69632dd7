use Rattle.pst_trials.proofs.OwnClaimsTried.{reads_locks, reads_shares, locks_clash, shares_agree, locks_are_illegal, shares_are_legal}
use Rattle.pst_trials.proofs.own_claims_are_tried.Goals as goal

pub returns : goal.returns
returns c = record {
  reads_locks = reads_locks;
  reads_shares = reads_shares;
  locks_clash = locks_clash;
  shares_agree = shares_agree;
  locks_are_illegal = locks_are_illegal;
  shares_are_legal = shares_are_legal;
}
