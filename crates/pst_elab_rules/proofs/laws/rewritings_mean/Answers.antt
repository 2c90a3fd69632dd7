use Rattle.pst_elab_rules.proofs.Meaning.{unique, where_true, where_false, never_by_none, else_where_false, else_where_true, each}
use Rattle.pst_elab_rules.proofs.Inside.{inside}
use Rattle.pst_elab_rules.proofs.laws.rewritings_mean.Goals as goal

pub returns : goal.returns
returns c = record {
  inside = λ f read x v ranges spans known are. inside f read x v known ranges spans are;
  unique = unique;
  where_true = λ f c set v e h. where_true f c set v e h;
  where_false = λ f c set e. where_false f c set e;
  without_value = λ f c term e has. never_by_none f c term e has;
  else_where_false = λ f c set e. else_where_false f c set e;
  else_where_true = λ f c set v e h. else_where_true f c set v e h;
  each = λ f set n. each f set n;
}
