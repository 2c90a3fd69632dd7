use Rattle.pst_elab_rules.proofs.One.{no_breach, not_many, many_alone, same_root}
use Rattle.pst_elab_rules.proofs.laws.answers_are_apart.Goals as goal

pub returns : goal.returns
returns c = record {
  no_breach = no_breach c.instances_are_one.ensures;
  not_many = not_many c.instances_are_one.ensures;
  many_alone = many_alone c.instances_are_one.ensures;
  one_answer = λ units names component action model other root number one two. (
    c.models_are_one.ensures units names model other one.is_model two.is_model,
    same_root c.instances_are_one.ensures units names component action root number one.instances two.instances one.are two.are one.is_root two.is_root,
  );
}
