use Rattle.std.proofs.Common.{ℕ, sym, ap, ◌∙◌, Option}
use Rattle.std.specs.Option.{option_and_then}
use Rattle.pst_base.specs.declared.position.Place.{Place}
use Rattle.pst_ast.specs.Scopes.{numbered, rank_in}
use Rattle.pst_numbers.proofs.numbering.Numbers.of_member.Goals as goal

pub returns : goal.returns
returns c = λ ds are.
    c.numbered.ensures ds are
    ∙ ap (λ (rank : Option ℕ). numbered ds c.in_ok-type_.type_ rank) (c.rank_in.ensures ds are)
    ∙ sym (ap (λ (inside : Option Place). option_and_then (λ type. numbered ds type (rank_in ds type c.args.member.now)) inside) c.in_ok-type_.was)
