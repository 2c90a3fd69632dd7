use Rattle.std.proofs.Common.{◌∙◌, sym}
use Rattle.std.proofs.lemmas.Option.{IfSome_then}
use Rattle.pst_blanks.specs.Blanks.{blank_of}
use Rattle.pst_value_walk.proofs.Steps.{got_blank}
use Rattle.pst_value_walk.proofs.walk.domain_at.Goals as goal

pub returns : goal.returns
returns c =
    IfSome_then c.domain.result c.domain.ensures
    (λ d h. record {
      blank = blank_of c.in-Some.at;
      is = got_blank c.args.places.now c.args.made c.in-Some.at (sym c.place_at.ensures ∙ c.in-Some.is);
      domain = h;
    })
