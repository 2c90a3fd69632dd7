use Rattle.std.proofs.Common.{◌≡◌, subst}
use Rattle.std.specs.Prelude.{ℕ, Option, IfSome}
use Rattle.pst_terms.specs.Fields.{field_number}
use Rattle.pst_sources.specs.Shown.{Shown, sources_of}
use Rattle.pst_sources.proofs.sources.Sources.field_number.Goals as goal

pub returns-in-Some : goal.returns-in-Some
returns-in-Some c =
    let found = c.number.ensures (sources_of c.self.inside.known) c.self.invariant.numbers_are in
    subst (λ (k : Shown). c.in-Some.number ≡ field_number (sources_of k) c.args.owner.now c.args.field.now) c.self.view_is
    (subst (λ (o : Option ℕ). IfSome o (λ n. n ≡ field_number (sources_of c.self.inside.known) c.args.owner.now c.args.field.now)) c.in-Some.is found)
