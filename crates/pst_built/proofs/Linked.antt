-- The links of a scenario that is read whole are of their references' kinds, and the ends of a stream name each other.
use Rattle.std.proofs.Common.{◌≡◌, ℕ, true, false, refl, ap, ⊎_elim}
use Rattle.std.proofs.lemmas.Bool.{false≢true}
use Rattle.pst_scen.specs.declared.act.Flow.{Flow}
use Rattle.pst_scen.specs.declared.act.Flow.TheVariants.{BufferIn, BufferOut, StreamIn, StreamOut, StateIn, StateOut}
use Rattle.pst_scen.specs.declared.act.Link.{Link}
use Rattle.pst_scen.specs.declared.act.Link.TheVariants as link
use Rattle.pst_scen.specs.declared.scenario.Scenario.{Scenario}
use Rattle.pst_scen.specs.Scenarios.{IsLinkOf, IsStream, AreLinked}
use Rattle.pst_legal.specs.Supplied.{is_need}
use Rattle.pst_legal.specs.SupplyReading.{is_state, is_stream}
use Rattle.pst_built.proofs.Bares.{bare, bare_from, bare_of}
use Rattle.pst_built.proofs.Supply.{IsSupplied}

-- what may be linked, and must be, is
kind : (flow : Flow) (to : Link) → (is_need flow ≡ true → to ≡ link.Nothing → ⊥) → (to ≡ link.Initial → is_state flow ≡ true) → (is_need flow ≡ false → to ≡ link.Nothing) → IsLinkOf flow to
kind BufferIn link.Nothing all first needless = all refl refl
kind BufferIn link.Initial all first needless = absurd (false≢true (first refl))
kind BufferIn (link.Act b q) all first needless = tt
kind BufferOut link.Nothing all first needless = tt
kind BufferOut link.Initial all first needless = absurd (false≢true (first refl))
kind BufferOut (link.Act b q) all first needless = let e = needless refl in absurd (act_nothing e)
  where
    act_nothing : link.Act b q ≡ link.Nothing → ⊥
    act_nothing e = cc
kind StreamIn link.Nothing all first needless = all refl refl
kind StreamIn link.Initial all first needless = absurd (false≢true (first refl))
kind StreamIn (link.Act b q) all first needless = tt
kind StreamOut link.Nothing all first needless = all refl refl
kind StreamOut link.Initial all first needless = absurd (false≢true (first refl))
kind StreamOut (link.Act b q) all first needless = tt
kind StateIn link.Nothing all first needless = all refl refl
kind StateIn link.Initial all first needless = tt
kind StateIn (link.Act b q) all first needless = tt
kind StateOut link.Nothing all first needless = all refl refl
kind StateOut link.Initial all first needless = tt
kind StateOut (link.Act b q) all first needless = tt

streams : (flow : Flow) → IsStream flow → is_stream flow ≡ true
streams flow stream = ⊎_elim (λ e. ap is_stream e) (λ e. ap is_stream e) stream

pub are_linked : (level : ℕ) (s : Scenario) → IsSupplied level s → AreLinked s.actions
are_linked level s supplied a r filled is =
    let links = supplied.joined.links in
    let ends = supplied.joined.ends in
    let at = bare_from s.actions a r filled is in
    record {
      kind = kind filled.flow filled.link (supplied.all a r (bare filled) at) (ends.first a r (bare filled) at) (ends.needless a r (bare filled) at);
      there = λ b q e. let from = links.there a r b q (bare filled) at e in let f = bare_of s.actions b q from.source from.is in (f.0, f.1);
      back = λ b q other stream e on. ends.back a r b q (bare filled) (bare other) at (streams filled.flow stream) e (bare_from s.actions b q other on);
    }
