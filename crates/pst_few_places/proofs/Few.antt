-- No list that keeps the choices of the places reads a legal scenario.
use Rattle.std.proofs.Common.{◌≡◌, ℕ, [], ◌∷◌, refl, sym, ap, ◌∙◌, subst}
use Rattle.pst_scen.specs.declared.scenario.Scenario.{Scenario}
use Rattle.pst_scen.specs.Refusals.{IsUnrefused}
use Rattle.pst_legal.specs.Blanks.{claim_blanks, value_blanks}
use Rattle.pst_legal.specs.Reading.{Reading, Wants, Stops, Reads, then_read}
use Rattle.pst_legal.specs.ValueReading.{Whole, answer_of, with_firsts, read_values}
use Rattle.pst_legal.specs.Constraints.{Holds}
use Rattle.pst_built.proofs.Values.{IsSameOrder}
use Rattle.pst_read_legal.specs.Laws.{LegalIsUnrefused}
use Rattle.pst_read_domains.proofs.Ahead.{sources_on}
use Rattle.pst_few_places.specs.Fillings.{all_blanks, named}
use Rattle.pst_few_places.specs.Laws.{FewPlacesRefuse}
use Rattle.pst_few_places.proofs.Named.{blanks_join, blanks_named, named_at}

whole_end : (r : Reading) (t : Scenario) → answer_of r ≡ Whole t → (end : ℕ) × (r ≡ Reads t end [])
whole_end (Wants s n) t e = absurd cc
whole_end Stops t e = absurd cc
whole_end (Reads s place []) t e = let same : s ≡ t = cc in (place, ap (λ v. Reads v place []) same)
whole_end (Reads s place (d ∷ left)) t e = absurd cc

pub refuse : LegalIsUnrefused → FewPlacesRefuse
refuse unrefused m root seed level front present u place places front_reads none other agree t legal =
    let start = with_firsts m u in
    let same : IsSameOrder u start = record { level = refl; nodes = refl; acts = refl; kinds = refl; references = refl } in
    let values : answer_of (read_values m seed u place other) ≡ Whole t =
    sym (ap (λ r. answer_of (then_read r (read_values m seed))) (sources_on m root seed level front other u place [] front_reads)) ∙ legal.reads in
    let end = whole_end (read_values m seed u place other) t values in
    let joined = sym (blanks_join m seed (claim_blanks m u.actions) (value_blanks m u.actions) start place other) ∙ end.1 in
    let chosen = blanks_named m seed u (all_blanks m u) start place other t end.0 same joined in
    none (named m seed u.actions (all_blanks m u) place other) chosen.options (λ i kept. named_at m seed u.actions (all_blanks m u) place other present i (agree i kept))
    (subst (Holds m) chosen.is legal.legal.holds) (subst IsUnrefused chosen.is (unrefused m root t legal.legal))
