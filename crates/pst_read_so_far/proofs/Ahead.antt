-- What is known behind the sources is known of a scenario that fits.
use Rattle.std.proofs.Common.{◌++◌, refl, sym, subst}
use Rattle.pst_built.specs.SoFar.{HasRead}
use Rattle.pst_built.specs.ReadFitsLaws.{WholeReadingsFit}
use Rattle.pst_built.specs.ReadOnwardLaws.{LongerListsKeepWhatIsKnown}
use Rattle.pst_read_domains.specs.WholeAheadLaws.{WholeListsLieAhead}
use Rattle.pst_read_so_far.specs.Laws.{ReadingsFitAhead}

pub fit_ahead : WholeListsLieAhead → WholeReadingsFit → LongerListsKeepWhatIsKnown → ReadingsFitAhead
fit_ahead ahead fit longer m root seed level choices s sound concrete sources has =
    let whole = ahead m root seed level choices s sound concrete sources has in
    let t = whole.1 in
    (t, longer m root seed level choices whole.0 s t has (subst (λ a. HasRead a t) (sym whole.2) refl), fit m root seed level (choices ++ whole.0) t sound concrete whole.2)
