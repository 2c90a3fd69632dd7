use Rattle.std.proofs.Common.{List, [], ◌∷◌, All, sym, subst}
use Rattle.std.proofs.lemmas.List.Elements.{All-append, All-nil, All-cons}
use Rattle.pst_rival_blanks.specs.declared.pairs.Rival.{Rival}
use Rattle.pst_rival_blanks.specs.Pairs.{IsPairOf}
use Rattle.pst_rival_blanks.proofs.pairs.add_pair.Goals as goal

pub returns : goal.returns
returns c = λ all.
    let P : Rival → Type 0 = IsPairOf c.args.listing.now.scenario.now c.args.listing.now.claims.now in
    subst (All P) (sym c.in_ok-push.ensures.items) (All-append P c.args.pairs.now.items (c.in-Some.rival ∷ []) all (All-cons P c.in-Some.rival [] c.in-Some.ensures (All-nil P)))
