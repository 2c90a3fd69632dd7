use Rattle.std.proofs.Common.{◌≡◌, ◌++◌, ◌∷◌, [], length, refl, sym, subst, ℕ}
use Rattle.std.specs.Global.{Vec}
use Rattle.std.proofs.lemmas.Option.{slice_get_read}
use Rattle.pst_narrow.proofs.NotedLemmas.{pushed}
use Rattle.pst_narrow.proofs.watch.add_to_row.Goals as goal

pub returns : goal.returns
returns c =
    let row = c.index-rows-at.result in
    let items = subst (λ (v : Vec ℕ). c.push.new.self.items ≡ v.items ++ c.args.number ∷ []) (sym c.index-rows-at.is) c.in_ok-push.ensures.items in
    pushed c.args.rows.now c.args.at c.args.number row c.push.new.self c.requires (slice_get_read c.args.rows.now (length c.args.rows.now) c.args.at row refl c.requires c.index-rows-at.is) items
