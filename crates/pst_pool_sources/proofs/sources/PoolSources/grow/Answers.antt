use Rattle.std.proofs.Common.{◌<◌, ◌≤◌, ◌++◌, ◌∷◌, suc, length, drop, drop-cons, sym, ap, ◌∙◌, arith}
use Rattle.std.proofs.lemmas.List.{append-nil, drop_all}
use Rattle.std.proofs.lemmas.Result.{on_ok_weaker}
use Rattle.pst_scen.specs.declared.act.Act.{Act}
use Rattle.pst_pool_sources.specs.Offers.{ends_at, fitting_in, fitting_from}
use Rattle.pst_pool_sources.proofs.sources.PoolSources.grow.Goals as goal

pub returns-then-count-acts-clause-ok : goal.returns-then-count-acts-clause-ok
returns-then-count-acts-clause-ok c = λ need p.
    let ends = ends_at need p c.args.self.now in
    sym (ap (λ l. ends ++ fitting_from need p c.args.count l) (drop_all c.args.count c.args.acts.now (omega arith)) ∙ append-nil ends)

pub returns-clause-ok : goal.returns-clause-ok
returns-clause-ok c =
    let acts = c.args.acts.now in
    let n = c.args.count in
    let x = c.index-acts-count.result in
    let below : n < length acts = omega arith in
    let last : length acts ≤ suc n = omega (arith, c.requires) in
    on_ok_weaker c.add_act.result
    (λ f need p.
    let ends = ends_at need p c.args.self.now in
    let here = fitting_in need p n 0 x.references in
    f need p
    ∙ ap (λ r. ends ++ fitting_in need p n 0 r) c.as_slice.ensures
    ∙ ap (λ (y : Act). ends ++ fitting_in need p n 0 y.references) (sym c.index-acts-count.is)
    ∙ ap (λ l. ends ++ l) (sym (append-nil here))
    ∙ ap (λ d. ends ++ fitting_from need p n (x ∷ d)) (sym (drop_all (suc n) acts last))
    ∙ ap (λ (y : Act). ends ++ fitting_from need p n (y ∷ drop (suc n) acts)) c.index-acts-count.is
    ∙ ap (λ d. ends ++ fitting_from need p n d) (sym (drop-cons acts n x below))) c.add_act.ensures.ok
