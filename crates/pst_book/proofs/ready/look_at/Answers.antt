use Rattle.std.proofs.Common.{◌≡◌, ◌<◌, ◌*◌, ◌∙◌, length, ap, arith}
use Rattle.pst_scen.specs.Plan.{Entries}
use Rattle.pst_book.proofs.Marking.{not_found}
use Rattle.pst_book.proofs.ready.look_at.Goals as goal

pub overflow_cast-first : goal.overflow_cast-first
overflow_cast-first c =
    let k : c.len-size.result ≡ length c.args.run.now.plan.groups = c.len-size.ensures.is ∙ ap (λ (v : Entries). length v.groups) c.plan.ensures in
    let f = c.len-size.type_inv in
    let l = c.requires.place_in in
    record { fits = let m : c.args.place < 4294967296 = omega (arith, l, k, f) in m }

pub overflow_mul-first : goal.overflow_mul-first
overflow_mul-first c =
    let k : c.len-size.result ≡ length c.args.run.now.plan.groups = c.len-size.ensures.is ∙ ap (λ (v : Entries). length v.groups) c.plan.ensures in
    let f = c.len-size.type_inv in
    let l = c.requires.place_in in
    record { fits = let m : c.args.place * 64 < 4294967296 = omega (arith, l, k, f) in m }

pub returns-clause-found : goal.returns-clause-found
returns-clause-found c =
    let k : c.len-size.result ≡ length c.args.run.now.plan.groups = c.len-size.ensures.is ∙ ap (λ (v : Entries). length v.groups) c.plan.ensures in
    λ g l m n can. not_found c.least_in.result _ _ c.least_in.ensures c.in_default.not-Some g l (c.word_end-end.ensures.all g (omega (arith, n, k)) m) can
