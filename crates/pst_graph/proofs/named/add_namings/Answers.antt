use Rattle.std.proofs.Common.{◌≤◌, ◌<◌, ℕ, length, refl, sym, subst, arith}
use Rattle.std.proofs.lemmas.Option.{slice_get_read}
use Rattle.std.proofs.lemmas.Bool.Decides.{nat_tests}
use Rattle.pst_graph.proofs.Names.{naming_more, naming_all}
use Rattle.pst_graph.proofs.named.add_namings.Goals as goal

pub add_naming-requires-clause-inside : goal.add_naming-requires-clause-inside
add_naming-requires-clause-inside c = λ a leads.
    let is = slice_get_read c.args.references.now (length c.args.references.now) c.loop-i.i c.index-references-i.result refl c.loop-i-test.true c.index-references-i.is in
    subst (λ (n : ℕ). a < n) (sym c.loop-i.invariant.sized) (c.requires.inside c.loop-i.i a c.index-references-i.result is leads)

pub loop-i-preserved : goal.loop-i-preserved
loop-i-preserved c =
    let is = slice_get_read c.args.references.now (length c.args.references.now) c.loop-i.i c.index-references-i.result refl c.loop-i-test.true c.index-references-i.is in
    naming_more c.args.square.now c.loop-i.square c.add_naming.new.square c.args.references.now c.args.x c.loop-i.i c.index-references-i.result is c.loop-i.invariant c.add_naming.ensures

pub returns : goal.returns
returns c =
    let all : length c.args.references.now ≤ c.loop-i.i = grind (arith, nat_tests, c.loop-i-test.false) in
    naming_all c.args.square.now c.loop-i.square c.args.references.now c.args.x c.loop-i.i all c.loop-i.invariant
