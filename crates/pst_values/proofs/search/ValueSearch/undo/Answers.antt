use Rattle.std.proofs.Common.{◌++◌, ◌∷◌, [], length, map, sym, subst, ap, ◌∙◌, arith}
use Rattle.std.proofs.lemmas.List.{length_push}
use Rattle.pst_domain.specs.Bounds.{AreUpright}
use Rattle.pst_values.specs.Solver.{bounds_at}
use Rattle.pst_values.specs.Kept.{tried_of, HoldSolutions, AreLayers, AreKnown, IsKnownAt}
use Rattle.pst_values.proofs.SolverLemmas.{at_mark}
use Rattle.pst_values.proofs.KeptLemmas.{layers_back, known_back, tried_last}
use Rattle.pst_values.proofs.search.ValueSearch.undo.Goals as goal

pub invariant_of-self-2 : goal.invariant_of-self-2
invariant_of-self-2 c =
    let ds = c.self.inside.domains.items in
    let cs = c.self.inside.solver.constraints.items in
    let x = c.self.inside.current in
    let t = c.self.inside.solver.trail in
    let a = c.self.inside.solver.bounds in
    let h = c.self.invariant in
    let xs = c.pop.new.self.items in
    let last = c.in-Some.last in
    let items = c.in-Some.ensures.items in
    let long = ap length items ∙ length_push xs last in
    let w = c.undo.new.self in
    let d = c.undo.new.bounds in
    let base = at_mark cs x.mark t w a d h.layers.now.ready c.undo.ensures.bounds c.undo.ensures.trail in
    record {
      number = let n = h.number in omega (arith, long, n);
      small = h.small;
      places = h.places;
      count = base.count ∙ h.count;
      room = let r = h.room in omega (arith, r, c.pop.ensures.capacity);
      upright = subst AreUpright (sym c.undo.ensures.bounds) h.layers.now.ready.upright;
      layers = layers_back ds cs xs x last t w a d base (subst (λ l. AreLayers ds cs l x t a) items h.layers);
      watch = h.watch;
      known = known_back ds cs xs x last t w a d base (subst (λ l. AreLayers ds cs l x t a) items h.layers) (subst (λ l. AreKnown ds cs l x t a) items h.known);
      tight = λ k. subst (IsKnownAt ds cs (map tried_of xs ++ last.tried ∷ [])) (sym c.undo.ensures.bounds) (subst (λ r. IsKnownAt ds cs r (bounds_at x.mark t a)) (ap (map tried_of) items ∙ tried_last xs last) (h.known.now k));
      holds = λ there. subst (HoldSolutions ds cs (map tried_of xs ++ last.tried ∷ [])) (sym c.undo.ensures.bounds) (subst (λ r. HoldSolutions ds cs r (bounds_at x.mark t a)) (ap (map tried_of) items ∙ tried_last xs last) h.layers.now.holds);
    }
