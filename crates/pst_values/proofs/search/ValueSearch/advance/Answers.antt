use Rattle.std.proofs.Common.{◌≢◌, length, None, refl, sym, subst, ap, ◌∙◌, arith}
use Rattle.std.proofs.lemmas.List.{length_push}
use Rattle.pst_values.specs.declared.tried.Level.{Level}
use Rattle.pst_values.specs.Search.{fresh}
use Rattle.pst_values.specs.Kept.{AreLayers, AreKnown}
use Rattle.pst_values.proofs.KeptLemmas.{layers_on, known_on}
use Rattle.pst_values.proofs.search.ValueSearch.advance.Goals as goal

pub invariant_of-self : goal.invariant_of-self
invariant_of-self c =
    let ds = c.self.inside.domains.items in
    let cs = c.self.inside.solver.constraints.items in
    let xs = c.self.inside.earlier.items in
    let x = c.self.inside.current in
    let t = c.self.inside.solver.trail in
    let a = c.self.inside.solver.bounds in
    let h = c.self.invariant in
    let items = c.push_reserved.ensures.items in
    let long = ap length items ∙ length_push xs x in
    let y : Level = record { mark = c.mark.result; known = c.self.inside.is_known; tried = fresh } in
    let some : x.tried.value ≢ None = subst (λ s. s.current.value ≢ None) (sym c.self.view_is) c.requires in
    record {
      number = let n = h.number in omega (arith, long, n, c.if-len.false, c.len.ensures, c.len-2.ensures);
      small = h.small;
      places = h.places;
      count = h.count;
      room = let r = h.room in omega (arith, r, c.push_reserved.ensures.capacity);
      upright = h.upright;
      layers = subst (λ l. AreLayers ds cs l y t a) (sym items) (layers_on ds cs xs x y t a c.mark.ensures h.upright (h.holds some) h.layers);
      watch = h.watch;
      known = subst (λ l. AreKnown ds cs l y t a) (sym items) (known_on ds cs xs x y t a c.mark.ensures h.tight h.known);
      tight = λ e. absurd cc;
      holds = λ there. absurd (there refl);
    }
