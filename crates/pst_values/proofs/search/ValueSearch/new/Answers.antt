use Rattle.std.proofs.Common.{◌≡◌, ◌<◌, List, [], length, map, true, refl, sym, subst, arith}
use Rattle.pst_values.specs.declared.tried.Level.{Level}
use Rattle.pst_expr.specs.declared.tree.Expr.{Expr}
use Rattle.pst_expr.specs.Tree.{view}
use Rattle.pst_narrow.specs.Watch.{IsWatch}
use Rattle.pst_values.specs.Search.{fresh}
use Rattle.pst_values.specs.Kept.{AreLayers, AreKnown, AreHulls}
use Rattle.pst_values.proofs.KeptLemmas.{hulls_upright, first_layers, first_known}
use Rattle.pst_values.proofs.search.ValueSearch.new.Goals as goal

pub invariant_of-result : goal.invariant_of-result
invariant_of-result c =
    let ds = c.args.domains.items in
    let cs = c.args.constraints.items in
    let x : Level = record { mark = 0; known = true; tried = fresh } in
    let bounds = c.new-2.ensures in
    let variables : c.len-3.result ≡ length ds = omega (arith, c.len-3.ensures) in
    let hulls : AreHulls ds (length ds) c.new-2.result = subst (λ b. AreHulls ds (length ds) b) (sym bounds) (subst (λ d. AreHulls d (length d) c.in_ok-spans.spans.items) c.deref.ensures.value c.in_ok-spans.ensures) in
    record {
      number = subst (λ l. length l < length ds) (sym c.in_ok-earlier.ensures.items) c.requires.some;
      small = omega (arith, c.if-len.false, c.len.ensures);
      places = c.requires.places;
      count = hulls.count;
      room = omega (arith, c.in_ok-earlier.ensures.capacity, c.len-2.ensures);
      upright = hulls_upright ds c.new-2.result hulls;
      layers = subst (λ l. AreLayers ds cs l x c.new-3.result c.new-2.result) (sym c.in_ok-earlier.ensures.items) (subst (λ t. AreLayers ds cs [] x t c.new-2.result) (sym c.new-3.ensures) (first_layers ds cs x c.new-2.result refl c.requires.variables hulls));
      watch = subst (λ n. IsWatch (map view cs) n c.in_ok-watch.watch) variables (subst (λ (xs : List Expr). IsWatch (map view xs) c.len-3.result c.in_ok-watch.watch) c.deref-2.ensures.value c.in_ok-watch.ensures);
      known = subst (λ l. AreKnown ds cs l x c.new-3.result c.new-2.result) (sym c.in_ok-earlier.ensures.items) (subst (λ t. AreKnown ds cs [] x t c.new-2.result) (sym c.new-3.ensures) (first_known ds cs x c.new-2.result refl hulls));
      tight = λ e. absurd cc;
      holds = λ some. absurd (some refl);
    }
