use Rattle.std.proofs.Common.{◌≡◌, ◌∙◌, ◌++◌, ◌∷◌, [], pos, drop, ap, sym, subst, w64, FitsSigned, rules}
use Rattle.std.specs.Prelude.{slice_get}
use Rattle.std.proofs.lemmas.Option.{get_or_from_slice_get}
use Rattle.std.proofs.lemmas.Int.{to_z-of_z}
use Rattle.pst_expr.specs.Spans.{values}
use Rattle.pst_legal.specs.Reading.{then_read, read_fields, read_pieces, read_piece}
use Rattle.pst_shape_parts.specs.Trees.{tree_of, scenario_of, fields_in, put}
use Rattle.pst_shape_steps.specs.Pending.{first_value, below_fields, read_stack, IsCompound}
use Rattle.pst_shape.proofs.Placed.{put_values, put_compound}
use Rattle.pst_shape.proofs.pick.pick_value.Goals as goal

pub returns-clause-put : goal.returns-clause-put
returns-clause-put c =
    let old = tree_of c.args.grown.now in
    let node = c.args.fields.node in
    let v = first_value c.args.fields.fields.now c.args.option in
    let ev : v ≡ c.at-value.result = ap (λ fs. first_value fs c.args.option) c.in-Some.ensures.cases.0 ∙ get_or_from_slice_get (values c.in-Some.field.now.domain) c.args.option c.at-value.result (pos 0) c.at-value.ensures in
    let f : FitsSigned w64 c.at-value.result = search rules in
    c.in_ok-put.ensures.ok ∙ ap (put old node) (to_z-of_z w64 c.at-value.result f ∙ sym ev)

pub returns-clause-opens : goal.returns-clause-opens
returns-clause-opens c =
    let old = tree_of c.args.grown.now in
    let node = c.args.fields.node in
    let v = first_value c.args.fields.fields.now c.args.option in
    let ev : v ≡ c.at-value.result = ap (λ fs. first_value fs c.args.option) c.in-Some.ensures.cases.0 ∙ get_or_from_slice_get (values c.in-Some.field.now.domain) c.args.option c.at-value.result (pos 0) c.at-value.ensures in
    let f : FitsSigned w64 c.at-value.result = search rules in
    let enew : tree_of c.put.new.self ≡ put old node v = c.in_ok-put.ensures.ok ∙ ap (put old node) (to_z-of_z w64 c.at-value.result f ∙ sym ev) in
    c.in_ok-at.ensures.opens (tree_of c.put.new.self) (subst (λ t. IsCompound (slice_get t.nodes node)) (sym enew) (put_compound old node v c.requires.compound))

pub returns-clause-reads : goal.returns-clause-reads
returns-clause-reads c = λ m level seed place left.
    let old = tree_of c.args.grown.now in
    let node = c.args.fields.node in
    let v = first_value c.args.fields.fields.now c.args.option in
    let ev : v ≡ c.at-value.result = ap (λ fs. first_value fs c.args.option) c.in-Some.ensures.cases.0 ∙ get_or_from_slice_get (values c.in-Some.field.now.domain) c.args.option c.at-value.result (pos 0) c.at-value.ensures in
    let f : FitsSigned w64 c.at-value.result = search rules in
    let enew : tree_of c.put.new.self ≡ put old node v = c.in_ok-put.ensures.ok ∙ ap (put old node) (to_z-of_z w64 c.at-value.result f ∙ sym ev) in
    let evals : c.push.new.self.items ≡ fields_in old node ++ v ∷ [] = c.in_ok-push.ensures.items ∙ ap (λ x. c.in_ok-values.values.items ++ x ∷ []) (to_z-of_z w64 c.at-value.result f) ∙ ap (λ xs. xs ++ c.at-value.result ∷ []) c.in_ok-values.ensures ∙ ap (λ x. fields_in old node ++ x ∷ []) (sym ev) in
    let vat : fields_in (tree_of c.put.new.self) node ≡ c.push.new.self.items = ap (λ t. fields_in t node) enew ∙ put_values old node v c.requires.compound ∙ sym evals in
    let S = scenario_of m level (tree_of c.put.new.self) in
    let after = read_stack m seed c.args.below.value in
    ap (λ fs. then_read (read_fields seed node fs (fields_in old node ++ v ∷ []) (λ vs. read_pieces (read_piece m seed c.args.levels) (below_fields c.args.fields vs) node) S place left) after) (ap (drop 1) c.in-Some.ensures.cases.0)
    ∙ ap (λ ws. then_read (read_fields seed node c.in-Some.rest.now ws (λ vs. read_pieces (read_piece m seed c.args.levels) (below_fields c.args.fields vs) node) S place left) after) (sym evals)
    ∙ c.in_ok-at.ensures.reads m S vat seed place left
