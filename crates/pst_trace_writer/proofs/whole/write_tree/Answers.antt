use Rattle.std.proofs.Common.{◌≡◌, ◌++◌, List, subst}
use Rattle.std.specs.Prelude.{string_bytes}
use Rattle.pst_model.specs.ModelView.{view_model}
use Rattle.pst_scen.specs.declared.tree.Node.{Node}
use Rattle.pst_trace_texts.specs.Lines.{each_from}
use Rattle.pst_trace_texts.specs.Header.{compound_text, joins_text}
use Rattle.pst_trace_writer.proofs.Each.{two}
use Rattle.pst_trace_writer.proofs.whole.write_tree.Goals as goal

pub returns : goal.returns
returns c =
    let names = c.args.names.now in
    let m = view_model c.args.model.now in
    let nodes = c.args.scenario.now.nodes in
    let old = string_bytes c.args.text.now in
    let middle = string_bytes c.write_nodes.new.text in
    let new = string_bytes c.write_joins_in.new.text in
    let first : middle ≡ old ++ each_from (λ number (node : Node). compound_text names m node.fill) 0 nodes =
    subst (λ (l : List Node). middle ≡ old ++ each_from (λ number (node : Node). compound_text names m node.fill) 0 l) c.as_slice.ensures c.in_ok-write_nodes.ensures in
    let second : new ≡ middle ++ joins_text c.args.format nodes = subst (λ (l : List Node). new ≡ middle ++ joins_text c.args.format l) c.as_slice-2.ensures c.in_ok-write_joins_in.ensures in
    two old middle new (each_from (λ number (node : Node). compound_text names m node.fill) 0 nodes) (joins_text c.args.format nodes) first second
