use Rattle.std.proofs.Common.{◌≡◌, ◌++◌, subst, sym}
use Rattle.std.specs.Prelude.{string_bytes, codes, decimal}
use Rattle.pst_scen.specs.declared.tree.Fill.{Fill}
use Rattle.pst_trace_texts.specs.Header.{branches_text, join_text}
use Rattle.pst_trace_writer.proofs.Branches.{join_written}
use Rattle.pst_trace_writer.proofs.nodes.write_join.Goals as goal

pub returns-in_ok-push_str-in-Joined : goal.returns-in_ok-push_str-in-Joined
returns-in_ok-push_str-in-Joined c =
    let number : string_bytes c.write.new.self ≡ string_bytes c.args.text.now ++ (codes "join " ++ decimal c.args.number) = c.in_ok-write-in-Joined.ensures.bytes in
    subst (λ (f : Fill). string_bytes c.push_str.new.self ≡ string_bytes c.args.text.now ++ join_text c.args.number f) (sym c.in-Joined.is)
    (join_written (string_bytes c.args.text.now) (string_bytes c.write.new.self) (string_bytes c.write_branches.new.text) (string_bytes c.push_str.new.self) (decimal c.args.number) (branches_text c.in-Joined.joined 0 64)
    number c.in_ok-write_branches-in-Joined.ensures c.in_ok-push_str-in-Joined.ensures.bytes)
