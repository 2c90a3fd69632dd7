use Rattle.std.proofs.Common.{◌≡◌, ◌++◌, drop, map}
use Rattle.pst_ast.specs.Uses.{Ties}
use Rattle.pst_type_rules.specs.Binds.{pairs_of}
use Rattle.pst_handle_uses.specs.Handled.{tied}
use Rattle.pst_handle_uses.proofs.visitor.HandleUses.keep_next_ties.Given as goal

abbrev pub invariant-loop-next : goal.invariant-loop-next
invariant-loop-next l =
    record {
      ds : l.self.ds ≡ l.initial.self.ds;
      names : l.self.names ≡ l.initial.self.names;
      judgings : l.self.judgings ≡ l.initial.self.judgings;
      ties : l.self.ties ++ map (tied l.initial.self.ds l.initial.self.names) (pairs_of (Ties l.at l.first (map (λ n. n.end) (drop l.next-index l.others))))
          ≡ l.initial.self.ties ++ map (tied l.initial.self.ds l.initial.self.names) (pairs_of (Ties l.at l.first (map (λ n. n.end) l.others)));
    }
