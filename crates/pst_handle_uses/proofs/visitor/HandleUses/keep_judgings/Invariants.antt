use Rattle.std.proofs.Common.{◌≡◌, ◌++◌, drop, map}
use Rattle.std.specs.List.{flat_map}
use Rattle.std.specs.Option.{option_to_list}
use Rattle.pst_handle_uses.specs.Handled.{judging, naming}
use Rattle.pst_handle_uses.proofs.visitor.HandleUses.keep_judgings.Given as goal

abbrev pub invariant-loop-name : goal.invariant-loop-name
invariant-loop-name l =
    record {
      ds : l.self.ds ≡ l.initial.self.ds;
      names : l.self.names ≡ l.initial.self.names;
      ties : l.self.ties ≡ l.initial.self.ties;
      judgings : l.self.judgings ++ flat_map (λ m. option_to_list (judging l.initial.self.ds l.initial.self.names m)) (map (naming l.at l.derived) (drop l.name-index l.names))
          ≡ l.initial.self.judgings ++ flat_map (λ m. option_to_list (judging l.initial.self.ds l.initial.self.names m)) (map (naming l.at l.derived) l.names);
    }
