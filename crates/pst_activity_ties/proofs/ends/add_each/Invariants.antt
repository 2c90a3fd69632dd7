use Rattle.std.proofs.Common.{◌≡◌, ◌++◌, drop, map}
use Rattle.pst_elab_rules.specs.Ties.{tie_of}
use Rattle.pst_path_readings.specs.Set.{view_setting}
use Rattle.pst_sources.specs.Shown.{sources_of}
use Rattle.pst_activity_ties.specs.Tied.{end_in}
use Rattle.pst_activity_ties.proofs.ends.add_each.Given as goal

abbrev pub invariant-loop-next : goal.invariant-loop-next
invariant-loop-next l =
    l.found.items ++ map (tie_of (sources_of l.sources) (view_setting l.setting) l.from) (map end_in (drop l.next-index l.ends))
    ≡ l.initial.found.items ++ map (tie_of (sources_of l.sources) (view_setting l.setting) l.from) (map end_in l.ends)
