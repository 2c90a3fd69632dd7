use Rattle.std.proofs.Common.{◌≡◌, ◌≤◌, ◌++◌, ◌+◌, ◌*◌, drop, map}
use Rattle.std.specs.Prelude.{max}
use Rattle.pst_ast.specs.declared.body.BodyStatement.{size-BodyStatement}
use Rattle.pst_ast.specs.BodyView.{view_body_statement}
use Rattle.pst_model.specs.ModelView.{view_body_step}
use Rattle.pst_path_readings.specs.Set.{view_setting}
use Rattle.pst_sources.specs.Shown.{sources_of}
use Rattle.pst_body_parts.specs.Listed.{list_steps, without_inner}
use Rattle.pst_body_steps.proofs.statements.+statements.Given as goal

abbrev pub invariant-add_statements-loop-statement : goal.invariant-add_statements-loop-statement
invariant-add_statements-loop-statement l = record {
  few : l.locals ≤ l.statement-index;
  kept : without_inner l.locals (view_setting l.setting) ≡ view_setting l.initial.setting;
  found : map view_body_step l.found.items ++ list_steps (sources_of l.numbered) (view_setting l.setting) l.level (map view_body_statement (drop l.statement-index l.statements))
      ≡ map view_body_step l.initial.found.items ++ list_steps (sources_of l.numbered) (view_setting l.initial.setting) l.level (map view_body_statement l.statements);
}

abbrev pub decreases-add_statement : goal.decreases-add_statement
decreases-add_statement l = 8 * size-BodyStatement l.statement.now

abbrev pub decreases-part_steps : goal.decreases-part_steps
decreases-part_steps l = 8 * size-BodyStatement l.statement.now + 1

abbrev pub decreases-if_step : goal.decreases-if_step
decreases-if_step l = 8 * size-BodyStatement l.part.now + 2

abbrev pub decreases-if_else_step : goal.decreases-if_else_step
decreases-if_else_step l = 8 * max (size-BodyStatement l.part.now) (size-BodyStatement l.other.now) + 2

abbrev pub decreases-repeat_step : goal.decreases-repeat_step
decreases-repeat_step l = 8 * size-BodyStatement l.statement.now + 4

abbrev pub decreases-turns : goal.decreases-turns
decreases-turns l = 8 * size-BodyStatement l.statement.now + 3

abbrev pub decreases-indexed_turns : goal.decreases-indexed_turns
decreases-indexed_turns l = 8 * size-BodyStatement l.statement.now + 2

abbrev pub decreases-add_statements : goal.decreases-add_statements
decreases-add_statements l = 8 * goal.size-add_statements l + 1
