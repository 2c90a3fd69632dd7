-- Scopes as keys.
use Rattle.std.specs.Prelude.{Bool, true, false, nat_eq, ◌&&◌}
use Rattle.std.specs.Bool.{beq}
use Rattle.pst_ast.specs.declared.scope_declaration.Scope.{Scope}
use Rattle.pst_ast.specs.declared.scope_declaration.Scope.TheVariants.{Files, Part}
use Rattle.pst_members.specs.declared.key.ScopeKey.{ScopeKey}

abbrev pub scope_key : Scope → ScopeKey
scope_key Files = record { part = false; file = 0; line = 0; column = 0 }
scope_key (Part place) = record { part = true; file = place.file; line = place.line; column = place.column }

-- whether two keys are one
abbrev pub same_key : ScopeKey → ScopeKey → Bool
same_key a b = beq a.part b.part && (nat_eq a.file b.file && (nat_eq a.line b.line && nat_eq a.column b.column))
