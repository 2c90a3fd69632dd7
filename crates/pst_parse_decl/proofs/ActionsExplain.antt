-- What actions explain.
use Rattle.pst_ast.specs.ActivityLimits.{counts_activity}
use Rattle.pst_ast.specs.ActivityProper.{IsProperActivity}
use Rattle.pst_ast.specs.ActivitySpelling.{spell_activity}
use Rattle.pst_ast.specs.ActivityTree.{ActivityTree}
use Rattle.pst_ast.specs.BodyLimits.{counts_body}
use Rattle.pst_ast.specs.BodyProper.{IsProperBody}
use Rattle.pst_ast.specs.BodySpelling.{spell_body}
use Rattle.pst_ast.specs.BodyTree.{BodyTree}
use Rattle.pst_ast.specs.ConstraintProper.{IsProperConstraintDeclaration}
use Rattle.pst_ast.specs.ConstraintSpelling.{spell_constraint_declaration}
use Rattle.pst_ast.specs.DeclarationLimits.{counts_base, counts_field, counts_reference, counts_claim, counts_members}
use Rattle.pst_ast.specs.DeclarationProper.{IsProperField, IsProperReference, IsProperClaim, IsProperMembers, IsProperActionPart, IsProperAction}
use Rattle.pst_ast.specs.DeclarationSpelling.{spell_base, spell_field, spell_reference, spell_claim, spell_members, spell_action_part, spell_action}
use Rattle.pst_ast.specs.DeclarationTree.{ActionPartField, ActionPartReference, ActionPartClaim, ActionPartMembers, ActionPartConstraint, ActionPartActivity, ActionPartBody, ActionPartEmpty, MakeAction}
use Rattle.pst_ast.specs.Limits.{counted, counts_option}
use Rattle.pst_ast.specs.Marks.{mark, spell_option, OptionIs}
use Rattle.pst_ast.specs.SharedLimits.{counts_type_name}
use Rattle.pst_ast.specs.SharedSpelling.{spell_type_name}
use Rattle.pst_parse_part.proofs.ChoicesExplain.{explains_if_mark, explains_option, mark_is_explained, explains_if_next, explains_made, explains_empty}
use Rattle.pst_parse_member.proofs.MembersExplain.{field_explains, members_explains, reference_explains, claim_explains}
use Rattle.pst_parse_decl.proofs.ObjectsExplain.{constraint_declaration_explains}
use Rattle.pst_parse_decl.proofs.Taken.{taken_constraint_declaration, taken_action_part, taken_action}
use Rattle.pst_parse_part.proofs.NamesExplain.{type_name_explains}
use Rattle.pst_parse_decl.specs.Actions.{begins_claim, action_part_by, base_by, begins_reference, action_by}
use Rattle.pst_parse_member.specs.Members.{field_by, claim_by, members_by, reference_by}
use Rattle.pst_parse_decl.specs.Objects.{constraint_declaration_by}
use Rattle.pst_parse_part.specs.Names.{type_name_by}
use Rattle.pst_parse_expr.proofs.SharedLaws.{IsAny}
use Rattle.pst_parse_expr.specs.Constraints.{Within, is_at, is_other}
use Rattle.pst_reading.proofs.Chains.{explains_mark, explains_name, explains_part}
use Rattle.pst_reading.proofs.Explaining.{Means, Explains, explains_done}
use Rattle.pst_reading.proofs.Lists.{list_explains}
use Rattle.pst_reading.specs.Lists.{list_by}
use Rattle.pst_reading.specs.Options.{option_by}
use Rattle.pst_reading.specs.Parser.{mark_by}
use Rattle.pst_token.specs.declared.kind.Kind.TheVariants as kind
use Rattle.std.proofs.Common.{refl, append-nil, ℕ, suc, [], ◌∷◌}
use Rattle.std.specs.List.{flat_map, AllByRecursion}

pub base_explains : (depth : ℕ) → Explains (Means spell_base IsAny (counts_base depth)) (base_by depth)
base_explains depth =
    explains_mark _ kind.Colon (counted depth 0) _ (λ colon.
    explains_part _ spell_type_name IsAny (counts_type_name depth) (type_name_by depth) _ (type_name_explains depth) (λ name h1.
    explains_done _ (record { colon = colon; name = name }) (record { is = rw append-nil refl; proper = tt; counted = rw append-nil refl })))

module _ (activity : ℕ → Within ActivityTree) (body : ℕ → Within BodyTree) (activity_explains : (size depth : ℕ) → Explains (Means spell_activity IsProperActivity (counts_activity depth)) (activity size depth)) (body_explains : (size depth : ℕ) → Explains (Means spell_body IsProperBody (counts_body depth)) (body size depth)) where
  pub action_part_explains : (size depth : ℕ) → Explains (Means spell_action_part IsProperActionPart (taken_action_part depth)) (action_part_by activity body size depth)
  action_part_explains size depth =
      let M = Means spell_action_part IsProperActionPart (taken_action_part depth) in
      explains_if_mark M kind.Rand _ _ (explains_made M spell_field IsProperField (counts_field depth) (field_by size depth) ActionPartField (field_explains size depth) (λ x p. record { is = refl; proper = p; counted = refl })) (
      explains_if_next M begins_reference _ _ (explains_made M spell_reference IsProperReference (counts_reference depth) (reference_by size depth) ActionPartReference (reference_explains size depth) (λ x p. record { is = refl; proper = p; counted = refl })) (
      explains_if_next M begins_claim _ _ (explains_made M spell_claim IsProperClaim (counts_claim depth) (claim_by size depth) ActionPartClaim (claim_explains size depth) (λ x p. record { is = refl; proper = p; counted = refl })) (
      explains_if_mark M kind.Constraint _ _ (explains_made M spell_constraint_declaration IsProperConstraintDeclaration (taken_constraint_declaration depth) (constraint_declaration_by size depth) ActionPartConstraint (constraint_declaration_explains size depth) (λ x p. record { is = refl; proper = p; counted = refl })) (
      explains_if_mark M kind.Activity _ _ (explains_made M spell_activity IsProperActivity (counts_activity depth) (activity size depth) ActionPartActivity (activity_explains size depth) (λ x p. record { is = refl; proper = p; counted = refl })) (
      explains_if_mark M kind.Exec _ _ (explains_made M spell_body IsProperBody (counts_body depth) (body size depth) ActionPartBody (body_explains size depth) (λ x p. record { is = refl; proper = p; counted = refl })) (
      explains_if_mark M kind.Semicolon _ _ (explains_empty M kind.Semicolon (counted depth 0) ActionPartEmpty (λ p. record { is = refl; proper = tt; counted = refl })) (
      explains_made M spell_members IsProperMembers (counts_members depth) (members_by size depth) ActionPartMembers (members_explains size depth) (λ x p. record { is = refl; proper = p; counted = refl }))))))))

  pub action_explains : (size depth : ℕ) → Explains (Means spell_action IsProperAction (taken_action depth)) (action_by activity body size depth)
  action_explains size depth =
      explains_part _ (spell_option (λ p. mark kind.Abstract p ∷ [])) (OptionIs IsAny) (counts_option (λ p. counted (suc depth) 0 ∷ [])) (option_by (is_at kind.Abstract) (mark_by kind.Abstract (counted (suc depth) 0))) _ (explains_option (λ p. mark kind.Abstract p ∷ []) IsAny (λ p. counted (suc depth) 0 ∷ []) (is_at kind.Abstract) (mark_by kind.Abstract (counted (suc depth) 0)) (mark_is_explained kind.Abstract (counted (suc depth) 0))) (λ abstract_place h0.
      explains_mark _ kind.Action (counted (suc depth) 0) _ (λ action.
      explains_name _ (counted (suc depth) 0) _ (λ name.
      explains_part _ (spell_option spell_base) (OptionIs IsAny) (counts_option (counts_base (suc depth))) (option_by (is_at kind.Colon) (base_by (suc depth))) _ (explains_option spell_base IsAny (counts_base (suc depth)) (is_at kind.Colon) (base_by (suc depth)) (base_explains (suc depth))) (λ base h3.
      explains_mark _ kind.LeftBrace (counted (suc depth) 0) _ (λ left_brace.
      explains_part _ (flat_map spell_action_part) (AllByRecursion IsProperActionPart) (flat_map (taken_action_part (suc depth))) (list_by (is_other kind.RightBrace) (action_part_by activity body size (suc depth)) size) _ (list_explains spell_action_part IsProperActionPart (taken_action_part (suc depth)) (is_other kind.RightBrace) (action_part_by activity body size (suc depth)) (action_part_explains size (suc depth)) size) (λ parts h5.
      explains_mark _ kind.RightBrace (counted (suc depth) 0) _ (λ right_brace.
      explains_done _ (MakeAction abstract_place action name base left_brace parts right_brace) (record { is = refl; proper = h5; counted = refl }))))))))
