-- Actions read what they spell again.
use Rattle.pst_ast.specs.ActivityLimits.{counts_activity}
use Rattle.pst_ast.specs.ActivityProper.{IsProperActivity}
use Rattle.pst_ast.specs.ActivitySpelling.{spell_activity}
use Rattle.pst_ast.specs.ActivityTree.{ActivityTree, MakeActivity}
use Rattle.pst_ast.specs.BodyLimits.{counts_body}
use Rattle.pst_ast.specs.BodyProper.{IsProperBody}
use Rattle.pst_ast.specs.BodySpelling.{spell_body}
use Rattle.pst_ast.specs.BodyTree.{BodyTree, MakeBody}
use Rattle.pst_ast.specs.ConstraintSpelling.{spell_constraint_declaration}
use Rattle.pst_ast.specs.DeclarationLimits.{counts_base, counts_field, counts_reference, counts_claim, counts_members}
use Rattle.pst_ast.specs.DeclarationProper.{IsProperActionPart, IsProperAction}
use Rattle.pst_ast.specs.DeclarationSpelling.{spell_base, spell_field, spell_reference, spell_claim, spell_members, spell_action_part, spell_action}
use Rattle.pst_ast.specs.DeclarationTree.{ReferenceTree, ClaimTree, MembersTree, ActionPartTree, ActionTree, MakeReference, MakeClaim, MakeMembers, ActionPartField, ActionPartReference, ActionPartClaim, ActionPartMembers, ActionPartConstraint, ActionPartActivity, ActionPartBody, ActionPartEmpty, MakeAction}
use Rattle.pst_ast.specs.Limits.{counted}
use Rattle.pst_ast.specs.Marks.{mark, name_token, spell_option}
use Rattle.pst_ast.specs.SharedSpelling.{spell_names, spell_type_name}
use Rattle.pst_ast.specs.declared.declaration.BaseNode.{BaseNode}
use Rattle.pst_ast.specs.declared.declaration.ClaimWord.TheVariants as the_claim_word
use Rattle.pst_ast.specs.declared.declaration.ReferenceWord.TheVariants as the_reference_word
use Rattle.pst_ast.specs.declared.leaf.Name.{Name}
use Rattle.pst_base.specs.declared.position.Place.{Place}
use Rattle.pst_parse_part.proofs.Following.{other_mark, other_name, ends_there, next_part_in, any_option, mark_rereads, reread_next, reread_made, reread_empty}
use Rattle.pst_parse_member.proofs.MembersAgain.{field_rereads, members_rereads, reference_rereads, claim_rereads}
use Rattle.pst_parse_decl.proofs.ObjectsAgain.{constraint_declaration_rereads, constraint_declaration_begins, field_begins, part_starts, some_token, IsThere}
use Rattle.pst_parse_decl.proofs.Taken.{taken_constraint_declaration, taken_action_part, taken_action}
use Rattle.pst_parse_part.proofs.NamesAgain.{type_name_begins, type_name_rereads}
use Rattle.pst_parse_decl.specs.Actions.{begins_claim, action_part_by, base_by, begins_reference, action_by}
use Rattle.pst_parse_member.specs.Members.{field_by, claim_by, members_by, reference_by}
use Rattle.pst_parse_decl.specs.Objects.{constraint_declaration_by}
use Rattle.pst_parse_part.specs.Names.{type_name_by}
use Rattle.pst_parse_expr.proofs.SharedLaws.{IsAny}
use Rattle.pst_parse_operator.proofs.Stops.{IsNo}
use Rattle.pst_parse_expr.specs.Constraints.{Within, is_at, is_other}
use Rattle.pst_reading.proofs.Lists.{StartsPart}
use Rattle.pst_reading.proofs.Rereading.{Rereads, Anything, reread_done, narrower, reread_mark, reread_name, reread_part, reread_last, reread_choice, EndsOption, reread_option, reread_list}
use Rattle.pst_reading.proofs.Tokens.{mark_is_so}
use Rattle.pst_reading.specs.Kinds.{is_mark}
use Rattle.pst_reading.specs.Lists.{list_by}
use Rattle.pst_reading.specs.Options.{option_by}
use Rattle.pst_reading.specs.Parser.{mark_by, next}
use Rattle.pst_token.specs.declared.kind.Kind.TheVariants as kind
use Rattle.pst_token.specs.declared.token.Token.{Token}
use Rattle.std.proofs.Common.{refl, arith, length-append, ℕ, suc, ◌≤◌, ◌≡◌, true, false, List, [], ◌∷◌, ◌++◌, Option, Some, None, length}
use Rattle.std.specs.List.{flat_map}

pub base_rereads : (depth : ℕ) (x : BaseNode) → Rereads (IsNo kind.ColonColon) (base_by depth) (spell_base x) (counts_base depth x) x
base_rereads depth x =
    reread_mark _ kind.Colon (counted depth 0) _ x.colon _ _ _
    (reread_last _ (type_name_by depth) _ _ _ x.name _ (type_name_rereads depth x.name) refl)

pub base_begins : (E : Option Token → Type 0) → ((place : Place) → E (Some (mark kind.Colon place))) → (x : BaseNode) (us : List Token) → E (next (spell_base x ++ us))
base_begins E h x us = h x.colon

pub reference_begins : (E : Option Token → Type 0) → ((place : Place) → E (Some (mark kind.Input place))) → ((place : Place) → E (Some (mark kind.Output place))) → (x : ReferenceTree) (us : List Token) → E (next (spell_reference x ++ us))
reference_begins E input_case output_case (MakeReference the_reference_word.Input place object names semicolon) us = input_case place
reference_begins E input_case output_case (MakeReference the_reference_word.Output place object names semicolon) us = output_case place

pub claim_begins : (E : Option Token → Type 0) → ((place : Place) → E (Some (mark kind.Lock place))) → ((place : Place) → E (Some (mark kind.Share place))) → (x : ClaimTree) (us : List Token) → E (next (spell_claim x ++ us))
claim_begins E lock_case share_case (MakeClaim the_claim_word.Lock place object names semicolon) us = lock_case place
claim_begins E lock_case share_case (MakeClaim the_claim_word.Share place object names semicolon) us = share_case place

pub members_begins : (E : Option Token → Type 0) → ((name : Name) → E (Some (name_token name))) → (x : MembersTree) (us : List Token) → E (next (spell_members x ++ us))
members_begins E h (MakeMembers member_type names semicolon) us = next_part_in E (spell_type_name member_type) (spell_names names ++ mark kind.Semicolon semicolon ∷ []) us (type_name_begins E h member_type ((spell_names names ++ mark kind.Semicolon semicolon ∷ []) ++ us))

activity_begins : (E : Option Token → Type 0) → ((place : Place) → E (Some (mark kind.Activity place))) → (x : ActivityTree) (us : List Token) → E (next (spell_activity x ++ us))
activity_begins E h (MakeActivity activity_place left_brace statements right_brace) us = h activity_place

body_begins : (E : Option Token → Type 0) → ((place : Place) → E (Some (mark kind.Exec place))) → (x : BodyTree) (us : List Token) → E (next (spell_body x ++ us))
body_begins E h (MakeBody exec_place body_place left_brace statements right_brace) us = h exec_place

pub action_begins : (E : Option Token → Type 0) → ((place : Place) → E (Some (mark kind.Abstract place))) → ((place : Place) → E (Some (mark kind.Action place))) → (x : ActionTree) (us : List Token) → E (next (spell_action x ++ us))
action_begins E abstract_case action_case (MakeAction (Some place) action name base left_brace parts right_brace) us = abstract_case place
action_begins E abstract_case action_case (MakeAction None action name base left_brace parts right_brace) us = action_case action

begins_reference_at_activity : (p : Place) → begins_reference (Some (mark kind.Activity p)) ≡ false
unfolding is_mark
begins_reference_at_activity p = refl

begins_reference_at_constraint : (p : Place) → begins_reference (Some (mark kind.Constraint p)) ≡ false
unfolding is_mark
begins_reference_at_constraint p = refl

begins_reference_at_exec : (p : Place) → begins_reference (Some (mark kind.Exec p)) ≡ false
unfolding is_mark
begins_reference_at_exec p = refl

begins_reference_at_input : (p : Place) → begins_reference (Some (mark kind.Input p)) ≡ true
unfolding is_mark
begins_reference_at_input p = refl

begins_reference_at_lock : (p : Place) → begins_reference (Some (mark kind.Lock p)) ≡ false
unfolding is_mark
begins_reference_at_lock p = refl

begins_reference_at_name : (n : Name) → begins_reference (Some (name_token n)) ≡ false
unfolding is_mark
begins_reference_at_name n = refl

begins_reference_at_output : (p : Place) → begins_reference (Some (mark kind.Output p)) ≡ true
unfolding is_mark
begins_reference_at_output p = refl

begins_reference_at_semicolon : (p : Place) → begins_reference (Some (mark kind.Semicolon p)) ≡ false
unfolding is_mark
begins_reference_at_semicolon p = refl

begins_reference_at_share : (p : Place) → begins_reference (Some (mark kind.Share p)) ≡ false
unfolding is_mark
begins_reference_at_share p = refl

begins_claim_at_activity : (p : Place) → begins_claim (Some (mark kind.Activity p)) ≡ false
unfolding is_mark
begins_claim_at_activity p = refl

begins_claim_at_constraint : (p : Place) → begins_claim (Some (mark kind.Constraint p)) ≡ false
unfolding is_mark
begins_claim_at_constraint p = refl

begins_claim_at_exec : (p : Place) → begins_claim (Some (mark kind.Exec p)) ≡ false
unfolding is_mark
begins_claim_at_exec p = refl

begins_claim_at_lock : (p : Place) → begins_claim (Some (mark kind.Lock p)) ≡ true
unfolding is_mark
begins_claim_at_lock p = refl

begins_claim_at_name : (n : Name) → begins_claim (Some (name_token n)) ≡ false
unfolding is_mark
begins_claim_at_name n = refl

begins_claim_at_semicolon : (p : Place) → begins_claim (Some (mark kind.Semicolon p)) ≡ false
unfolding is_mark
begins_claim_at_semicolon p = refl

begins_claim_at_share : (p : Place) → begins_claim (Some (mark kind.Share p)) ≡ true
unfolding is_mark
begins_claim_at_share p = refl

action_part_starts : (x : ActionPartTree) (us : List Token) → StartsPart (is_other kind.RightBrace) (IsNo kind.Else) (spell_action_part x ++ us)
action_part_starts (ActionPartField x) us = part_starts (IsNo kind.Else) _ (field_begins (IsNo kind.RightBrace) (λ p. other_mark kind.RightBrace kind.Rand p refl) x us) (field_begins (IsNo kind.Else) (λ p. other_mark kind.Else kind.Rand p refl) x us)
action_part_starts (ActionPartReference x) us = part_starts (IsNo kind.Else) _ (reference_begins (IsNo kind.RightBrace) (λ p. other_mark kind.RightBrace kind.Input p refl) (λ p. other_mark kind.RightBrace kind.Output p refl) x us) (reference_begins (IsNo kind.Else) (λ p. other_mark kind.Else kind.Input p refl) (λ p. other_mark kind.Else kind.Output p refl) x us)
action_part_starts (ActionPartClaim x) us = part_starts (IsNo kind.Else) _ (claim_begins (IsNo kind.RightBrace) (λ p. other_mark kind.RightBrace kind.Lock p refl) (λ p. other_mark kind.RightBrace kind.Share p refl) x us) (claim_begins (IsNo kind.Else) (λ p. other_mark kind.Else kind.Lock p refl) (λ p. other_mark kind.Else kind.Share p refl) x us)
action_part_starts (ActionPartMembers x) us = part_starts (IsNo kind.Else) _ (members_begins (IsNo kind.RightBrace) (λ p. other_name kind.RightBrace p refl) x us) (members_begins (IsNo kind.Else) (λ p. other_name kind.Else p refl) x us)
action_part_starts (ActionPartConstraint x) us = part_starts (IsNo kind.Else) _ (constraint_declaration_begins (IsNo kind.RightBrace) (λ p. other_mark kind.RightBrace kind.Constraint p refl) x us) (constraint_declaration_begins (IsNo kind.Else) (λ p. other_mark kind.Else kind.Constraint p refl) x us)
action_part_starts (ActionPartActivity x) us = part_starts (IsNo kind.Else) _ (activity_begins (IsNo kind.RightBrace) (λ p. other_mark kind.RightBrace kind.Activity p refl) x us) (activity_begins (IsNo kind.Else) (λ p. other_mark kind.Else kind.Activity p refl) x us)
action_part_starts (ActionPartBody x) us = part_starts (IsNo kind.Else) _ (body_begins (IsNo kind.RightBrace) (λ p. other_mark kind.RightBrace kind.Exec p refl) x us) (body_begins (IsNo kind.Else) (λ p. other_mark kind.Else kind.Exec p refl) x us)
action_part_starts (ActionPartEmpty place) us = part_starts (IsNo kind.Else) _ (other_mark kind.RightBrace kind.Semicolon place refl) (other_mark kind.Else kind.Semicolon place refl)

action_part_some : (x : ActionPartTree) → 1 ≤ length (spell_action_part x)
action_part_some (ActionPartField x) = some_token _ (field_begins IsThere (λ p. tt) x [])
action_part_some (ActionPartReference x) = some_token _ (reference_begins IsThere (λ p. tt) (λ p. tt) x [])
action_part_some (ActionPartClaim x) = some_token _ (claim_begins IsThere (λ p. tt) (λ p. tt) x [])
action_part_some (ActionPartMembers x) = some_token _ (members_begins IsThere (λ p. tt) x [])
action_part_some (ActionPartConstraint x) = some_token _ (constraint_declaration_begins IsThere (λ p. tt) x [])
action_part_some (ActionPartActivity x) = some_token _ (activity_begins IsThere (λ p. tt) x [])
action_part_some (ActionPartBody x) = some_token _ (body_begins IsThere (λ p. tt) x [])
action_part_some (ActionPartEmpty place) = omega arith

module _ (activity : ℕ → Within ActivityTree) (body : ℕ → Within BodyTree) (activity_rereads : (size depth : ℕ) (x : ActivityTree) → IsProperActivity x → length (spell_activity x) ≤ size → Rereads Anything (activity size depth) (spell_activity x) (counts_activity depth x) x) (body_rereads : (size depth : ℕ) (x : BodyTree) → IsProperBody x → length (spell_body x) ≤ size → Rereads Anything (body size depth) (spell_body x) (counts_body depth x) x) where
  pub action_part_rereads : (size depth : ℕ) (x : ActionPartTree) → IsProperActionPart x → length (spell_action_part x) ≤ size → Rereads (IsNo kind.Else) (action_part_by activity body size depth) (spell_action_part x) (taken_action_part depth x) x
  action_part_rereads size depth (ActionPartField x) proper short =
      reread_choice _ kind.Rand _ _ _ _ _ true (λ more m. field_begins (λ n. is_at kind.Rand n ≡ true) (λ p. mark_is_so kind.Rand p) x more)
      (reread_made _ (field_by size depth) ActionPartField (spell_field x) (counts_field depth x) x (narrower Anything (IsNo kind.Else) _ _ _ _ (λ n m. tt) (field_rereads size depth x proper short)))
  action_part_rereads size depth (ActionPartReference x) proper short =
      reread_choice _ kind.Rand _ _ _ _ _ false (λ more m. reference_begins (λ n. is_at kind.Rand n ≡ false) (λ p. other_mark kind.Rand kind.Input p refl) (λ p. other_mark kind.Rand kind.Output p refl) x more)
      (reread_next _ begins_reference _ _ _ _ _ true (λ more m. reference_begins (λ n. begins_reference n ≡ true) (λ p. begins_reference_at_input p) (λ p. begins_reference_at_output p) x more)
      (reread_made _ (reference_by size depth) ActionPartReference (spell_reference x) (counts_reference depth x) x (narrower Anything (IsNo kind.Else) _ _ _ _ (λ n m. tt) (reference_rereads size depth x proper short))))
  action_part_rereads size depth (ActionPartClaim x) proper short =
      reread_choice _ kind.Rand _ _ _ _ _ false (λ more m. claim_begins (λ n. is_at kind.Rand n ≡ false) (λ p. other_mark kind.Rand kind.Lock p refl) (λ p. other_mark kind.Rand kind.Share p refl) x more)
      (reread_next _ begins_reference _ _ _ _ _ false (λ more m. claim_begins (λ n. begins_reference n ≡ false) (λ p. begins_reference_at_lock p) (λ p. begins_reference_at_share p) x more)
      (reread_next _ begins_claim _ _ _ _ _ true (λ more m. claim_begins (λ n. begins_claim n ≡ true) (λ p. begins_claim_at_lock p) (λ p. begins_claim_at_share p) x more)
      (reread_made _ (claim_by size depth) ActionPartClaim (spell_claim x) (counts_claim depth x) x (narrower Anything (IsNo kind.Else) _ _ _ _ (λ n m. tt) (claim_rereads size depth x proper short)))))
  action_part_rereads size depth (ActionPartMembers x) proper short =
      reread_choice _ kind.Rand _ _ _ _ _ false (λ more m. members_begins (λ n. is_at kind.Rand n ≡ false) (λ p. other_name kind.Rand p refl) x more)
      (reread_next _ begins_reference _ _ _ _ _ false (λ more m. members_begins (λ n. begins_reference n ≡ false) (λ p. begins_reference_at_name p) x more)
      (reread_next _ begins_claim _ _ _ _ _ false (λ more m. members_begins (λ n. begins_claim n ≡ false) (λ p. begins_claim_at_name p) x more)
      (reread_choice _ kind.Constraint _ _ _ _ _ false (λ more m. members_begins (λ n. is_at kind.Constraint n ≡ false) (λ p. other_name kind.Constraint p refl) x more)
      (reread_choice _ kind.Activity _ _ _ _ _ false (λ more m. members_begins (λ n. is_at kind.Activity n ≡ false) (λ p. other_name kind.Activity p refl) x more)
      (reread_choice _ kind.Exec _ _ _ _ _ false (λ more m. members_begins (λ n. is_at kind.Exec n ≡ false) (λ p. other_name kind.Exec p refl) x more)
      (reread_choice _ kind.Semicolon _ _ _ _ _ false (λ more m. members_begins (λ n. is_at kind.Semicolon n ≡ false) (λ p. other_name kind.Semicolon p refl) x more)
      (reread_made _ (members_by size depth) ActionPartMembers (spell_members x) (counts_members depth x) x (narrower Anything (IsNo kind.Else) _ _ _ _ (λ n m. tt) (members_rereads size depth x proper short)))))))))
  action_part_rereads size depth (ActionPartConstraint x) proper short =
      reread_choice _ kind.Rand _ _ _ _ _ false (λ more m. constraint_declaration_begins (λ n. is_at kind.Rand n ≡ false) (λ p. other_mark kind.Rand kind.Constraint p refl) x more)
      (reread_next _ begins_reference _ _ _ _ _ false (λ more m. constraint_declaration_begins (λ n. begins_reference n ≡ false) (λ p. begins_reference_at_constraint p) x more)
      (reread_next _ begins_claim _ _ _ _ _ false (λ more m. constraint_declaration_begins (λ n. begins_claim n ≡ false) (λ p. begins_claim_at_constraint p) x more)
      (reread_choice _ kind.Constraint _ _ _ _ _ true (λ more m. constraint_declaration_begins (λ n. is_at kind.Constraint n ≡ true) (λ p. mark_is_so kind.Constraint p) x more)
      (reread_made _ (constraint_declaration_by size depth) ActionPartConstraint (spell_constraint_declaration x) (taken_constraint_declaration depth x) x (constraint_declaration_rereads size depth x proper short)))))
  action_part_rereads size depth (ActionPartActivity x) proper short =
      reread_choice _ kind.Rand _ _ _ _ _ false (λ more m. activity_begins (λ n. is_at kind.Rand n ≡ false) (λ p. other_mark kind.Rand kind.Activity p refl) x more)
      (reread_next _ begins_reference _ _ _ _ _ false (λ more m. activity_begins (λ n. begins_reference n ≡ false) (λ p. begins_reference_at_activity p) x more)
      (reread_next _ begins_claim _ _ _ _ _ false (λ more m. activity_begins (λ n. begins_claim n ≡ false) (λ p. begins_claim_at_activity p) x more)
      (reread_choice _ kind.Constraint _ _ _ _ _ false (λ more m. activity_begins (λ n. is_at kind.Constraint n ≡ false) (λ p. other_mark kind.Constraint kind.Activity p refl) x more)
      (reread_choice _ kind.Activity _ _ _ _ _ true (λ more m. activity_begins (λ n. is_at kind.Activity n ≡ true) (λ p. mark_is_so kind.Activity p) x more)
      (reread_made _ (activity size depth) ActionPartActivity (spell_activity x) (counts_activity depth x) x (narrower Anything (IsNo kind.Else) _ _ _ _ (λ n m. tt) (activity_rereads size depth x proper short)))))))
  action_part_rereads size depth (ActionPartBody x) proper short =
      reread_choice _ kind.Rand _ _ _ _ _ false (λ more m. body_begins (λ n. is_at kind.Rand n ≡ false) (λ p. other_mark kind.Rand kind.Exec p refl) x more)
      (reread_next _ begins_reference _ _ _ _ _ false (λ more m. body_begins (λ n. begins_reference n ≡ false) (λ p. begins_reference_at_exec p) x more)
      (reread_next _ begins_claim _ _ _ _ _ false (λ more m. body_begins (λ n. begins_claim n ≡ false) (λ p. begins_claim_at_exec p) x more)
      (reread_choice _ kind.Constraint _ _ _ _ _ false (λ more m. body_begins (λ n. is_at kind.Constraint n ≡ false) (λ p. other_mark kind.Constraint kind.Exec p refl) x more)
      (reread_choice _ kind.Activity _ _ _ _ _ false (λ more m. body_begins (λ n. is_at kind.Activity n ≡ false) (λ p. other_mark kind.Activity kind.Exec p refl) x more)
      (reread_choice _ kind.Exec _ _ _ _ _ true (λ more m. body_begins (λ n. is_at kind.Exec n ≡ true) (λ p. mark_is_so kind.Exec p) x more)
      (reread_made _ (body size depth) ActionPartBody (spell_body x) (counts_body depth x) x (narrower Anything (IsNo kind.Else) _ _ _ _ (λ n m. tt) (body_rereads size depth x proper short))))))))
  action_part_rereads size depth (ActionPartEmpty place) proper short =
      reread_choice _ kind.Rand _ _ _ _ _ false (λ more m. other_mark kind.Rand kind.Semicolon place refl)
      (reread_next _ begins_reference _ _ _ _ _ false (λ more m. begins_reference_at_semicolon place)
      (reread_next _ begins_claim _ _ _ _ _ false (λ more m. begins_claim_at_semicolon place)
      (reread_choice _ kind.Constraint _ _ _ _ _ false (λ more m. other_mark kind.Constraint kind.Semicolon place refl)
      (reread_choice _ kind.Activity _ _ _ _ _ false (λ more m. other_mark kind.Activity kind.Semicolon place refl)
      (reread_choice _ kind.Exec _ _ _ _ _ false (λ more m. other_mark kind.Exec kind.Semicolon place refl)
      (reread_choice _ kind.Semicolon _ _ _ _ _ true (λ more m. mark_is_so kind.Semicolon place)
      (reread_empty kind.Semicolon (counted depth 0) ActionPartEmpty place _)))))))

  pub action_rereads : (size depth : ℕ) (x : ActionTree) → IsProperAction x → length (spell_action x) ≤ size → Rereads Anything (action_by activity body size depth) (spell_action x) (taken_action depth x) x
  action_rereads size depth (MakeAction abstract_place action name base left_brace parts right_brace) proper short =
      let long = length-append (spell_option (λ p. mark kind.Abstract p ∷ []) abstract_place) (mark kind.Action action ∷ name_token name ∷ (spell_option spell_base base ++ mark kind.LeftBrace left_brace ∷ (flat_map spell_action_part parts ++ mark kind.RightBrace right_brace ∷ []))) in
      let long2 = length-append (spell_option spell_base base) (mark kind.LeftBrace left_brace ∷ (flat_map spell_action_part parts ++ mark kind.RightBrace right_brace ∷ [])) in
      let long3 = length-append (flat_map spell_action_part parts) (mark kind.RightBrace right_brace ∷ []) in
      reread_part _ (EndsOption (is_at kind.Abstract) Anything) (option_by (is_at kind.Abstract) (mark_by kind.Abstract (counted (suc depth) 0))) _ (spell_option (λ p. mark kind.Abstract p ∷ []) abstract_place) _ abstract_place _ _ _ (reread_option (λ p. mark kind.Abstract p ∷ []) IsAny (λ p. counted (suc depth) 0 ∷ []) (is_at kind.Abstract) Anything (mark_by kind.Abstract (counted (suc depth) 0)) size (λ x p n. mark_rereads kind.Abstract (counted (suc depth) 0) x) (λ x us. mark_is_so kind.Abstract x) abstract_place (any_option abstract_place) (omega (arith, short, long, long2, long3))) (λ more m. ((other_mark kind.Abstract kind.Action action refl), tt))
      (reread_mark _ kind.Action (counted (suc depth) 0) _ action _ _ _
      (reread_name _ (counted (suc depth) 0) _ name _ _ _
      (reread_part _ (EndsOption (is_at kind.Colon) (IsNo kind.ColonColon)) (option_by (is_at kind.Colon) (base_by (suc depth))) _ (spell_option spell_base base) _ base _ _ _ (reread_option spell_base IsAny (counts_base (suc depth)) (is_at kind.Colon) (IsNo kind.ColonColon) (base_by (suc depth)) size (λ x p n. (base_rereads (suc depth) x)) (λ x us. base_begins (λ n. is_at kind.Colon n ≡ true) (mark_is_so kind.Colon) x us) base (any_option base) (omega (arith, short, long, long2, long3))) (λ more m. ((other_mark kind.Colon kind.LeftBrace left_brace refl), (other_mark kind.ColonColon kind.LeftBrace left_brace refl)))
      (reread_mark _ kind.LeftBrace (counted (suc depth) 0) _ left_brace _ _ _
      (reread_part _ (EndsOption (is_other kind.RightBrace) (IsNo kind.Else)) (list_by (is_other kind.RightBrace) (action_part_by activity body size (suc depth)) size) _ (flat_map spell_action_part parts) _ parts _ _ _ (reread_list spell_action_part IsProperActionPart (taken_action_part (suc depth)) (is_other kind.RightBrace) (IsNo kind.Else) (action_part_by activity body size (suc depth)) size size (λ x p n. (action_part_rereads size (suc depth) x p n)) (λ x us p. action_part_starts x us) action_part_some parts proper (omega (arith, short, long, long2, long3)) (omega (arith, short, long, long2, long3))) (λ more m. ((ends_there kind.RightBrace right_brace), (other_mark kind.Else kind.RightBrace right_brace refl)))
      (reread_mark _ kind.RightBrace (counted (suc depth) 0) _ right_brace _ _ _
      (reread_done _ _)))))))
