-- Components, and parts of a unit, read what they spell again.
use Rattle.pst_ast.specs.ActivityLimits.{counts_activity}
use Rattle.pst_ast.specs.ActivityProper.{IsProperActivity}
use Rattle.pst_ast.specs.ActivitySpelling.{spell_activity}
use Rattle.pst_ast.specs.ActivityTree.{ActivityTree}
use Rattle.pst_ast.specs.BodyLimits.{counts_body}
use Rattle.pst_ast.specs.BodyProper.{IsProperBody}
use Rattle.pst_ast.specs.BodySpelling.{spell_body}
use Rattle.pst_ast.specs.BodyTree.{BodyTree}
use Rattle.pst_ast.specs.DeclarationLimits.{counts_members, counts_enum, counts_function, counts_pool, counts_pool_bind}
use Rattle.pst_ast.specs.DeclarationProper.{IsProperComponentPart, IsProperComponent, IsProperItem}
use Rattle.pst_ast.specs.DeclarationSpelling.{spell_members, spell_action, spell_object, spell_enum, spell_function, spell_pool, spell_pool_bind, spell_component_part, spell_component, spell_item}
use Rattle.pst_ast.specs.DeclarationTree.{EnumTree, FunctionTree, PoolTree, PoolBindTree, ComponentPartTree, ComponentTree, ItemTree, MakeEnum, MakeFunction, MakePool, MakePoolBind, ComponentPartAction, ComponentPartObject, ComponentPartEnum, ComponentPartFunction, ComponentPartPool, ComponentPartPoolBind, ComponentPartMembers, ComponentPartEmpty, MakeComponent, ItemComponent, ItemObject, ItemEnum, ItemFunction, ItemEmpty}
use Rattle.pst_ast.specs.Limits.{counted}
use Rattle.pst_ast.specs.Marks.{mark, name_token}
use Rattle.pst_ast.specs.declared.leaf.Name.{Name}
use Rattle.pst_base.specs.declared.position.Place.{Place}
use Rattle.pst_parse_decl.proofs.ActionsAgain.{members_begins, action_begins, action_rereads}
use Rattle.pst_parse_member.proofs.EnumsAgain.{enum_rereads, function_rereads}
use Rattle.pst_parse_part.proofs.Following.{other_mark, other_name, ends_there, reread_next, reread_made, reread_empty}
use Rattle.pst_parse_member.proofs.MembersAgain.{members_rereads}
use Rattle.pst_parse_decl.proofs.ObjectsAgain.{part_starts, some_token, object_rereads, object_begins, IsThere}
use Rattle.pst_parse_member.proofs.PoolsAgain.{pool_rereads, pool_bind_rereads}
use Rattle.pst_parse_decl.proofs.Taken.{taken_object, taken_action, taken_component_part, taken_component, taken_item}
use Rattle.pst_parse_decl.specs.Actions.{action_by}
use Rattle.pst_parse_decl.specs.Components.{item_by, begins_object, begins_action, component_by, component_part_by}
use Rattle.pst_parse_member.specs.Enums.{function_by, enum_by}
use Rattle.pst_parse_member.specs.Members.{members_by}
use Rattle.pst_parse_decl.specs.Objects.{object_by}
use Rattle.pst_parse_member.specs.Pools.{pool_by, pool_bind_by}
use Rattle.pst_parse_operator.proofs.Stops.{IsNo}
use Rattle.pst_parse_expr.specs.Constraints.{Within, is_at, is_other}
use Rattle.pst_reading.proofs.Lists.{StartsPart}
use Rattle.pst_reading.proofs.Rereading.{Rereads, Anything, reread_done, reread_mark, reread_name, reread_part, reread_choice, EndsOption, reread_list}
use Rattle.pst_reading.proofs.Tokens.{mark_is_so}
use Rattle.pst_reading.specs.Kinds.{is_mark}
use Rattle.pst_reading.specs.Lists.{list_by}
use Rattle.pst_reading.specs.Parser.{next}
use Rattle.pst_token.specs.declared.kind.Kind.TheVariants as kind
use Rattle.pst_token.specs.declared.token.Token.{Token}
use Rattle.std.proofs.Common.{refl, arith, length-append, ℕ, suc, ◌≤◌, ◌≡◌, true, false, List, [], ◌∷◌, ◌++◌, Option, Some, length}
use Rattle.std.specs.List.{flat_map}

pub enum_begins : (E : Option Token → Type 0) → ((place : Place) → E (Some (mark kind.Enum place))) → (x : EnumTree) (us : List Token) → E (next (spell_enum x ++ us))
enum_begins E h (MakeEnum enum_place name left_brace first rest right_brace) us = h enum_place

pub function_begins : (E : Option Token → Type 0) → ((place : Place) → E (Some (mark kind.Import place))) → (x : FunctionTree) (us : List Token) → E (next (spell_function x ++ us))
function_begins E h (MakeFunction import_place target function answer name left_parenthesis parameters right_parenthesis semicolon) us = h import_place

pub pool_begins : (E : Option Token → Type 0) → ((place : Place) → E (Some (mark kind.Pool place))) → (x : PoolTree) (us : List Token) → E (next (spell_pool x ++ us))
pool_begins E h (MakePool pool pool_size object name semicolon) us = h pool

pub pool_bind_begins : (E : Option Token → Type 0) → ((place : Place) → E (Some (mark kind.Bind place))) → (x : PoolBindTree) (us : List Token) → E (next (spell_pool_bind x ++ us))
pool_bind_begins E h (MakePoolBind bind pool targets semicolon) us = h bind

pub component_begins : (E : Option Token → Type 0) → ((place : Place) → E (Some (mark kind.Component place))) → (x : ComponentTree) (us : List Token) → E (next (spell_component x ++ us))
component_begins E h (MakeComponent component name left_brace parts right_brace) us = h component

begins_action_at_abstract : (p : Place) → begins_action (Some (mark kind.Abstract p)) ≡ true
unfolding is_mark
begins_action_at_abstract p = refl

begins_action_at_action : (p : Place) → begins_action (Some (mark kind.Action p)) ≡ true
unfolding is_mark
begins_action_at_action p = refl

begins_action_at_bind : (p : Place) → begins_action (Some (mark kind.Bind p)) ≡ false
unfolding is_mark
begins_action_at_bind p = refl

begins_action_at_buffer : (p : Place) → begins_action (Some (mark kind.Buffer p)) ≡ false
unfolding is_mark
begins_action_at_buffer p = refl

begins_action_at_enum : (p : Place) → begins_action (Some (mark kind.Enum p)) ≡ false
unfolding is_mark
begins_action_at_enum p = refl

begins_action_at_import : (p : Place) → begins_action (Some (mark kind.Import p)) ≡ false
unfolding is_mark
begins_action_at_import p = refl

begins_action_at_name : (n : Name) → begins_action (Some (name_token n)) ≡ false
unfolding is_mark
begins_action_at_name n = refl

begins_action_at_pool : (p : Place) → begins_action (Some (mark kind.Pool p)) ≡ false
unfolding is_mark
begins_action_at_pool p = refl

begins_action_at_resource : (p : Place) → begins_action (Some (mark kind.Resource p)) ≡ false
unfolding is_mark
begins_action_at_resource p = refl

begins_action_at_semicolon : (p : Place) → begins_action (Some (mark kind.Semicolon p)) ≡ false
unfolding is_mark
begins_action_at_semicolon p = refl

begins_action_at_state : (p : Place) → begins_action (Some (mark kind.State p)) ≡ false
unfolding is_mark
begins_action_at_state p = refl

begins_action_at_stream : (p : Place) → begins_action (Some (mark kind.Stream p)) ≡ false
unfolding is_mark
begins_action_at_stream p = refl

begins_object_at_bind : (p : Place) → begins_object (Some (mark kind.Bind p)) ≡ false
unfolding is_mark
begins_object_at_bind p = refl

begins_object_at_buffer : (p : Place) → begins_object (Some (mark kind.Buffer p)) ≡ true
unfolding is_mark
begins_object_at_buffer p = refl

begins_object_at_enum : (p : Place) → begins_object (Some (mark kind.Enum p)) ≡ false
unfolding is_mark
begins_object_at_enum p = refl

begins_object_at_import : (p : Place) → begins_object (Some (mark kind.Import p)) ≡ false
unfolding is_mark
begins_object_at_import p = refl

begins_object_at_name : (n : Name) → begins_object (Some (name_token n)) ≡ false
unfolding is_mark
begins_object_at_name n = refl

begins_object_at_pool : (p : Place) → begins_object (Some (mark kind.Pool p)) ≡ false
unfolding is_mark
begins_object_at_pool p = refl

begins_object_at_resource : (p : Place) → begins_object (Some (mark kind.Resource p)) ≡ true
unfolding is_mark
begins_object_at_resource p = refl

begins_object_at_semicolon : (p : Place) → begins_object (Some (mark kind.Semicolon p)) ≡ false
unfolding is_mark
begins_object_at_semicolon p = refl

begins_object_at_state : (p : Place) → begins_object (Some (mark kind.State p)) ≡ true
unfolding is_mark
begins_object_at_state p = refl

begins_object_at_stream : (p : Place) → begins_object (Some (mark kind.Stream p)) ≡ true
unfolding is_mark
begins_object_at_stream p = refl

component_part_starts : (x : ComponentPartTree) (us : List Token) → StartsPart (is_other kind.RightBrace) Anything (spell_component_part x ++ us)
component_part_starts (ComponentPartAction x) us = part_starts Anything _ (action_begins (IsNo kind.RightBrace) (λ p. other_mark kind.RightBrace kind.Abstract p refl) (λ p. other_mark kind.RightBrace kind.Action p refl) x us) tt
component_part_starts (ComponentPartObject x) us = part_starts Anything _ (object_begins (IsNo kind.RightBrace) (λ p. other_mark kind.RightBrace kind.Buffer p refl) (λ p. other_mark kind.RightBrace kind.Stream p refl) (λ p. other_mark kind.RightBrace kind.State p refl) (λ p. other_mark kind.RightBrace kind.Resource p refl) x us) tt
component_part_starts (ComponentPartEnum x) us = part_starts Anything _ (enum_begins (IsNo kind.RightBrace) (λ p. other_mark kind.RightBrace kind.Enum p refl) x us) tt
component_part_starts (ComponentPartFunction x) us = part_starts Anything _ (function_begins (IsNo kind.RightBrace) (λ p. other_mark kind.RightBrace kind.Import p refl) x us) tt
component_part_starts (ComponentPartPool x) us = part_starts Anything _ (pool_begins (IsNo kind.RightBrace) (λ p. other_mark kind.RightBrace kind.Pool p refl) x us) tt
component_part_starts (ComponentPartPoolBind x) us = part_starts Anything _ (pool_bind_begins (IsNo kind.RightBrace) (λ p. other_mark kind.RightBrace kind.Bind p refl) x us) tt
component_part_starts (ComponentPartMembers x) us = part_starts Anything _ (members_begins (IsNo kind.RightBrace) (λ p. other_name kind.RightBrace p refl) x us) tt
component_part_starts (ComponentPartEmpty place) us = part_starts Anything _ (other_mark kind.RightBrace kind.Semicolon place refl) tt

component_part_some : (x : ComponentPartTree) → 1 ≤ length (spell_component_part x)
component_part_some (ComponentPartAction x) = some_token _ (action_begins IsThere (λ p. tt) (λ p. tt) x [])
component_part_some (ComponentPartObject x) = some_token _ (object_begins IsThere (λ p. tt) (λ p. tt) (λ p. tt) (λ p. tt) x [])
component_part_some (ComponentPartEnum x) = some_token _ (enum_begins IsThere (λ p. tt) x [])
component_part_some (ComponentPartFunction x) = some_token _ (function_begins IsThere (λ p. tt) x [])
component_part_some (ComponentPartPool x) = some_token _ (pool_begins IsThere (λ p. tt) x [])
component_part_some (ComponentPartPoolBind x) = some_token _ (pool_bind_begins IsThere (λ p. tt) x [])
component_part_some (ComponentPartMembers x) = some_token _ (members_begins IsThere (λ p. tt) x [])
component_part_some (ComponentPartEmpty place) = omega arith

module _ (activity : ℕ → Within ActivityTree) (body : ℕ → Within BodyTree) (activity_rereads : (size depth : ℕ) (x : ActivityTree) → IsProperActivity x → length (spell_activity x) ≤ size → Rereads Anything (activity size depth) (spell_activity x) (counts_activity depth x) x) (body_rereads : (size depth : ℕ) (x : BodyTree) → IsProperBody x → length (spell_body x) ≤ size → Rereads Anything (body size depth) (spell_body x) (counts_body depth x) x) where
  pub component_part_rereads : (size depth : ℕ) (x : ComponentPartTree) → IsProperComponentPart x → length (spell_component_part x) ≤ size → Rereads Anything (component_part_by activity body size depth) (spell_component_part x) (taken_component_part depth x) x
  component_part_rereads size depth (ComponentPartAction x) proper short =
      reread_next _ begins_action _ _ _ _ _ true (λ more m. action_begins (λ n. begins_action n ≡ true) (λ p. begins_action_at_abstract p) (λ p. begins_action_at_action p) x more)
      (reread_made _ (action_by activity body size depth) ComponentPartAction (spell_action x) (taken_action depth x) x (action_rereads activity body activity_rereads body_rereads size depth x proper short))
  component_part_rereads size depth (ComponentPartObject x) proper short =
      reread_next _ begins_action _ _ _ _ _ false (λ more m. object_begins (λ n. begins_action n ≡ false) (λ p. begins_action_at_buffer p) (λ p. begins_action_at_stream p) (λ p. begins_action_at_state p) (λ p. begins_action_at_resource p) x more)
      (reread_next _ begins_object _ _ _ _ _ true (λ more m. object_begins (λ n. begins_object n ≡ true) (λ p. begins_object_at_buffer p) (λ p. begins_object_at_stream p) (λ p. begins_object_at_state p) (λ p. begins_object_at_resource p) x more)
      (reread_made _ (object_by size depth) ComponentPartObject (spell_object x) (taken_object depth x) x (object_rereads size depth x proper short)))
  component_part_rereads size depth (ComponentPartEnum x) proper short =
      reread_next _ begins_action _ _ _ _ _ false (λ more m. enum_begins (λ n. begins_action n ≡ false) (λ p. begins_action_at_enum p) x more)
      (reread_next _ begins_object _ _ _ _ _ false (λ more m. enum_begins (λ n. begins_object n ≡ false) (λ p. begins_object_at_enum p) x more)
      (reread_choice _ kind.Enum _ _ _ _ _ true (λ more m. enum_begins (λ n. is_at kind.Enum n ≡ true) (λ p. mark_is_so kind.Enum p) x more)
      (reread_made _ (enum_by size depth) ComponentPartEnum (spell_enum x) (counts_enum depth x) x (enum_rereads size depth x proper short))))
  component_part_rereads size depth (ComponentPartFunction x) proper short =
      reread_next _ begins_action _ _ _ _ _ false (λ more m. function_begins (λ n. begins_action n ≡ false) (λ p. begins_action_at_import p) x more)
      (reread_next _ begins_object _ _ _ _ _ false (λ more m. function_begins (λ n. begins_object n ≡ false) (λ p. begins_object_at_import p) x more)
      (reread_choice _ kind.Enum _ _ _ _ _ false (λ more m. function_begins (λ n. is_at kind.Enum n ≡ false) (λ p. other_mark kind.Enum kind.Import p refl) x more)
      (reread_choice _ kind.Import _ _ _ _ _ true (λ more m. function_begins (λ n. is_at kind.Import n ≡ true) (λ p. mark_is_so kind.Import p) x more)
      (reread_made _ (function_by size depth) ComponentPartFunction (spell_function x) (counts_function depth x) x (function_rereads size depth x proper short)))))
  component_part_rereads size depth (ComponentPartPool x) proper short =
      reread_next _ begins_action _ _ _ _ _ false (λ more m. pool_begins (λ n. begins_action n ≡ false) (λ p. begins_action_at_pool p) x more)
      (reread_next _ begins_object _ _ _ _ _ false (λ more m. pool_begins (λ n. begins_object n ≡ false) (λ p. begins_object_at_pool p) x more)
      (reread_choice _ kind.Enum _ _ _ _ _ false (λ more m. pool_begins (λ n. is_at kind.Enum n ≡ false) (λ p. other_mark kind.Enum kind.Pool p refl) x more)
      (reread_choice _ kind.Import _ _ _ _ _ false (λ more m. pool_begins (λ n. is_at kind.Import n ≡ false) (λ p. other_mark kind.Import kind.Pool p refl) x more)
      (reread_choice _ kind.Pool _ _ _ _ _ true (λ more m. pool_begins (λ n. is_at kind.Pool n ≡ true) (λ p. mark_is_so kind.Pool p) x more)
      (reread_made _ (pool_by size depth) ComponentPartPool (spell_pool x) (counts_pool depth x) x (pool_rereads size depth x proper short))))))
  component_part_rereads size depth (ComponentPartPoolBind x) proper short =
      reread_next _ begins_action _ _ _ _ _ false (λ more m. pool_bind_begins (λ n. begins_action n ≡ false) (λ p. begins_action_at_bind p) x more)
      (reread_next _ begins_object _ _ _ _ _ false (λ more m. pool_bind_begins (λ n. begins_object n ≡ false) (λ p. begins_object_at_bind p) x more)
      (reread_choice _ kind.Enum _ _ _ _ _ false (λ more m. pool_bind_begins (λ n. is_at kind.Enum n ≡ false) (λ p. other_mark kind.Enum kind.Bind p refl) x more)
      (reread_choice _ kind.Import _ _ _ _ _ false (λ more m. pool_bind_begins (λ n. is_at kind.Import n ≡ false) (λ p. other_mark kind.Import kind.Bind p refl) x more)
      (reread_choice _ kind.Pool _ _ _ _ _ false (λ more m. pool_bind_begins (λ n. is_at kind.Pool n ≡ false) (λ p. other_mark kind.Pool kind.Bind p refl) x more)
      (reread_choice _ kind.Bind _ _ _ _ _ true (λ more m. pool_bind_begins (λ n. is_at kind.Bind n ≡ true) (λ p. mark_is_so kind.Bind p) x more)
      (reread_made _ (pool_bind_by size depth) ComponentPartPoolBind (spell_pool_bind x) (counts_pool_bind depth x) x (pool_bind_rereads size depth x proper short)))))))
  component_part_rereads size depth (ComponentPartMembers x) proper short =
      reread_next _ begins_action _ _ _ _ _ false (λ more m. members_begins (λ n. begins_action n ≡ false) (λ p. begins_action_at_name p) x more)
      (reread_next _ begins_object _ _ _ _ _ false (λ more m. members_begins (λ n. begins_object n ≡ false) (λ p. begins_object_at_name p) x more)
      (reread_choice _ kind.Enum _ _ _ _ _ false (λ more m. members_begins (λ n. is_at kind.Enum n ≡ false) (λ p. other_name kind.Enum p refl) x more)
      (reread_choice _ kind.Import _ _ _ _ _ false (λ more m. members_begins (λ n. is_at kind.Import n ≡ false) (λ p. other_name kind.Import p refl) x more)
      (reread_choice _ kind.Pool _ _ _ _ _ false (λ more m. members_begins (λ n. is_at kind.Pool n ≡ false) (λ p. other_name kind.Pool p refl) x more)
      (reread_choice _ kind.Bind _ _ _ _ _ false (λ more m. members_begins (λ n. is_at kind.Bind n ≡ false) (λ p. other_name kind.Bind p refl) x more)
      (reread_choice _ kind.Semicolon _ _ _ _ _ false (λ more m. members_begins (λ n. is_at kind.Semicolon n ≡ false) (λ p. other_name kind.Semicolon p refl) x more)
      (reread_made _ (members_by size depth) ComponentPartMembers (spell_members x) (counts_members depth x) x (members_rereads size depth x proper short))))))))
  component_part_rereads size depth (ComponentPartEmpty place) proper short =
      reread_next _ begins_action _ _ _ _ _ false (λ more m. begins_action_at_semicolon place)
      (reread_next _ begins_object _ _ _ _ _ false (λ more m. begins_object_at_semicolon place)
      (reread_choice _ kind.Enum _ _ _ _ _ false (λ more m. other_mark kind.Enum kind.Semicolon place refl)
      (reread_choice _ kind.Import _ _ _ _ _ false (λ more m. other_mark kind.Import kind.Semicolon place refl)
      (reread_choice _ kind.Pool _ _ _ _ _ false (λ more m. other_mark kind.Pool kind.Semicolon place refl)
      (reread_choice _ kind.Bind _ _ _ _ _ false (λ more m. other_mark kind.Bind kind.Semicolon place refl)
      (reread_choice _ kind.Semicolon _ _ _ _ _ true (λ more m. mark_is_so kind.Semicolon place)
      (reread_empty kind.Semicolon (counted depth 0) ComponentPartEmpty place _)))))))

  pub component_rereads : (size depth : ℕ) (x : ComponentTree) → IsProperComponent x → length (spell_component x) ≤ size → Rereads Anything (component_by activity body size depth) (spell_component x) (taken_component depth x) x
  component_rereads size depth (MakeComponent component name left_brace parts right_brace) proper short =
      let long = length-append (flat_map spell_component_part parts) (mark kind.RightBrace right_brace ∷ []) in
      reread_mark _ kind.Component (counted (suc depth) 0) _ component _ _ _
      (reread_name _ (counted (suc depth) 0) _ name _ _ _
      (reread_mark _ kind.LeftBrace (counted (suc depth) 0) _ left_brace _ _ _
      (reread_part _ (EndsOption (is_other kind.RightBrace) Anything) (list_by (is_other kind.RightBrace) (component_part_by activity body size (suc depth)) size) _ (flat_map spell_component_part parts) _ parts _ _ _ (reread_list spell_component_part IsProperComponentPart (taken_component_part (suc depth)) (is_other kind.RightBrace) Anything (component_part_by activity body size (suc depth)) size size (λ x p n. (component_part_rereads size (suc depth) x p n)) (λ x us p. component_part_starts x us) component_part_some parts proper (omega (arith, short, long)) (omega (arith, short, long))) (λ more m. ((ends_there kind.RightBrace right_brace), tt))
      (reread_mark _ kind.RightBrace (counted (suc depth) 0) _ right_brace _ _ _
      (reread_done _ _)))))

  pub item_rereads : (size depth : ℕ) (x : ItemTree) → IsProperItem x → length (spell_item x) ≤ size → Rereads Anything (item_by activity body size depth) (spell_item x) (taken_item depth x) x
  item_rereads size depth (ItemComponent x) proper short =
      reread_choice _ kind.Component _ _ _ _ _ true (λ more m. component_begins (λ n. is_at kind.Component n ≡ true) (λ p. mark_is_so kind.Component p) x more)
      (reread_made _ (component_by activity body size depth) ItemComponent (spell_component x) (taken_component depth x) x (component_rereads size depth x proper short))
  item_rereads size depth (ItemObject x) proper short =
      reread_choice _ kind.Component _ _ _ _ _ false (λ more m. object_begins (λ n. is_at kind.Component n ≡ false) (λ p. other_mark kind.Component kind.Buffer p refl) (λ p. other_mark kind.Component kind.Stream p refl) (λ p. other_mark kind.Component kind.State p refl) (λ p. other_mark kind.Component kind.Resource p refl) x more)
      (reread_choice _ kind.Enum _ _ _ _ _ false (λ more m. object_begins (λ n. is_at kind.Enum n ≡ false) (λ p. other_mark kind.Enum kind.Buffer p refl) (λ p. other_mark kind.Enum kind.Stream p refl) (λ p. other_mark kind.Enum kind.State p refl) (λ p. other_mark kind.Enum kind.Resource p refl) x more)
      (reread_choice _ kind.Import _ _ _ _ _ false (λ more m. object_begins (λ n. is_at kind.Import n ≡ false) (λ p. other_mark kind.Import kind.Buffer p refl) (λ p. other_mark kind.Import kind.Stream p refl) (λ p. other_mark kind.Import kind.State p refl) (λ p. other_mark kind.Import kind.Resource p refl) x more)
      (reread_choice _ kind.Semicolon _ _ _ _ _ false (λ more m. object_begins (λ n. is_at kind.Semicolon n ≡ false) (λ p. other_mark kind.Semicolon kind.Buffer p refl) (λ p. other_mark kind.Semicolon kind.Stream p refl) (λ p. other_mark kind.Semicolon kind.State p refl) (λ p. other_mark kind.Semicolon kind.Resource p refl) x more)
      (reread_made _ (object_by size depth) ItemObject (spell_object x) (taken_object depth x) x (object_rereads size depth x proper short)))))
  item_rereads size depth (ItemEnum x) proper short =
      reread_choice _ kind.Component _ _ _ _ _ false (λ more m. enum_begins (λ n. is_at kind.Component n ≡ false) (λ p. other_mark kind.Component kind.Enum p refl) x more)
      (reread_choice _ kind.Enum _ _ _ _ _ true (λ more m. enum_begins (λ n. is_at kind.Enum n ≡ true) (λ p. mark_is_so kind.Enum p) x more)
      (reread_made _ (enum_by size depth) ItemEnum (spell_enum x) (counts_enum depth x) x (enum_rereads size depth x proper short)))
  item_rereads size depth (ItemFunction x) proper short =
      reread_choice _ kind.Component _ _ _ _ _ false (λ more m. function_begins (λ n. is_at kind.Component n ≡ false) (λ p. other_mark kind.Component kind.Import p refl) x more)
      (reread_choice _ kind.Enum _ _ _ _ _ false (λ more m. function_begins (λ n. is_at kind.Enum n ≡ false) (λ p. other_mark kind.Enum kind.Import p refl) x more)
      (reread_choice _ kind.Import _ _ _ _ _ true (λ more m. function_begins (λ n. is_at kind.Import n ≡ true) (λ p. mark_is_so kind.Import p) x more)
      (reread_made _ (function_by size depth) ItemFunction (spell_function x) (counts_function depth x) x (function_rereads size depth x proper short))))
  item_rereads size depth (ItemEmpty place) proper short =
      reread_choice _ kind.Component _ _ _ _ _ false (λ more m. other_mark kind.Component kind.Semicolon place refl)
      (reread_choice _ kind.Enum _ _ _ _ _ false (λ more m. other_mark kind.Enum kind.Semicolon place refl)
      (reread_choice _ kind.Import _ _ _ _ _ false (λ more m. other_mark kind.Import kind.Semicolon place refl)
      (reread_choice _ kind.Semicolon _ _ _ _ _ true (λ more m. mark_is_so kind.Semicolon place)
      (reread_empty kind.Semicolon (counted depth 0) ItemEmpty place _))))
