-- The numbers of spans that are kept.
use Rattle.std.proofs.Common.{◌≡◌, ◌↔◌, inl, inr, arith, ℕ, length, refl, sym, ap, subst, ◌∙◌}
use Rattle.std.specs.Prelude.{ℤ, ◌≤ℤ◌, List, [], ◌∷◌, Option, Some, None}
use Rattle.std.specs.Option.{option_map}
use Rattle.pst_base.specs.declared.position.Place.{Place}
use Rattle.pst_ast.specs.ExpressionTree.{ExprTree}
use Rattle.pst_ast.specs.ExpressionView.{view_ranges}
use Rattle.pst_ast.specs.declared.expression.RangesNode.{RangesNode}
use Rattle.pst_ast.specs.SharedTree.{DomainTree, TypeTree, TypePlain, TypeNamed}
use Rattle.pst_expr.specs.declared.ranges.Span.{Span}
use Rattle.pst_expr.specs.Spans.{IsInSpan, IsInSpans}
use Rattle.pst_ast.specs.declared.scope_declaration.Declaration.{Declaration}
use Rattle.pst_ast.specs.declared.environment.Environment.{Environment}
use Rattle.pst_type_rules.specs.Domains.{ranges_of}
use Rattle.pst_enum_values.specs.Gathered.{EnumPlaces}
use Rattle.pst_joined_spans.specs.Joined.{AreJoined, HaveCommon, HaveSame}
use Rattle.pst_joined_spans.proofs.In.{In, from_any, to_any}
use Rattle.pst_joined_spans.proofs.Joining.{to_joined}
use Rattle.pst_field_domains.proofs.Parts.{some_is, none_is_some}
use Rattle.pst_field_domains.specs.Known.{AreCut, AreNamed, ArePlain, AreTyped, AreWithin, HasItem, IsFound, known_spans}

pub none_joined : AreJoined []
none_joined = to_joined [] tt

-- one span that isn't reversed is joined
pub one_joined : (s : Span) → s.low ≤ℤ s.high → AreJoined (s ∷ [])
one_joined s up = to_joined (s ∷ []) (up, tt, tt)

module _ (value : ExprTree → Option ℤ) where
  pub are_within : (base : List Span) (ranges : RangesNode) (spans kept common found : List Span) → spans ≡ known_spans value (ranges_of (view_ranges ranges)) → HaveSame kept spans → HaveCommon base kept common
      → AreJoined found → HaveSame found common → AreWithin value base ranges found
  are_within base ranges spans kept common found is same both joined last = (
    joined,
    λ v. (
      λ h. let c = (both v).0 ((last v).0 h) in (c.0, subst (IsInSpans v) is ((same v).0 c.1)),
      λ h. (last v).1 ((both v).1 (h.0, (same v).1 (subst (IsInSpans v) (sym is) h.1))),
    ),
  )

  pub all_kept : (base found : List Span) → AreJoined found → HaveSame found base → AreCut value base None found
  all_kept base found joined same = (joined, λ v. (λ h. ((same v).0 h, tt), λ h. (same v).1 h.0))

  -- ---- plain types

  no_plain : (base : Option Span) (domain : Option DomainTree) → base ≡ None → ArePlain value base domain []
  no_plain base domain is = (none_joined, λ v. (λ h. absurd (from_any v [] h), λ h. absurd (none_is_some h.0 (sym is ∙ h.1))))

  pub plain_unknown : (base : Option Span) (domain : Option DomainTree) (found : List Span) → base ≡ None → found ≡ [] → ArePlain value base domain found
  plain_unknown base domain found is none = subst (λ (l : List Span). ArePlain value base domain l) (sym none) (no_plain base domain is)

  one : (v : ℤ) (s : Span) → In v (s ∷ []) → IsInSpan v s
  one v s (inl h) = h
  one v s (inr h) = absurd h

  pub plain_cut : (base : Option Span) (s : Span) (domain : Option DomainTree) (spans : List Span) → base ≡ Some s → AreCut value (s ∷ []) domain spans → ArePlain value base domain spans
  plain_cut base s domain spans is cut = (
    cut.0,
    λ v. (
      λ h. let c = (cut.1 v).0 h in (s, is, one v s (from_any v (s ∷ []) c.0), c.1),
      λ h. (cut.1 v).1 (to_any v (s ∷ []) (inl (subst (IsInSpan v) (some_is h.0 s (sym h.1 ∙ is)) h.2)), h.3),
    ),
  )

  -- ---- enums

  no_named : (known : Place → Option ℤ) (enum : Option EnumPlaces) (domain : Option DomainTree) → IsFound known enum None → AreNamed value known enum domain []
  no_named known None domain found = (none_joined, λ v. (λ h. absurd (from_any v [] h), λ h. absurd (none_is_some h.0 h.1)))
  no_named known (Some e) domain found = absurd found

  pub named_unknown : (known : Place → Option ℤ) (enum : Option EnumPlaces) (domain : Option DomainTree) (spans : List Span) → spans ≡ [] → IsFound known enum None → AreNamed value known enum domain spans
  named_unknown known enum domain spans none found = subst (λ (l : List Span). AreNamed value known enum domain l) (sym none) (no_named known enum domain found)

  pub named_cut : (known : Place → Option ℤ) (enum : Option EnumPlaces) (row : List Span) (domain : Option DomainTree) (spans : List Span) → IsFound known enum (Some row) → AreCut value row domain spans
      → AreNamed value known enum domain spans
  named_cut known None row domain spans found cut = absurd found
  named_cut known (Some e) row domain spans found cut = (
    cut.0,
    λ v. (
      λ h. let c = (cut.1 v).0 h in (e, refl, (found.1 v).0 c.0, c.1),
      λ h. (cut.1 v).1 ((found.1 v).1 (subst (λ (x : EnumPlaces). HasItem known x.items v) (some_is h.0 e (sym h.1)) h.2), h.3),
    ),
  )

-- ---- types

pub joined_typed : (value : ExprTree → Option ℤ) (known : Place → Option ℤ) (ds : List Declaration) (enums : List EnumPlaces) (at : Environment) (type : TypeTree) (spans : List Span)
    → AreTyped value known ds enums at type spans → AreJoined spans
joined_typed value known ds enums at (TypePlain plain domain) spans is = is.0
joined_typed value known ds enums at (TypeNamed name domain) spans is = is.0
