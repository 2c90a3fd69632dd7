-- Pairs that tie an end twice are those that bind it twice.
use Rattle.std.proofs.Common.{◌≡◌, ◌⊎◌, inl, inr, ℕ, ◌+◌, ◌<◌, Bool, true, false, List, ◌∷◌, length, map, Option, refl, sym, ap, subst, ◌∙◌, arith, true≢false}
use Rattle.std.specs.Prelude.{Some, None, slice_get}
use Rattle.std.specs.Option.{option_map_or, option_and_then}
use Rattle.std.proofs.lemmas.Option.{slice_get_within}
use Rattle.pst_base.specs.declared.position.Place.{Place}
use Rattle.pst_base.specs.Laws.{BeforeGoesOn}
use Rattle.pst_ast.specs.DeclarationTree.{UnitTree}
use Rattle.pst_ast.specs.declared.activity.EndNode.{EndNode}
use Rattle.pst_ast.specs.declared.scope_declaration.Declaration.{Declaration}
use Rattle.pst_ast.specs.declared.environment.Environment.{Environment}
use Rattle.pst_ast.specs.declared.referent.Finding.{Finding}
use Rattle.pst_ast.specs.Declarations.{declarations}
use Rattle.pst_ast.specs.Lookups.{type_of}
use Rattle.pst_type_rules.specs.Binds.{Pair, pairs, BindTwice, Input, StreamOutput, IsSameEnd, IsStreamEnd, reference_at, is_stream}
use Rattle.pst_name_rules.specs.Earlier.{earlier}
use Rattle.pst_name_rules.specs.Leasts.{IsLeastOf}
use Rattle.pst_name_rules.proofs.Leasts.{told, least_of_both}
use Rattle.pst_handle_uses.specs.declared.handle_use.Tied.{Tied}
use Rattle.pst_handle_uses.specs.Handled.{tied, is_stream_end}
use Rattle.pst_handle_rules.specs.Twice.{IsTiedTwice, IsTwiceAt, IsTwiceBefore, twice_at}
use Rattle.pst_handle_rules.specs.Broken.{IsBoundTwice}
use Rattle.pst_handle_rules.proofs.Firsts.{below_or}
use Rattle.pst_handle_rules.proofs.Elements.{placed, split_at, at_length, in_front, imaged, image_at}

-- ---- one more pair

pub next_least : (on : BeforeGoesOn) (ties : List Tied) (n : ℕ) (least found result : Option Finding) → IsLeastOf (IsTwiceBefore ties n) least → IsLeastOf (IsTwiceAt ties n) found
    → result ≡ earlier least found → IsLeastOf (IsTwiceBefore ties (n + 1)) result
next_least on ties n least found result before here is =
    subst (IsLeastOf (IsTwiceBefore ties (n + 1))) (sym is)
    (told on (λ f. IsTwiceBefore ties n f ⊎ IsTwiceAt ties n f) (IsTwiceBefore ties (n + 1)) (earlier least found) joined parted
    (least_of_both on (IsTwiceBefore ties n) (IsTwiceAt ties n) least found before here))
  where
    joined : (f : Finding) → IsTwiceBefore ties n f ⊎ IsTwiceAt ties n f → IsTwiceBefore ties (n + 1) f
    joined f (inl (k, l, at)) = (k, omega (arith, l), at)
    joined f (inr at) = (n, omega arith, at)

    parted : (f : Finding) → IsTwiceBefore ties (n + 1) f → IsTwiceBefore ties n f ⊎ IsTwiceAt ties n f
    parted f (k, l, at) = elim (below_or k n l) [ inl b ↦ inl (k, b, at) | inr e ↦ inr (subst (λ (i : ℕ). IsTwiceAt ties i f) e at) ]

-- ---- ends of streams

module _ (ds : List Declaration) (names : List (List ℕ)) where
  abbrev is_of_stream : Option Declaration → Bool
  is_of_stream t = option_map_or (λ (d : Declaration). is_stream d.sort) t false

  stream_true : (at : Environment) (end : EndNode) → IsStreamEnd ds names at end → is_stream_end ds names at end ≡ true
  stream_true at end h =
      ap (λ (r : Option Declaration). is_of_stream (option_and_then (type_of ds) r)) h.named
      ∙ (ap (λ (t : Option Declaration). is_of_stream t) h.typed ∙ h.stream)

  stream_is : (at : Environment) (end : EndNode) (r t : Option Declaration) → reference_at ds names at end ≡ r → option_and_then (type_of ds) r ≡ t → is_of_stream t ≡ true → IsStreamEnd ds names at end
  stream_is at end None None named typed e = absurd (true≢false (sym e))
  stream_is at end None (Some type) named typed e = absurd (none_typed typed)
    where
      none_typed : None ≡ Some type → ⊥
      none_typed e = cc
  stream_is at end (Some reference) None named typed e = absurd (true≢false (sym e))
  stream_is at end (Some reference) (Some type) named typed e = record { reference = reference; type = type; named = named; typed = typed; stream = e }

  stream_end : (at : Environment) (end : EndNode) → is_stream_end ds names at end ≡ true → IsStreamEnd ds names at end
  stream_end at end e = stream_is at end (reference_at ds names at end) (option_and_then (type_of ds) (reference_at ds names at end)) refl refl e

-- ---- pairs of the sources

finding : Place → ℕ → Finding
finding place rule = record { place = place; rule = rule }

pub is_finding : (f : Finding) (place : Place) (rule : ℕ) → f.place ≡ place → f.rule ≡ rule → f ≡ record { place = place; rule = rule }
unfolding finding
is_finding f place rule p r = ap (λ (x : Place). finding x f.rule) p ∙ ap (λ (n : ℕ). finding place n) r

module _ (on : BeforeGoesOn) (units : List UnitTree) (names : List (List ℕ)) where
  abbrev ds : List Declaration
  ds = declarations units

  abbrev all_ties : List Tied
  all_ties = map (tied ds names) (pairs units)

  binds_twice : (k : ℕ) (p : Pair) → slice_get (pairs units) k ≡ Some p → IsTiedTwice all_ties k (tied ds names p) → (m : ℕ) × (e : Pair) × (m < k) × (slice_get (pairs units) m ≡ Some e) × BindTwice ds names e p
  binds_twice k p at (inl h) =
      let e = imaged (tied ds names) (pairs units) h.number h.earlier h.there in
      (h.number, e.0, h.before, e.1, Input (ap (λ (t : Tied). t.owner) e.2 ∙ h.owner) (subst (λ (t : Tied). IsSameEnd t.other p.other) (sym e.2) h.end))
  binds_twice k p at (inr (stream, h)) =
      let e = imaged (tied ds names) (pairs units) h.number h.earlier h.there in
      (h.number, e.0, h.before, e.1, StreamOutput (ap (λ (t : Tied). t.owner) e.2 ∙ h.owner) (subst (λ (t : Tied). IsSameEnd t.first p.first) (sym e.2) h.end) (stream_end ds names p.at p.first stream))

  to_bound : (f : Finding) → IsTwiceBefore all_ties (length all_ties) f → IsBoundTwice units names f
  to_bound f (k, l, (tie, there, twice, is)) =
      let p = imaged (tied ds names) (pairs units) k tie there in
      let b = binds_twice k p.0 p.1 (subst (IsTiedTwice all_ties k) (sym p.2) twice) in
      let s = split_at (pairs units) k p.0 p.1 in
      let at : f ≡ twice_at (tied ds names p.0) = is ∙ ap (λ (t : Tied). twice_at t) (sym p.2) in
      record {
        front = s.front;
        more = s.more;
        earlier = b.1;
        later = p.0;
        split = s.is;
        among = s.among b.0 b.1 b.2 b.3;
        twice = b.4;
        place = ap (λ (g : Finding). g.place) at;
        rule = ap (λ (g : Finding). g.rule) at;
      }

  ties_twice : (front : List Pair) (k m : ℕ) (e p : Pair) → m < k → slice_get (pairs units) m ≡ Some e → BindTwice ds names e p → IsTiedTwice all_ties k (tied ds names p)
  ties_twice front k m e p l at (Input owner end) = inl (record { number = m; earlier = tied ds names e; before = l; there = image_at (tied ds names) (pairs units) m e at; owner = owner; end = end })
  ties_twice front k m e p l at (StreamOutput owner end stream) =
      inr (stream_true ds names p.at p.first stream, record { number = m; earlier = tied ds names e; before = l; there = image_at (tied ds names) (pairs units) m e at; owner = owner; end = end })

  from_bound : (f : Finding) → IsBoundTwice units names f → IsTwiceBefore all_ties (length all_ties) f
  from_bound f h =
      let k = length h.front in
      let e = placed h.front h.earlier h.among in
      let there : slice_get (pairs units) k ≡ Some h.later = subst (λ (ps : List Pair). slice_get ps k ≡ Some h.later) (sym h.split) (at_length h.front h.more h.later) in
      let before : slice_get (pairs units) e.0 ≡ Some h.earlier = subst (λ (ps : List Pair). slice_get ps e.0 ≡ Some h.earlier) (sym h.split) (in_front h.front (h.later ∷ h.more) e.0 h.earlier e.2) in
      let at : slice_get all_ties k ≡ Some (tied ds names h.later) = image_at (tied ds names) (pairs units) k h.later there in
      (k, slice_get_within all_ties k (tied ds names h.later) at, (tied ds names h.later, at, ties_twice h.front k e.0 h.earlier h.later e.1 before h.twice, is_finding f h.later.other.handle.place 20 h.place h.rule))

  bound_here : (least : Option Finding) → IsLeastOf (IsTwiceBefore all_ties (length all_ties)) least → IsLeastOf (IsBoundTwice units names) least
  bound_here least h = told on (IsTwiceBefore all_ties (length all_ties)) (IsBoundTwice units names) least to_bound from_bound h

  pub bound : (declared : List Declaration) → declared ≡ ds → (ties : List Tied) → ties ≡ map (tied declared names) (pairs units) → (least : Option Finding) → IsLeastOf (IsTwiceBefore ties (length ties)) least
      → IsLeastOf (IsBoundTwice units names) least
  bound declared e ties is least h =
      bound_here least (subst (λ (ts : List Tied). IsLeastOf (IsTwiceBefore ts (length ts)) least) (is ∙ ap (λ (d : List Declaration). map (tied d names) (pairs units)) e) h)
