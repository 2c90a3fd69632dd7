-- Going round more than once finds nothing more.
use Rattle.std.proofs.Common.{◌≡◌, ℕ, zero, suc, ◌+◌, ◌-◌, ◌<◌, ◌≤◌, List, [], ◌∷◌, length, refl, sym, ap, ◌∙◌, subst, Option, arith, inl, inr, Bool, true, false, cond}
use Rattle.std.specs.Prelude.{Some, None, slice_get, Result, Ok, Err, OnOk, OnErr}
use Rattle.std.specs.Option.{option_or, option_and_then}
use Rattle.std.proofs.lemmas.Bool.{cases_lt}
use Rattle.std.proofs.lemmas.Option.{slice_get_within}
use Rattle.pst_base.specs.declared.table.NameId.{NameId}
use Rattle.pst_ast.specs.declared.scope_declaration.Declaration.{Declaration}
use Rattle.pst_ast.specs.declared.scope_declaration.Scope.TheVariants.{Files, Part}
use Rattle.pst_ast.specs.declared.scope_declaration.Sort.TheVariants.{Component}
use Rattle.pst_ast.specs.Lookups.{look_up, base_of, member_within}
use Rattle.pst_members.specs.declared.versions.Versions.{Versions}
use Rattle.pst_members.specs.Found.{Keeps, count, found}
use Rattle.pst_members.specs.declared.tables.Table.{Table}
use Rattle.pst_members.specs.Kept.{IsOver, IsTable}
use Rattle.pst_members.specs.Rounds.{led, IsRound, before, IsCut}

abbrev pub blank : Declaration
blank = record { name = record { id = record { 0 = 0 }; place = record { file = 0; line = 0; column = 0 } }; scope = Files; inside = None; sort = Component }

pub either_way : {T E : Type 0} (r : Result T E) (A B P : Type 0) → OnOk r A → OnErr r B → (A → P) → (B → P) → P
either_way (Ok x) A B P ok err f g = f ok
either_way (Err e) A B P ok err f g = g err

pub split_table : (P : Table → Type 0) (b : Bool) (old : Option Table) (new table : Table) → cond b (Some new) old ≡ Some table → P new → (old ≡ Some table → P table) → P table
split_table P true old new table e here there = let same : new ≡ table = cc in subst P same here
split_table P false old new table e here there = there e

pub kept_on : (first old new : Versions) → Keeps first old → Keeps old new → Keeps first new
kept_on first old new a b = record { more = omega (arith, a.more, b.more); same = λ v key le. b.same v key (omega (arith, le, a.more)) ∙ a.same v key le }

next_sum : (k m : ℕ) → suc k + m ≡ suc (k + m)
next_sum k m = omega arith

or_assoc : {X : Type 0} (a b c : Option X) → option_or (option_or a b) c ≡ option_or a (option_or b c)
or_assoc (Some x) b c = refl
or_assoc None b c = refl

or_none : {X : Type 0} (a : Option X) → option_or a None ≡ a
or_none (Some x) = refl
or_none None = refl

some_is : {X : Type 0} {x y : X} → Some x ≡ Some y → x ≡ y
some_is {X} {x} {y} e = cc

there_is : {X : Type 0} (xs : List X) (i : ℕ) → i < length xs → (x : X) × (slice_get xs i ≡ Some x)
there_is [] i le = absurd (omega (arith, le))
there_is (x ∷ xs) zero le = (x, refl)
there_is (x ∷ xs) (suc i) le = there_is xs i (omega (arith, le))

module _ (ds : List Declaration) where
  -- the first steps, and then those from where they lead
  split : (k m : ℕ) (d : Declaration) (name : NameId) → member_within (k + m) ds d name ≡ option_or (member_within k ds d name) (option_and_then (λ e. member_within m ds e name) (led k ds d))
  split zero m d name = ap (λ (n : ℕ). member_within n ds d name) (omega arith)
  split (suc k) m d name = ap (λ (n : ℕ). member_within n ds d name) (next_sum k m) ∙ by_base (base_of ds d) (λ b. split k m b name)
    where
      by_base : (base : Option Declaration) → ((b : Declaration) → member_within (k + m) ds b name ≡ option_or (member_within k ds b name) (option_and_then (λ e. member_within m ds e name) (led k ds b)))
          → option_or (look_up ds (Part d.name.place) name) (option_and_then (λ b. member_within (k + m) ds b name) base)
          ≡ option_or (option_or (look_up ds (Part d.name.place) name) (option_and_then (λ b. member_within k ds b name) base)) (option_and_then (λ e. member_within m ds e name) (option_and_then (led k ds) base))
      by_base None further = sym (or_none (option_or (look_up ds (Part d.name.place) name) None))
      by_base (Some b) further = ap (λ (x : Option Declaration). option_or (look_up ds (Part d.name.place) name) x) (further b) ∙ sym (or_assoc (look_up ds (Part d.name.place) name) (member_within k ds b name) (option_and_then (λ e. member_within m ds e name) (led k ds b)))

  -- steps after others
  led_on : (k m : ℕ) (d : Declaration) → led (k + m) ds d ≡ option_and_then (led m ds) (led k ds d)
  led_on zero m d = ap (λ (n : ℕ). led n ds d) (omega arith)
  led_on (suc k) m d = ap (λ (n : ℕ). led n ds d) (next_sum k m) ∙ by_base (base_of ds d) (λ b. led_on k m b)
    where
      by_base : (base : Option Declaration) → ((b : Declaration) → led (k + m) ds b ≡ option_and_then (led m ds) (led k ds b)) → option_and_then (led (k + m) ds) base ≡ option_and_then (led m ds) (option_and_then (led k ds) base)
      by_base None further = refl
      by_base (Some b) further = further b

  module _ (long : ℕ) (some : 0 < long) (d : Declaration) (round : led long ds d ≡ Some d) (name : NameId) where
    further : (m : ℕ) → member_within (long + m) ds d name ≡ option_or (member_within long ds d name) (member_within m ds d name)
    further m = split long m d name ∙ ap (λ (e : Option Declaration). option_or (member_within long ds d name) (option_and_then (λ x. member_within m ds x name) e)) round

    left_none : (a b : Option Declaration) → option_or a b ≡ None → a ≡ None
    left_none None b e = refl
    left_none (Some x) b e = absurd cc

    -- where going round finds nothing, no number of steps does
    nothing : member_within long ds d name ≡ None → (fuel m : ℕ) → m ≤ fuel → member_within m ds d name ≡ None
    nothing none zero zero le = refl
    nothing none zero (suc m) le = absurd (omega (arith, le))
    nothing none (suc fuel) m le = elim (cases_lt m long) [
      | inl less ↦ left_none (member_within m ds d name) (option_and_then (λ e. member_within (long - m) ds e name) (led m ds d))
          (sym (split m (long - m) d name) ∙ ap (λ (n : ℕ). member_within n ds d name) (omega (arith, less)) ∙ none)
      | inr past ↦
          ap (λ (n : ℕ). member_within n ds d name) (omega (arith, past))
          ∙ further (m - long)
          ∙ ap (λ (x : Option Declaration). option_or x (member_within (m - long) ds d name)) none
          ∙ nothing none fuel (m - long) (omega (arith, le, past, some))
    ]

    by_found : (found : Option Declaration) → member_within long ds d name ≡ found → (m : ℕ) → option_or (member_within long ds d name) (member_within m ds d name) ≡ member_within long ds d name
    by_found (Some x) is m = ap (λ (y : Option Declaration). option_or y (member_within m ds d name)) is ∙ sym is
    by_found None is m = ap (λ (y : Option Declaration). option_or y (member_within m ds d name)) is ∙ nothing is m m (omega arith) ∙ sym is

    pub once : (m : ℕ) → member_within (long + m) ds d name ≡ member_within long ds d name
    once m = further m ∙ by_found (member_within long ds d name) refl m

  module _ (round : List Declaration) (is : IsRound ds round) where
    down : (k j : ℕ) (d : Declaration) → slice_get round (k + j) ≡ Some d → led k ds d ≡ slice_get round j
    down zero j d there = sym (ap (λ (n : ℕ). slice_get round n) (omega arith) ∙ there)
    down (suc k) j d there = down_by k j d (ap (λ (n : ℕ). slice_get round n) (omega arith) ∙ there) (λ e at. down k j e at)
      where
        down_by : (k j : ℕ) (d : Declaration) → slice_get round (suc (k + j)) ≡ Some d → ((e : Declaration) → slice_get round (k + j) ≡ Some e → led k ds e ≡ slice_get round j) → led (suc k) ds d ≡ slice_get round j
        down_by k j d next further =
            let e = there_is round (k + j) (omega (arith, slice_get_within round (suc (k + j)) d next)) in
            ap (λ (b : Option Declaration). option_and_then (led k ds) b) (is.next (k + j) e.0 d e.1 next) ∙ further e.0 e.1

    -- as many steps as there are actions lead from each to itself
    pub leads_round : (j : ℕ) (d : Declaration) → slice_get round j ≡ Some d → led (length round) ds d ≡ Some d
    leads_round j d there =
        let within : j < length round = slice_get_within round j d there in
        let first = there_is round 0 (omega (arith, within)) in
        let last = there_is round (length round - 1) (omega (arith, within)) in
        let rest = length round - (j + 1) in
        ap (λ (n : ℕ). led n ds d) (omega (arith, within))
        ∙ led_on j (suc rest) d
        ∙ ap (λ (x : Option Declaration). option_and_then (led (suc rest) ds) x) (down j 0 d (ap (λ (n : ℕ). slice_get round n) (omega arith) ∙ there) ∙ first.1)
        ∙ ap (λ (b : Option Declaration). option_and_then (led rest ds) b) (is.back first.0 last.0 first.1 last.1)
        ∙ down rest j last.0 (ap (λ (n : ℕ). slice_get round n) (omega (arith, within)) ∙ last.1)
        ∙ there

    base_there : (i : ℕ) (d : Declaration) → slice_get round i ≡ Some d → base_of ds d ≡ before round i
    base_there zero d there = let last = there_is round (length round - 1) (omega (arith, slice_get_within round 0 d there)) in is.back d last.0 there last.1 ∙ sym last.1
    base_there (suc i) d there = let e = there_is round i (omega (arith, slice_get_within round (suc i) d there)) in is.next i e.0 d e.1 there ∙ sym e.1

    -- the own members of one more are put over those of its base
    pub cut_on : (old new : Versions) (version added steps i : ℕ) (d : Declaration) → slice_get round i ≡ Some d → IsCut ds old version steps (before round i) → IsOver ds (Part d.name.place) old version new added → IsCut ds new added (suc steps) (before round (suc i))
    cut_on old new version added steps i d there cut over = record {
      there = over.there;
      right = λ name.
          over.over name
          ∙ ap (λ (x : Option Declaration). option_or (look_up ds (Part d.name.place) name) x) (cut.right name ∙ ap (λ (b : Option Declaration). option_and_then (λ e. member_within steps ds e name) b) (sym (base_there i d there)))
          ∙ sym (ap (λ (x : Option Declaration). option_and_then (λ e. member_within (suc steps) ds e name) x) there);
    }

    pub cut_next : (old new : Versions) (version added i : ℕ) (d : Declaration) → slice_get round i ≡ Some d → IsCut ds old version (length round + i) (before round i) → IsOver ds (Part d.name.place) old version new added → IsCut ds new added (length round + suc i) (before round (suc i))
    cut_next old new version added i d there cut over = subst (λ (n : ℕ). IsCut ds new added n (before round (suc i))) (omega arith) (cut_on old new version added (length round + i) i d there cut over)

    -- after going round once, what is found is what any number of steps finds
    pub round_table : (versions : Versions) (version i : ℕ) (d : Declaration) (table : Table) → slice_get round i ≡ Some d → IsCut ds versions version (length round + suc i) (before round (suc i))
        → table ≡ record { action = d; version = version; bases = length round - 1 } → IsTable ds versions table
    round_table versions version i d table there cut e = subst (λ (t : Table). IsTable ds versions t) (sym e) (record {
      there = cut.there;
      right = λ n name le.
          let within : i < length round = slice_get_within round i d there in
          let some : 0 < length round = omega (arith, within) in
          let leads = leads_round i d there in
          cut.right name
          ∙ ap (λ (x : Option Declaration). option_and_then (λ f. member_within (length round + suc i) ds f name) x) there
          ∙ once (length round) some d leads name (suc i)
          ∙ sym (once (length round) some d leads name (n - length round))
          ∙ ap (λ (k : ℕ). member_within k ds d name) (omega (arith, le, within));
    })

    -- nothing is put before the first round
    pub none_cut : (versions : Versions) (version : ℕ) → version < count versions → ((key : ℕ) → found versions version key ≡ None) → IsCut ds versions version 0 (before round 0)
    none_cut versions version there none = record {
      there = there;
      right = λ name. ap (λ (x : Option ℕ). option_and_then (slice_get ds) x) (none name.0) ∙ by_last (before round 0) name;
    }
      where
        by_last : (last : Option Declaration) (name : NameId) → None ≡ option_and_then (λ d. member_within 0 ds d name) last
        by_last None name = refl
        by_last (Some d) name = refl

    -- the second round begins where the first ends
    pub round_over : (versions : Versions) (version : ℕ) → IsCut ds versions version (length round) (before round (length round)) → IsCut ds versions version (length round) (before round 0)
    round_over versions version cut = subst (λ (b : Option Declaration). IsCut ds versions version (length round) b) (ended (length round) refl) cut
      where
        ended : (n : ℕ) → n ≡ length round → before round n ≡ before round 0
        ended zero e = ap (λ (k : ℕ). slice_get round k) (omega (arith, e))
        ended (suc n) e = ap (λ (k : ℕ). slice_get round k) (omega (arith, e))
