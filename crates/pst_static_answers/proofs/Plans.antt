-- A scenario's programs are the same by two plans of it.
use Rattle.std.proofs.Common.{◌≡◌, ◌∙◌, ◌⊎◌, inl, inr, ℕ, ◌<◌, List, [], ◌∷◌, ◌++◌, length, get_or, take, map, sym, subst, arith}
use Rattle.std.specs.Prelude.{◌↔◌, Contains, zip}
use Rattle.std.proofs.lemmas.Grind.{same_number_lists}
use Rattle.std.proofs.lemmas.List.Elements.{Contains-append_left, Contains-append_right, Contains-push}
use Rattle.pst_scen.specs.declared.rows.Rows.{Rows}
use Rattle.pst_scen.specs.declared.scenario.Scenario.{Scenario}
use Rattle.pst_scen.specs.Rows.{Has}
use Rattle.pst_scen.specs.Plan.{Entries, members}
use Rattle.pst_scen.specs.Plans.{IsPlanOf}
use Rattle.pst_order.specs.Laws.{MembersAreThose, PlanGroupsAreWhole}
use Rattle.pst_programs.specs.declared.program.Instruction.{Instruction}
use Rattle.pst_programs.specs.declared.program.Instruction.TheVariants.{Run, Await}
use Rattle.pst_programs.specs.declared.program.Program.{Program}
use Rattle.pst_programs.specs.Serial.{IsOpen, IsNext, IsSerial}
use Rattle.pst_programs.specs.Lanes.{Dealt, Deals, Done}
use Rattle.pst_programs.specs.Lanes as lanes_of
use Rattle.pst_programs.specs.Programs.{Needs, Counts, AreAwaited, Writes, Written, ArePrograms}
use Rattle.pst_programs.specs.Programs as text
use Rattle.pst_programs.proofs.Dealing.{on_contains, whole_dealt}
use Rattle.pst_programs.proofs.Holding.{ascends}

-- ---- groups

pub groups_same : (s : Scenario) (p q : Entries) → IsPlanOf s p → IsPlanOf s q → p.groups ≡ q.groups
groups_same s p q first second =
    let many = first.entries.many in
    let others = second.entries.many in
    same_number_lists p.groups q.groups (many ∙ sym others)
    (λ a below.
    let inside : a < length s.actions = omega (arith, below, many) in
    let one_is = first.entries.group a inside in
    let two_is = second.entries.group a inside in
    let under = one_is.least (get_or q.groups a 0) two_is.member in
    let over = two_is.least (get_or p.groups a 0) one_is.member in
    omega (arith, under, over))

-- ---- a plan with the same groups, and the same pairs of its actions

first_in : (x : ℕ) (xs : List ℕ) → Contains (x ∷ xs) x
first_in x xs = Contains-append_left (x ∷ []) xs x (Contains-push [] x)

later_in : (y x : ℕ) (xs : List ℕ) → Contains xs x → Contains (y ∷ xs) x
later_in y x xs h = Contains-append_right (y ∷ []) xs x h

module _ (p : Entries) (must conflict : Rows) (musts : (a b : ℕ) → a < length p.groups → b < length p.groups → Has p.must a b ↔ Has must a b)
    (conflicts : (a b : ℕ) → a < length p.groups → b < length p.groups → Has p.conflict a b ↔ Has conflict a b) where
  abbrev other : Entries
  other = record { groups = p.groups; must = must; conflict = conflict }

  open_too : (taken : List ℕ) (group : ℕ) → IsOpen p taken group → IsOpen other taken group
  open_too taken group o = record {
    below = o.below;
    number = o.number;
    fresh = o.fresh;
    ready = λ a b a_in b_in same h. o.ready a b a_in b_in same ((musts a b a_in b_in).1 h);
  }

  open_back : (taken : List ℕ) (group : ℕ) → IsOpen other taken group → IsOpen p taken group
  open_back taken group o = record {
    below = o.below;
    number = o.number;
    fresh = o.fresh;
    ready = λ a b a_in b_in same h. o.ready a b a_in b_in same ((musts a b a_in b_in).0 h);
  }

  next_too : (taken : List ℕ) (group : ℕ) → IsNext p taken group → IsNext other taken group
  next_too taken group n = record { is_open = open_too taken group n.is_open; least = λ g o. n.least g (open_back taken g o) }

  serial_too : (order : List ℕ) → IsSerial p order → IsSerial other order
  serial_too order is = record { each = λ k l. next_too (take k order) (get_or order k 0) (is.each k l); all = is.all }

  deals_too : (lanes : ℕ) (dealt : Dealt) (order : List ℕ) (after : Dealt) → Deals p lanes dealt order after → Deals other lanes dealt order after
  deals_too lanes _ _ _ (Done dealt) = Done dealt
  deals_too lanes _ _ _ (lanes_of.Then dealt after group more used fewest rest) =
      lanes_of.Then dealt after group more used fewest (deals_too lanes (dealt ++ zip (members p.groups group) used) more after rest)

  module _ (order : List ℕ) (dealt : Dealt) (inside : (a l : ℕ) → Contains dealt (a, l) → a < length p.groups) where
    because_too : (x a : ℕ) → x < length p.groups → a < length p.groups → Has p.must x a ⊎ Has p.conflict x a → Has must x a ⊎ Has conflict x a
    because_too x a x_in a_in (inl h) = inl ((musts x a x_in a_in).0 h)
    because_too x a x_in a_in (inr h) = inr ((conflicts x a x_in a_in).0 h)

    because_back : (x a : ℕ) → x < length p.groups → a < length p.groups → Has must x a ⊎ Has conflict x a → Has p.must x a ⊎ Has p.conflict x a
    because_back x a x_in a_in (inl h) = inl ((musts x a x_in a_in).1 h)
    because_back x a x_in a_in (inr h) = inr ((conflicts x a x_in a_in).1 h)

    needs_too : (a l x m : ℕ) → a < length p.groups → Needs p order dealt a l x m → Needs other order dealt a l x m
    needs_too a l x m a_in n = record { other = n.other; there = n.there; earlier = n.earlier; because = because_too x a (inside x m n.there) a_in n.because }

    needs_back : (a l x m : ℕ) → a < length p.groups → Needs other order dealt a l x m → Needs p order dealt a l x m
    needs_back a l x m a_in n = record { other = n.other; there = n.there; earlier = n.earlier; because = because_back x a (inside x m n.there) a_in n.because }

    counts_too : (before : List Instruction) (a l x m : ℕ) → a < length p.groups → Counts p order dealt before a l x m → Counts other order dealt before a l x m
    counts_too before a l x m a_in c = record { needs = needs_too a l x m a_in c.needs; latest = λ y n. c.latest y (needs_back a l y m a_in n); new = c.new }

    counts_back : (before : List Instruction) (a l x m : ℕ) → a < length p.groups → Counts other order dealt before a l x m → Counts p order dealt before a l x m
    counts_back before a l x m a_in c = record { needs = needs_back a l x m a_in c.needs; latest = λ y n. c.latest y (needs_too a l y m a_in n); new = c.new }

    awaited_too : (before : List Instruction) (a l : ℕ) (awaited : List ℕ) → a < length p.groups → AreAwaited p order dealt before a l awaited → AreAwaited other order dealt before a l awaited
    awaited_too before a l awaited a_in are = record {
      ascending = are.ascending;
      those = λ x. (
        λ c. let w = (are.those x).0 c in (w.0, counts_too before a l x w.0 a_in w.1),
        λ w. (are.those x).1 (w.0, counts_back before a l x w.0 a_in w.1),
      );
    }

    writes_too : (programs : List Program) (l : ℕ) (before : List Instruction) (acts : List ℕ) (whole : List Instruction) → ((a : ℕ) → Contains acts a → a < length p.groups)
        → Writes p order dealt programs l before acts whole → Writes other order dealt programs l before acts whole
    writes_too programs l _ _ _ acts_in (Written steps) = Written steps
    writes_too programs l _ _ _ acts_in (text.Then before whole signal a more awaited are told rest) =
        text.Then before whole signal a more awaited (awaited_too before a l awaited (acts_in a (first_in a more)) are) told
        (writes_too programs l (before ++ (map Await awaited ++ Run a ∷ signal)) more whole (λ b c. acts_in b (later_in a b more c)) rest)

-- ---- two plans of one scenario

module _ (those : MembersAreThose) (whole : PlanGroupsAreWhole) (s : Scenario) (p q : Entries) (first : IsPlanOf s p) (second : IsPlanOf s q) where
  in_scenario : (a : ℕ) → a < length p.groups → a < length s.actions
  in_scenario a a_in = let many = first.entries.many in omega (arith, a_in, many)

  musts_same : (a b : ℕ) → a < length p.groups → b < length p.groups → Has p.must a b ↔ Has q.must a b
  musts_same a b a_in b_in =
      let one = first.entries.must a b (in_scenario a a_in) (in_scenario b b_in) in
      let two = second.entries.must a b (in_scenario a a_in) (in_scenario b b_in) in
      (λ h. two.1 (one.0 h), λ h. one.1 (two.0 h))

  conflicts_same : (a b : ℕ) → a < length p.groups → b < length p.groups → Has p.conflict a b ↔ Has q.conflict a b
  conflicts_same a b a_in b_in =
      let one = first.entries.conflict a b (in_scenario a a_in) (in_scenario b b_in) in
      let two = second.entries.conflict a b (in_scenario a a_in) (in_scenario b b_in) in
      (λ h. two.1 (one.0 h), λ h. one.1 (two.0 h))

  pub programs_too : (lanes : ℕ) (programs : List Program) → ArePrograms p lanes programs → ArePrograms q lanes programs
  programs_too lanes programs are = subst (λ (g : List ℕ). ArePrograms (record { groups = g; must = q.must; conflict = q.conflict }) lanes programs) (groups_same s p q first second) moved
    where
      inside : (a l : ℕ) → Contains are.dealt (a, l) → a < length p.groups
      inside a l c = ((whole_dealt p lanes are.order are.serial those (ascends those whole s p first) are.dealt are.deals).inside a l c).0

      moved : ArePrograms (record { groups = p.groups; must = q.must; conflict = q.conflict }) lanes programs
      moved = record {
        many = are.many;
        order = are.order;
        serial = serial_too p q.must q.conflict musts_same conflicts_same are.order are.serial;
        dealt = are.dealt;
        deals = deals_too p q.must q.conflict musts_same conflicts_same lanes [] are.order are.dealt are.deals;
        each = λ l h. writes_too p q.must q.conflict musts_same conflicts_same are.order are.dealt inside programs l [] (lanes_of.on_lane are.dealt l) (text.program_at programs l) (λ a c. inside a l (on_contains are.dealt l a c)) (are.each l h);
      }
