-- Numbers of groups that no stream sets apart are the least members.
use Rattle.std.proofs.Common.{◌↔◌, ◌≡◌, ◌≢◌, ◌≤◌, ◌<◌, ◌+◌, ◌⊎◌, inl, inr, ℕ, List, length, get_or, sym, subst, ◌∙◌, arith}
use Rattle.std.proofs.lemmas.Option.{slice_get_within}
use Rattle.std.proofs.lemmas.Bool.{cases_lt}
use Rattle.pst_scen.specs.declared.scenario.Scenario.{Scenario}
use Rattle.pst_scen.specs.Flows.{Streams, FromFirst, FromSecond}
use Rattle.pst_scen.specs.Order.{Together, Itself, Linked}
use Rattle.pst_scen.specs.Plans.{IsGroupNumber}
use Rattle.pst_order.specs.Facts.{IsLinked}
use Rattle.pst_square.proofs.Numbers.{same_or_not}
use Rattle.pst_graph.specs.Grouping.{AreMembers, IsApart}

streams_inside : (s : Scenario) (a b : ℕ) → IsLinked s → Streams s a b → (a < length s.actions) × (b < length s.actions)
streams_inside s a b linked (FromFirst pool reference flow kind r) = (slice_get_within s.actions a r.act r.is_act, linked.links_in a pool b reference flow r)
streams_inside s a b linked (FromSecond pool reference flow kind r) = (linked.links_in b pool a reference flow r, slice_get_within s.actions b r.act r.is_act)

pub streams_back : (s : Scenario) (a b : ℕ) → Streams s a b → Streams s b a
streams_back s a b (FromFirst pool reference flow kind r) = FromSecond pool reference flow kind r
streams_back s a b (FromSecond pool reference flow kind r) = FromFirst pool reference flow kind r

pub inside : (s : Scenario) (a b : ℕ) → IsLinked s → a < length s.actions → Together s a b → b < length s.actions
inside s a _ linked a_in Itself = a_in
inside s a _ linked a_in (Linked b c t link) = (streams_inside s b c linked link).1

not_less : (x y : ℕ) → (y < x → ⊥) → x ≤ y
not_less x y not = go (cases_lt y x)
  where
    go : (y < x) ⊎ (x ≤ y) → x ≤ y
    go (inl less) = absurd (not less)
    go (inr more) = more

along : (s : Scenario) (groups : List ℕ) (a b : ℕ) → IsLinked s → ((x y : ℕ) → IsApart s groups x y → ⊥) → Together s a b → get_or groups a 0 ≤ get_or groups b 0
along s groups a _ linked joined Itself = omega arith
along s groups a _ linked joined (Linked b c t link) =
    let both = streams_inside s b c linked link in
    let first : get_or groups a 0 ≤ get_or groups b 0 = along s groups a b linked joined t in
    let next : get_or groups b 0 ≤ get_or groups c 0 = not_less (get_or groups b 0) (get_or groups c 0) (λ less. joined b c (record { a_in = both.0; b_in = both.1; link = link; less = less })) in
    omega (arith, first, next)

pub least_members : (s : Scenario) (groups : List ℕ) → IsLinked s → AreMembers s groups → ((x y : ℕ) → IsApart s groups x y → ⊥) → (a : ℕ) → a < length s.actions → IsGroupNumber s a (get_or groups a 0)
least_members s groups linked members joined a a_in =
    record {
      member = members.member a a_in;
      least = λ b t.
          let first : get_or groups a 0 ≤ get_or groups b 0 = along s groups a b linked joined t in
          let own : get_or groups b 0 ≤ b = members.below b (inside s a b linked a_in t) in
          omega (arith, first, own);
    }

pub alone_members : (s : Scenario) (groups : List ℕ) → length groups ≡ length s.actions → ((a : ℕ) → a < length s.actions → get_or groups a 0 ≡ a) → AreMembers s groups
alone_members s groups many own =
    record {
      many = many;
      member = λ a a_in. subst (λ (g : ℕ). Together s a g) (sym (own a a_in)) Itself;
      below = λ a a_in. let same = own a a_in in omega (arith, same);
    }

together_on : (s : Scenario) (a b c : ℕ) → Together s a b → Together s b c → Together s a c
together_on s a b _ first Itself = first
together_on s a b _ first (Linked x y t link) = Linked x y (together_on s a b x first t) link

pub lowered_members : (s : Scenario) (old new : List ℕ) (a b : ℕ) → AreMembers s old → IsApart s old a b → length new ≡ length old → get_or new a 0 ≡ get_or old b 0 → ((c : ℕ) → c ≢ a → get_or new c 0 ≡ get_or old c 0) → AreMembers s new
lowered_members s old new a b members apart many at others = record { many = many ∙ members.many; member = λ c c_in. each c c_in (same_or_not c a); below = λ c c_in. under c c_in (same_or_not c a) }
  where
    to_b : Together s a (get_or old b 0)
    to_b = together_on s a b (get_or old b 0) (Linked a b Itself apart.link) (members.member b apart.b_in)

    each : (c : ℕ) → c < length s.actions → (c ≡ a) ⊎ (c ≢ a) → Together s c (get_or new c 0)
    each c c_in (inl same) = subst (λ (x : ℕ). Together s x (get_or new x 0)) (sym same) (subst (λ (g : ℕ). Together s a g) (sym at) to_b)
    each c c_in (inr differs) = subst (λ (g : ℕ). Together s c g) (sym (others c differs)) (members.member c c_in)

    under : (c : ℕ) → c < length s.actions → (c ≡ a) ⊎ (c ≢ a) → get_or new c 0 ≤ c
    under c c_in (inl same) =
        let low : get_or old a 0 ≤ a = members.below a apart.a_in in
        let less = apart.less in
        subst (λ (x : ℕ). get_or new x 0 ≤ x) (sym same) (omega (arith, low, less, at))
    under c c_in (inr differs) = let low = members.below c c_in in let is = others c differs in omega (arith, low, is)

pub none_below : (P : ℕ → Type 0) (n : ℕ) → ((m : ℕ) → m < n → P m → ⊥) → (P n → ⊥) → (m : ℕ) → m < n + 1 → P m → ⊥
none_below P n before here m below holds = go (cases_lt m n)
  where
    go : (m < n) ⊎ (n ≤ m) → ⊥
    go (inl less) = before m less holds
    go (inr more) =
        let same : m ≡ n = omega (arith, more, below) in
        here (subst P same holds)

together_back : (s : Scenario) (a b : ℕ) → Together s a b → Together s b a
together_back s a _ Itself = Itself
together_back s a _ (Linked b c t link) = together_on s c b a (Linked c b Itself (streams_back s b c link)) (together_back s a b t)

-- two actions are of one group exactly where they have one number
pub same_group : (s : Scenario) (groups : List ℕ) → ((a : ℕ) → a < length s.actions → IsGroupNumber s a (get_or groups a 0)) → (b x : ℕ) → b < length s.actions → x < length s.actions → get_or groups x 0 ≡ get_or groups b 0 ↔ Together s b x
same_group s groups numbers b x b_in x_in =
    let of_b = numbers b b_in in
    let of_x = numbers x x_in in (
      λ same. together_on s b (get_or groups b 0) x of_b.member (subst (λ (g : ℕ). Together s g x) same (together_back s x (get_or groups x 0) of_x.member)),
      λ t.
          let lower = of_b.least (get_or groups x 0) (together_on s b x (get_or groups x 0) t of_x.member) in
          let upper = of_x.least (get_or groups b 0) (together_on s x b (get_or groups b 0) (together_back s b x t) of_b.member) in
          omega (arith, lower, upper),
    )
