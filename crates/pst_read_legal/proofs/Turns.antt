-- Where each inferred action has a need that names it first, the needs name the actions in turn.
use Rattle.std.proofs.Common.{◌≡◌, ℕ, ◌+◌, ◌<◌, ◌≤◌, max, List, [], ◌∷◌, ◌++◌, length, true, Some, refl, sym, ap, ◌∙◌, subst, arith, append_assoc, inl, inr, ⊎_elim}
use Rattle.std.proofs.lemmas.Bool.{cases_lt}
use Rattle.pst_scen.specs.declared.act.Act.{Act}
use Rattle.pst_scen.specs.declared.act.Filled.{Filled}
use Rattle.pst_scen.specs.declared.act.Link.{Link}
use Rattle.pst_scen.specs.declared.act.Link.TheVariants as link
use Rattle.pst_scen.specs.Scenarios.{reference_at}
use Rattle.pst_legal.specs.Supplied.{is_need, Linking, linkings, NamesBelow, named_after, AreNamedInTurn}
use Rattle.pst_built.proofs.Members.{In, in_append, to_right}
use Rattle.pst_built.proofs.Splits.{IsEarlier, linking_at, cut_linkings, in_linkings}
use Rattle.pst_built.proofs.Naming.{below_more}
use Rattle.pst_read_legal.proofs.Sorted.{Sorted, IsBefore, linkings_sorted}

-- a need of an earlier action that names the action, before which no need names it or a later one
pub record IsNamed (acts : List Act) (k : ℕ) : Type 0 where
  pub act : ℕ
  pub reference : ℕ
  pub filled : Filled
  pub at : reference_at acts act reference ≡ Some filled
  pub need : is_need filled.flow ≡ true
  pub other : ℕ
  pub names : filled.link ≡ link.Act k other
  pub above : act < k
  pub first : (b q : ℕ) (f : Filled) → IsEarlier b q act reference → reference_at acts b q ≡ Some f → is_need f.flow ≡ true → NamesBelow k f.link

after_more : (n : ℕ) (l : Link) → n ≤ named_after n l
after_more n link.Nothing = omega arith
after_more n link.Initial = omega arith
after_more n (link.Act b q) = omega arith

after_below : (n : ℕ) (l : Link) → NamesBelow (named_after n l) l
after_below n link.Nothing = tt
after_below n link.Initial = tt
after_below n (link.Act b q) = let r : b < max n (b + 1) = omega arith in r

after_within : (n most : ℕ) (l : Link) → n ≤ most → NamesBelow most l → named_after n l ≤ most
after_within n most link.Nothing h b = h
after_within n most link.Initial h b = h
after_within n most (link.Act c q) h b = let l : c < most = b in let r : max n (c + 1) ≤ most = omega (arith, l, h) in r

front_before : (front back : List Linking) (x y : Linking) → Sorted IsBefore (front ++ x ∷ back) → In y front → IsBefore y x
front_before [] back x y sorted has = absurd has
front_before (z ∷ front) back x y sorted (inl e) = subst (λ v. IsBefore v x) e (sorted.0 x (to_right front (x ∷ back) x (inl refl)))
front_before (z ∷ front) back x y sorted (inr has) = front_before front back x y sorted.1 has

back_after : (front back : List Linking) (x y : Linking) → Sorted IsBefore (front ++ x ∷ back) → In y back → IsBefore x y
back_after [] back x y sorted has = sorted.0 y has
back_after (z ∷ front) back x y sorted has = back_after front back x y sorted.1 has

not_both : (a r b q : ℕ) → IsEarlier a r b q → IsEarlier b q a r → ⊥
not_both a r b q (inl l) (inl k) = omega (arith, l, k)
not_both a r b q (inl l) (inr k) = omega (arith, l, k.0)
not_both a r b q (inr l) (inl k) = omega (arith, l.0, k)
not_both a r b q (inr l) (inr k) = omega (arith, l.1, k.1)

module _ (acts : List Act) (leaves : ℕ) (below : (a r : ℕ) (f : Filled) → reference_at acts a r ≡ Some f → (a < length acts) × NamesBelow (length acts) f.link) (named : (k : ℕ) → leaves ≤ k → k < length acts → IsNamed acts k) where
  abbrev total : ℕ
  total = length acts

  need_in : (k : ℕ) (x : IsNamed acts k) → In (linking_at x.act x.reference x.filled) (linkings acts)
  need_in k x = let c = cut_linkings acts x.act x.reference x.filled x.at x.need in subst (In (linking_at x.act x.reference x.filled)) (sym c.is) (to_right c.front (linking_at x.act x.reference x.filled ∷ c.back) (linking_at x.act x.reference x.filled) (inl refl))

  -- where the namer of an action stands, if what is in front names less
  namer_behind : (front rest : List Linking) (n k : ℕ) → linkings acts ≡ front ++ rest → ((y : Linking) → In y front → NamesBelow n y.link) → n ≤ k → (x : IsNamed acts k) → In (linking_at x.act x.reference x.filled) rest
  namer_behind front rest n k is seen l x =
      ⊎_elim
      (λ has. let b = seen (linking_at x.act x.reference x.filled) has in let low : k < n = subst (NamesBelow n) x.names b in absurd (omega (arith, low, l)))
      (λ has. has) (in_append front rest (linking_at x.act x.reference x.filled) (subst (In (linking_at x.act x.reference x.filled)) is (need_in k x)))

  stands_low : (front rest : List Linking) (x : Linking) (n : ℕ) → linkings acts ≡ front ++ x ∷ rest → ((y : Linking) → In y front → NamesBelow n y.link) → leaves ≤ n → x.act < total → x.act < n
  stands_low front rest x n is seen from within =
      ⊎_elim (λ (l : x.act < n). l)
      (λ (l : n ≤ x.act).
      let w = named x.act (omega (arith, from, l)) within in
      let above = w.above in
      absurd (⊎_elim
      (λ (e : x ≡ linking_at w.act w.reference w.filled). let same : x.act ≡ w.act = ap (λ (y : Linking). y.act) e in omega (arith, same, above))
      (λ has. not_both x.act x.reference w.act w.reference (back_after front rest x (linking_at w.act w.reference w.filled) (subst (Sorted IsBefore) is (linkings_sorted acts)) has) (inl above))
      (namer_behind front (x ∷ rest) n x.act is seen l w)))
      (cases_lt x.act n)

  names_low : (front rest : List Linking) (x : Linking) (f : Filled) (n : ℕ) → linkings acts ≡ front ++ x ∷ rest → ((y : Linking) → In y front → NamesBelow n y.link) → leaves ≤ n → reference_at acts x.act x.reference ≡ Some f → is_need f.flow ≡ true → x.link ≡ f.link
      → (l : Link) → x.link ≡ l → NamesBelow total l → NamesBelow (n + 1) l
  names_low front rest x f n is seen from at need same link.Nothing e low = tt
  names_low front rest x f n is seen from at need same link.Initial e low = tt
  names_low front rest x f n is seen from at need same (link.Act b q) e low =
      ⊎_elim (λ (l : b < n + 1). l)
      (λ (l : n + 1 ≤ b).
      let inside : b < total = low in
      let w = named n from (omega (arith, l, inside)) in
      absurd (⊎_elim
      (λ (h : x ≡ linking_at w.act w.reference w.filled).
      let to : link.Act b q ≡ link.Act n w.other = sym e ∙ ap (λ (y : Linking). y.link) h ∙ w.names in
      let k = act_is b n q w.other to in omega (arith, k, l))
      (λ has.
      let early = back_after front rest x (linking_at w.act w.reference w.filled) (subst (Sorted IsBefore) is (linkings_sorted acts)) has in
      let k : b < n = subst (NamesBelow n) (sym same ∙ e) (w.first x.act x.reference f early at need) in omega (arith, k, l))
      (namer_behind front (x ∷ rest) n n is seen (omega arith) w)))
      (cases_lt b (n + 1))
    where
      act_is : (b n q r : ℕ) → link.Act b q ≡ link.Act n r → b ≡ n
      act_is b n q r e = cc

  turns_from : (front rest : List Linking) (n : ℕ) → linkings acts ≡ front ++ rest → ((y : Linking) → In y front → NamesBelow n y.link) → leaves ≤ n → n ≤ total → AreNamedInTurn rest n total
  turns_from front [] n is seen from most =
      ⊎_elim (λ (l : n < total). absurd (namer_behind front [] n n is seen (omega arith) (named n from l))) (λ (l : total ≤ n). let e : n ≡ total = omega (arith, l, most) in e) (cases_lt n total)
  turns_from front (x ∷ rest) n is seen from most =
      let has : In x (linkings acts) = subst (In x) (sym is) (to_right front (x ∷ rest) x (inl refl)) in
      let at = in_linkings acts x has in
      let low = below x.act x.reference at.0 at.1 in
      let link_low : NamesBelow total x.link = subst (NamesBelow total) (sym at.3) low.1 in
      let next = named_after n x.link in
      let more = after_more n x.link in (
        stands_low front rest x n is seen from low.0,
        names_low front rest x at.0 n is seen from at.1 at.2 at.3 x.link refl link_low,
        turns_from (front ++ x ∷ []) rest next (is ∙ sym (append_assoc front (x ∷ []) rest))
            (λ y inside. ⊎_elim (λ old. below_more n next y.link more (seen y old)) (λ new. ⊎_elim (λ (e : x ≡ y). subst (λ (z : Linking). NamesBelow next z.link) e (after_below n x.link)) (λ none. absurd none) new) (in_append front (x ∷ []) y inside))
            (omega (arith, from, more)) (after_within n total x.link most link_low),
      )

  pub in_turn : leaves ≤ total → AreNamedInTurn (linkings acts) leaves total
  in_turn most = turns_from [] (linkings acts) leaves refl (λ y none. absurd none) (omega arith) most
