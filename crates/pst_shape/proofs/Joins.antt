-- The places of the branches that a block waits for.
use Rattle.std.proofs.Common.{◌≡◌, ◌⊎◌, inl, inr, ℕ, zero, suc, ◌-◌, ◌<◌, ◌≤◌, List, [], ◌∷◌, ◌++◌, Bool, true, false, refl, ap, ◌∙◌, arith}
use Rattle.std.specs.Prelude.{nat_le, nat_lt, if◌then◌else◌}
use Rattle.std.proofs.lemmas.Bool.{le-leb, lt-leb, lt-ltb, le-ltb}
use Rattle.pst_legal.specs.Menus.{Menu, Place, join_menu}
use Rattle.pst_shape_steps.specs.Pending.{options_of, menu_after}

module _ (after : List Bool → Menu) where
  abbrev both : ℕ → ℕ → List Bool → Menu
  both n b joined = Place 2 (λ k. if nat_lt k 1 then join_menu after n b (joined ++ true ∷ []) else join_menu after (suc n) b (joined ++ false ∷ []))

  abbrev one : ℕ → ℕ → List Bool → Menu
  one n b joined = Place 1 (λ k. join_menu after n b (joined ++ true ∷ []))

  less_one : (n : ℕ) → n ≡ suc n - 1
  less_one n = omega arith

  -- no more are to be joined
  pub none_more : (left k : ℕ) (joined : List Bool) → 0 < left → menu_after (join_menu after 0 left joined) k ≡ join_menu after 0 (left - 1) (joined ++ false ∷ [])
  none_more zero k joined h = absurd (omega arith)
  none_more (suc b) k joined h = ap (λ i. join_menu after 0 i (joined ++ false ∷ [])) (less_one b)

  -- it isn't joined
  pub not_joined : (more left k : ℕ) (joined : List Bool) → 0 < more → more < left → 0 < k → menu_after (join_menu after more left joined) k ≡ join_menu after more (left - 1) (joined ++ false ∷ [])
  not_joined zero left k joined h l e = absurd (omega arith)
  not_joined (suc n) zero k joined h l e = absurd (omega arith)
  not_joined (suc n) (suc b) k joined h l e =
      ap (λ c. menu_after (if c then both n b joined else one n b joined) k) (le-leb (suc n) b (omega arith))
      ∙ ap (λ c. if c then join_menu after n b (joined ++ true ∷ []) else join_menu after (suc n) b (joined ++ false ∷ [])) (le-ltb k 1 (omega arith))
      ∙ ap (λ i. join_menu after (suc n) i (joined ++ false ∷ [])) (less_one b)

  joined_of : (c : Bool) (n b k : ℕ) (joined : List Bool) → (c ≡ false) ⊎ (k < 1) → menu_after (if c then both n b joined else one n b joined) k ≡ join_menu after n b (joined ++ true ∷ [])
  joined_of true n b k joined (inl e) = cc
  joined_of true n b k joined (inr h) = ap (λ c. if c then join_menu after n b (joined ++ true ∷ []) else join_menu after (suc n) b (joined ++ false ∷ [])) (lt-ltb k 1 h)
  joined_of false n b k joined h = refl

  -- it is joined
  pub is_joined : (more left k : ℕ) (joined : List Bool) → 0 < more → 0 < left → (left ≤ more) ⊎ (k < 1) → menu_after (join_menu after more left joined) k ≡ join_menu after (more - 1) (left - 1) (joined ++ true ∷ [])
  is_joined zero left k joined h l e = absurd (omega arith)
  is_joined (suc n) zero k joined h l e = absurd (omega arith)
  is_joined (suc n) (suc b) k joined h l e =
      joined_of (nat_le (suc n) b) n b k joined (must e)
      ∙ ap (λ i. join_menu after i b (joined ++ true ∷ [])) (less_one n)
      ∙ ap (λ i. join_menu after (suc n - 1) i (joined ++ true ∷ [])) (less_one b)
    where
      must : (suc b ≤ suc n) ⊎ (k < 1) → (nat_le (suc n) b ≡ false) ⊎ (k < 1)
      must (inl g) = inl (lt-leb (suc n) b (omega arith))
      must (inr g) = inr g

  -- ---- how many options there are

  pub no_branch : (more left : ℕ) (joined : List Bool) → left ≡ 0 → join_menu after more left joined ≡ after joined
  no_branch zero zero joined e = refl
  no_branch (suc n) zero joined e = refl
  no_branch more (suc b) joined e = absurd (omega arith)

  pub two_options : (more left : ℕ) (joined : List Bool) → 0 < more → more < left → options_of (join_menu after more left joined) ≡ 2
  two_options zero left joined h l = absurd (omega arith)
  two_options (suc n) zero joined h l = absurd (omega arith)
  two_options (suc n) (suc b) joined h l = ap (λ c. options_of (if c then both n b joined else one n b joined)) (le-leb (suc n) b (omega arith))

  pub one_option : (more left : ℕ) (joined : List Bool) → 0 < left → (more ≡ 0) ⊎ (left ≤ more) → options_of (join_menu after more left joined) ≡ 1
  one_option more zero joined l e = absurd (omega arith)
  one_option zero (suc b) joined l e = refl
  one_option (suc n) (suc b) joined l (inl e) = absurd (omega arith)
  one_option (suc n) (suc b) joined l (inr e) = ap (λ c. options_of (if c then both n b joined else one n b joined)) (lt-leb (suc n) b (omega arith))

  -- some branch is left where there is an option
  pub some_left : (more left k : ℕ) (joined : List Bool) → options_of (after joined) ≡ 0 → k < options_of (join_menu after more left joined) → 0 < left
  some_left more zero k joined e h =
      let q : options_of (join_menu after more 0 joined) ≡ 0 = ap options_of (no_branch more 0 joined refl) ∙ e in absurd (omega arith)
  some_left more (suc b) k joined e h = omega arith
