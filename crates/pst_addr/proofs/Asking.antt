-- The asks of the first actions, and of one more.
use Rattle.std.proofs.Common.{◌≡◌, ◌∙◌, ℕ, suc, ◌+◌, ◌<◌, List, ◌∷◌, ◌++◌, length, get_or, drop, ap, sym, add-one, append_assoc, drop-cons}
use Rattle.std.specs.Option.{option_to_list}
use Rattle.pst_model.specs.ModelTree.{ModelTree}
use Rattle.pst_scen.specs.declared.act.Act.{Act}
use Rattle.pst_addr.specs.declared.ask.Ask.{Ask}
use Rattle.pst_addr.specs.Asks.{asked, asks_from}

pub ask_more : (names : List (List ℕ)) (m : ModelTree) (acts : List Act) (at : ℕ) (act : Act) (old new whole : List Ask) → at < length acts
    → act ≡ get_or acts at act
    → new ≡ old ++ option_to_list (asked names m at act)
    → old ++ asks_from names m at (drop at acts) ≡ whole
    → new ++ asks_from names m (at + 1) (drop (at + 1) acts) ≡ whole
ask_more names m acts at act old new whole below is added so_far =
    let split : drop at acts ≡ act ∷ drop (at + 1) acts = rw add-one (drop-cons acts at act below ∙ ap (λ (x : Act). x ∷ drop (suc at) acts) (sym is)) in
    ap (λ (asks : List Ask). asks ++ asks_from names m (at + 1) (drop (at + 1) acts)) added
    ∙ append_assoc old (option_to_list (asked names m at act)) (asks_from names m (at + 1) (drop (at + 1) acts))
    ∙ ap (λ (rest : List Act). old ++ asks_from names m at rest) (sym split)
    ∙ so_far
