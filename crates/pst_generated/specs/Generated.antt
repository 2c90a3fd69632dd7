-- The sources of a generated model, and what is printed of a run of it.
use Rattle.std.specs.Prelude.{ℕ, ◌/◌, List, [], ◌∷◌, ◌++◌, codes, decimal}
use Rattle.std.specs.List.{flat_map}
use Rattle.pst_trace_texts.specs.Lines.{line}

-- ---- the sources

abbrev pub head_lines : List (List ℕ)
head_lines =
    codes "buffer blk { rand bit[8] tag; }"
    ∷ codes "resource chan { }"
    ∷ codes "import target function void put(int tag);"
    ∷ codes "component pss_top {"
    ∷ codes "  pool blk blks; bind blks *;"
    ∷ codes "  pool [4] chan chans; bind chans *;"
    ∷ []

abbrev pub action_lines : List (List ℕ)
action_lines =
    codes "  action make { output blk o; lock chan c; constraint o.tag < 200;"
    ∷ codes "                exec body { put(o.tag); } }"
    ∷ codes "  action take { input blk i; lock chan c; exec body { put(i.tag); } }"
    ∷ codes "  action pair { make m; take t; activity { m; t; bind m.o t.i; } }"
    ∷ []

abbrev pub entry_line : ℕ → List ℕ
entry_line turns = codes "  action entry { activity { repeat (" ++ decimal turns ++ codes ") { schedule {"

-- four pairs side by side, so many times over
abbrev pub entry_lines : ℕ → List (List ℕ)
entry_lines turns =
    entry_line turns
    ∷ codes "    do pair; do pair; do pair; do pair; } } } }"
    ∷ codes "}"
    ∷ []

-- the sources of a model with so many actions, a multiple of eight
abbrev pub generated_text : ℕ → List ℕ
generated_text size = flat_map line head_lines ++ flat_map line action_lines ++ flat_map line (entry_lines (size / 8))

-- ---- the counts

-- what is printed of a run of the model of that size, in which so many actions of each of the two types ended
abbrev pub counts_text : ℕ → ℕ → ℕ → ℕ → List ℕ
counts_text size make take actions =
    line (codes "pst 2") ++ line (codes "gen " ++ decimal size) ++ line (codes "make " ++ decimal make) ++ line (codes "take " ++ decimal take) ++ line (codes "done " ++ decimal actions)
