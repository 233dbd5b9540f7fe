-- The rules of a layout, numbers 60 to 83 of document 01: those of its records and structs, 0 where all hold.
-- They hold for any type sheet and any symbol width.
-- Assumes nothing.
use Rattle.std.specs.Prelude.{ℕ, List, ◌++◌, map, length, eqb}
use Rattle.codec.specs.Codec.{Res, ok, ◌>>=◌, need}
use Rattle.layout.specs.Layout.{Layout, Parts, from_layout}
use Rattle.layout.specs.LayoutOf.{layout_of}
use Rattle.layout.specs.Answers.{layout_numbers}
use Rattle.item_rules.specs.Rules.{rule_numbers, seqs_fault, struct_seq, record_seq}

-- the rules of a layout without its rest
unfoldable pub rules_of : List ℕ → ℕ → Parts → ℕ
rules_of sheet width t = seqs_fault sheet width (map struct_seq t.1.1.0) (map record_seq t.1.0) (length t.1.1.1)

-- what refuses it with its rules
abbrev pub ruled_numbers : List ℕ
ruled_numbers = layout_numbers ++ rule_numbers

-- the layout in s, then its rules
unfoldable pub ruled_of : List ℕ → ℕ → List ℕ → Res Layout
ruled_of sheet width s =
    layout_of s >>= λ t j.
    need (eqb 0 (rules_of sheet width (from_layout t).0)) (rules_of sheet width (from_layout t).0) 0 >>= λ _ _.
    ok t j
