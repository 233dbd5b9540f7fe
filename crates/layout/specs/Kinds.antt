-- The kinds of sections, which the definitions number in the order of their groups. Assumes nothing.
use Rattle.std.specs.Prelude.{ℕ}
use Rattle.layout.specs.declared.Kind.{Kind}
use Rattle.layout.specs.declared.Kind.TheVariants.{Record, Struct, LabelDef}

-- 0 a record, 1 a struct, 2 a label def
abbrev pub number_of : Kind → ℕ
number_of Record = 0
number_of Struct = 1
number_of LabelDef = 2
