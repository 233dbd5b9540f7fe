-- The kinds of a layout's sections, by their numbers. Assumes nothing.
use Rattle.std.specs.Prelude.{ℕ}
use Rattle.tidy.specs.declared.walk.Kind.{Kind}
use Rattle.tidy.specs.declared.walk.Kind.TheVariants.{Record, Struct, LabelDef}

abbrev pub number : Kind → ℕ
number Record = 0
number Struct = 1
number LabelDef = 2
