-- What a text that is filled up with NULs is told to be. Assumes nothing.
use Rattle.std.specs.Prelude.{Result, Ok, Err, ℕ, Bool, true, false, List}
use Rattle.text.specs.Utf8.{utf8}
use Rattle.padded.specs.Padded.{nul_padded}
use Rattle.padded.specs.declared.Fault.{Fault}
use Rattle.padded.specs.declared.Fault.TheVariants.{NotUtf8, AfterNul}

-- UTF-8 is tried first, then what follows a NUL
abbrev pub told : Bool → Bool → Result Unit Fault
told true true = Ok tt
told true false = Err AfterNul
told false p = Err NotUtf8

abbrev pub padded_of : List ℕ → Result Unit Fault
padded_of s = told (utf8 s) (nul_padded s)
