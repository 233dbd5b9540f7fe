-- The laws of names and sections: their places, their bytes, and which of them have bytes. Assumes nothing.
use Rattle.std.specs.Prelude.{ℕ, ◌+◌, ◌<◌, ◌≡◌, Bool, true, false, length}
use Rattle.std.proofs.Common.{arith, ◌∙◌}
use Rattle.std.proofs.Math.Path.{refl}
use mathlib.Core.List.{List, [], ◌∷◌, ◌++◌, append-nil}
use Rattle.codec.specs.Codec.{Bytes, little, raw, fixed, named, checked, placed, sized, boxed, ◌then◌}
use Rattle.codec.proofs.Format.{Format}
use Rattle.wire.specs.Formats.{Name, Tests, section, text_of, text, name}

module _ {A : Type 0} (F : Format A false) where
  -- a section without places and leftovers; the places in it
  pub section-bare : (z : A × List ℕ) → (section F).codec.bare z ≡ (F.codec.bare z.0, [])
  unfolding section boxed
  section-bare z = refl

  pub section-each : (P : ℕ → List ℕ → Type 0) (z : A × List ℕ) → (section F).codec.each P z → F.codec.each P z.0
  unfolding section boxed
  section-each P z e = e

  pub section_holds : (P : ℕ → List ℕ → Type 0) (z : A × List ℕ) → F.codec.each P z.0 → (section F).codec.each P z
  unfolding section boxed
  section_holds P z e = e

  -- its bytes, and what is known of one that has bytes
  pub section-bytes : (x : A) (rest : List ℕ) → (section F).codec.print (x, rest) ≡ little 2 (2 + length (F.codec.print x ++ rest)) ++ (F.codec.print x ++ rest)
  unfolding section boxed
  section-bytes x rest = refl

  pub section-lawful : (x : A) (rest : List ℕ) → (section F).codec.legal (x, rest) → F.codec.legal x × (2 + length (F.codec.print x ++ rest) < 65536)
  unfolding section boxed
  section-lawful x rest lg = (lg.0, lg.2)

  -- a section without leftovers: its bytes, and that it has bytes
  pub section-print : (x : A) → (section F).codec.print (x, []) ≡ little 2 (2 + length (F.codec.print x)) ++ F.codec.print x
  section-print x = section-bytes x [] ∙ rw append-nil

  pub section-legal : (x : A) → F.codec.legal x → 2 + length (F.codec.print x) < 65536 → (section F).codec.legal (x, [])
  unfolding section boxed
  section-legal x lg h = (lg, (λ k. omega arith), rw append-nil h)

module _ (tests : Tests) where
  -- a name without its place
  pub name-bare : (n : Name) → (name tests).codec.bare n ≡ record { start = 0; text = n.text }
  unfolding name named ◌then◌ text sized text_of placed checked raw fixed
  name-bare n = refl

  -- what is said of its place is said of its start
  pub name-start : (P : ℕ → List ℕ → Type 0) (n : Name) → (name tests).codec.each P n → P n.start n.text
  unfolding name named ◌then◌ text sized text_of placed checked raw fixed
  name-start P n e = e.0

  pub name-each : (P : ℕ → List ℕ → Type 0) (n : Name) → P n.start n.text → (name tests).codec.each P n
  unfolding name named ◌then◌ text sized text_of placed checked raw fixed
  name-each P n h = (h, tt)

  -- its bytes, and that it has bytes
  pub name-print : (n : Name) → (name tests).codec.print n ≡ little 1 (length n.text) ++ (n.text ++ (0 ∷ []))
  unfolding name named ◌then◌ text sized text_of placed checked raw fixed
  name-print n = refl

  pub name-legal : (n : Name) → length n.text < 256 → Bytes n.text → tests.no_nul n.text ≡ true → tests.utf8 n.text ≡ true → (name tests).codec.legal n
  unfolding name named ◌then◌ text sized text_of placed checked raw fixed
  name-legal n l b c u = ((l, (((refl, b), c), u)), omega arith)

  -- what is known of a name that has bytes
  pub record LawfulName (n : Name) : Type 0 where
    pub short : length n.text < 256
    pub octets : Bytes n.text
    pub no_nul : tests.no_nul n.text ≡ true
    pub utf8 : tests.utf8 n.text ≡ true

  pub name-lawful : (n : Name) → (name tests).codec.legal n → LawfulName n
  unfolding name named ◌then◌ text sized text_of placed checked raw fixed
  name-lawful n lg = record { short = lg.0.0; octets = lg.0.1.0.0.1; no_nul = lg.0.1.0.1; utf8 = lg.0.1.1 }
