-- What a prelude prints, and that it is read back. Assumes nothing.
use Rattle.std.specs.Prelude.{ℕ, ◌%◌, ◌≤◌, ◌≡◌, refl, true, List, [], ◌∷◌, ◌++◌, leb, Ok}
use Rattle.std.proofs.Common.{arith, ◌∙◌, leb-true, le-leb}
use Rattle.codec.specs.CaseLaws.{both_true}
use Rattle.codec.specs.Codec.{little, num, fixed, named, checked, ◌then◌}
use Rattle.prelude.specs.Prelude.{Prelude, magic, is_version, prelude, prelude_of}
use Rattle.prelude.proofs.PreludeLaws.{length_of, prelude-is}
use Rattle.prelude.specs.declared.Stage.TheVariants.{Whole}

-- the magic, the version, the length
pub prelude-print : (p : Prelude) → prelude.codec.print p ≡ (68 ∷ 66 ∷ 78 ∷ p.version % 256 ∷ []) ++ little 4 p.len
unfolding prelude magic named ◌then◌ checked fixed num
prelude-print p = refl

-- it is read, whatever follows it
pub prelude-back : (p : Prelude) (post : List ℕ) → is_version p.version ≡ true → 100 ≤ p.len → p.len ≤ 4294967295 → prelude_of (prelude.codec.print p ++ post) ≡ Ok (Whole p.version p.len)
prelude-back p post e h l =
    let (_, few) = both_true (leb 1 p.version) (leb p.version 4) e in
    let v : p.version % 256 ≡ p.version = omega (arith, leb-true p.version 4 few) in
    let s : List ℕ = 68 ∷ 66 ∷ 78 ∷ p.version % 256 ∷ (little 4 p.len ++ post) in
    let n : length_of s ≡ p.len = omega arith in
    rw (prelude-print p)
    (prelude-is s (omega arith) true true true refl (rw v e) (le-leb 100 (length_of s) (omega arith)) ∙ rw (v, n) refl)
