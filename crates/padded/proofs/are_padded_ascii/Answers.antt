-- There are no texts of no bytes; else the texts that are left tell of all. Assumes nothing.
use Rattle.std.proofs.Common.{ℕ, suc, ◌≡◌, ◌/◌, ◌<◌, Bool, true, false, ◌&&◌, List, ◌++◌, length, take, drop, sym, ap, ◌∙◌, add-one, arith, length-append}
use Rattle.std.proofs.Math.Nat.{add-div_right, div-eq_of_lt}
use Rattle.std.proofs.Math.Seq.{take-append_seam, drop-append_seam}
use native.Mathlib.Nat.{div-zero}
use Rattle.text.specs.Ascii.{ascii}
use Rattle.std.specs.Slice.Iter.{chunks_exact_rest}
use Rattle.padded.specs.Padded.{nul_padded, each_padded}
use Rattle.padded.specs.EachPaddedLaws.{each_none, each_more}
use Rattle.padded.proofs.are_padded_ascii.Goals as goal

pub returns-then-width-eq0 : goal.returns-then-width-eq0
returns-then-width-eq0 c = rw (c.if-width-eq0.true, div-zero) (sym (each_none 0 c.args.s.now))

-- the first text, and those after it
one-more : (w : ℕ) (x rest : List ℕ) → 0 < w → length x ≡ w → each_padded w (length (x ++ rest) / w) (x ++ rest) ≡ ((ascii x && nul_padded x) && each_padded w (length rest / w) rest)
one-more w x rest any e =
    let count : length (x ++ rest) / w ≡ suc (length rest / w) = ap (λ (m : ℕ). m / w) (length-append x rest ∙ omega arith) ∙ add-div_right (length rest) {k = w} any ∙ add-one (length rest / w) in
    let first : take w (x ++ rest) ≡ x = ap (λ (m : ℕ). take m (x ++ rest)) (sym e) ∙ take-append_seam x rest in
    let after : drop w (x ++ rest) ≡ rest = ap (λ (m : ℕ). drop m (x ++ rest)) (sym e) ∙ drop-append_seam x rest in
    rw count (each_more w (length rest / w) (x ++ rest) ∙ rw (first, after))

next : (w size : ℕ) (all x rest : List ℕ) (b : Bool) → 0 < w → size ≡ w → length x ≡ size → all ≡ x ++ rest → b ≡ (ascii x && nul_padded x)
    → each_padded w (length all / w) all ≡ (b && each_padded w (length rest / w) rest)
next w size all x rest b any z e a f = rw (a, f) (one-more w x rest any (e ∙ z))

pub loop-text-preserved : goal.loop-text-preserved
loop-text-preserved c =
    let inv = c.loop-text.invariant in
    let steps = c.in-Some.ensures.steps in
    let size : 0 < c.args.width = omega arith in
    (omega (arith, steps.0, inv.0), tt, steps.0 ∙ inv.2, inv.3 ∙ next _ _ _ _ _ true size inv.2 steps.1.1 steps.1.0 (sym c.if-not-is_padded_ascii.false ∙ c.is_padded_ascii.ensures))

pub returns-then-not-is_padded_ascii : goal.returns-then-not-is_padded_ascii
returns-then-not-is_padded_ascii c =
    let inv = c.loop-text.invariant in
    let steps = c.in-Some.ensures.steps in
    let size : 0 < c.args.width = omega arith in
    sym (inv.3 ∙ next _ _ _ _ _ false size inv.2 steps.1.1 steps.1.0 (sym c.if-not-is_padded_ascii.true ∙ c.is_padded_ascii.ensures))

pub returns : goal.returns
returns c =
    let inv = c.loop-text.invariant in
    let short = c.in-None.ensures.steps.1.0 in
    let few : length (chunks_exact_rest c.loop-text.text-iterator) / c.args.width ≡ 0 = div-eq_of_lt (omega (arith, short, inv.2)) in
    sym (inv.3 ∙ ap (λ (n : ℕ). each_padded c.args.width n (chunks_exact_rest c.loop-text.text-iterator)) few ∙ each_none _ _)
