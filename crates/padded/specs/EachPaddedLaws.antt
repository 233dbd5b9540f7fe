-- Laws of `each_padded`: of no text, of one text before others, and of what follows the texts. Assumes nothing.
use Rattle.std.specs.Prelude.{ℕ, zero, suc, ◌*◌, ◌≤◌, ◌≡◌, refl, true, ◌&&◌, List, ◌++◌, length, take, drop}
use Rattle.std.proofs.Common.{suc-mul, arith, length-drop}
use Rattle.std.proofs.lemmas.List.{take-append-le, drop-append-le}
use Rattle.text.specs.Ascii.{ascii}
use Rattle.padded.specs.Padded.{nul_padded, each_padded}

pub each_none : (w : ℕ) (s : List ℕ) → each_padded w zero s ≡ true
unfolding each_padded
each_none w s = refl

pub each_more : (w n : ℕ) (s : List ℕ) → each_padded w (suc n) s ≡ ((ascii (take w s) && nul_padded (take w s)) && each_padded w n (drop w s))
unfolding each_padded
each_more w n s = refl

-- what follows the texts says nothing of them
pub each-front : (w n : ℕ) (xs ys : List ℕ) → n * w ≤ length xs → each_padded w n (xs ++ ys) ≡ each_padded w n xs
unfolding each_padded
each-front w zero xs ys h = refl
each-front w (suc n) xs ys h =
    let here : w ≤ length xs = omega (arith, suc-mul n w) in
    let rest : n * w ≤ length (drop w xs) = omega (arith, suc-mul n w, length-drop w xs) in
    rw (take-append-le w xs ys here, drop-append-le w xs ys here, each-front w n (drop w xs) ys rest)
