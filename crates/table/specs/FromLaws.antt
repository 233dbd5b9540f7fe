-- What is said of each row of rows that tell their index, among the rows before and after them. Assumes nothing.
use Rattle.std.specs.Prelude.{ℕ, ◌+◌, ◌≤◌, ◌<◌, ◌≡◌, List, [], ◌∷◌, ◌++◌, length}
use Rattle.std.proofs.Common.{zero-le, arith, sym, ap, ◌∙◌, subst, append_assoc, append-nil, length-append}
use Rattle.codec.specs.CaseLaws.{by_le}
use Rattle.table.specs.Table.{From, ◌and_then◌, each_from}

module _ (R : List (List ℕ) → ℕ → Type 0) where
  -- R of each row of f, whatever rows stand before and after
  abbrev pub Among : From → Type 0
  Among f = (pre post : List (List ℕ)) (i : ℕ) → length pre ≤ i → i < length pre + length (f (length pre)) → R (pre ++ (f (length pre) ++ post)) i

  pub among_then : (f g : From) → Among f → Among g → Among (f and_then g)
  among_then f g a b pre post i h l =
      let n = length pre in
      let m = n + length (f n) in
      let long : length (pre ++ f n) ≡ m = length-append pre (f n) in
      let all = length-append (f n) (g m) in
      by_le m i
      (λ k.
      let e : (pre ++ f n) ++ (g (length (pre ++ f n)) ++ post) ≡ pre ++ ((f n ++ g m) ++ post) =
      ap (λ (j : ℕ). (pre ++ f n) ++ (g j ++ post)) long ∙ append_assoc pre (f n) (g m ++ post) ∙ ap (λ (u : List (List ℕ)). pre ++ u) (sym (append_assoc (f n) (g m) post)) in
      let same : length (g (length (pre ++ f n))) ≡ length (g m) = ap (λ (j : ℕ). length (g j)) long in
      subst (λ (rs : List (List ℕ)). R rs i) e (b (pre ++ f n) post i (omega arith) (omega arith)))
      (λ k. subst (λ (u : List (List ℕ)). R (pre ++ u) i) (sym (append_assoc (f n) (g m) post)) (a pre (g m ++ post) i h (omega arith)))

  pub among-each : {A : Type 0} (f : A → From) → ((x : A) → Among (f x)) → (xs : List A) → Among (each_from f xs)
  among-each f h [] = λ pre post i g l. absurd (omega arith)
  among-each f h (x ∷ xs) = among_then (f x) (each_from f xs) (h x) (among-each f h xs)

  -- and so of each of all rows
  pub among-all : (f : From) → Among f → (i : ℕ) → i < length (f 0) → R (f 0) i
  among-all f h i l = subst (λ (rs : List (List ℕ)). R rs i) (append-nil (f 0)) (h [] [] i zero-le (omega arith))
