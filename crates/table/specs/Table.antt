-- What a reader of rows gives: the rows and the place after them, or the refusal; and what it leaves in a table.
-- Assumes nothing.
use Rattle.numbers.specs.Numbers.{Got}
use Rattle.std.specs.Prelude.{ℕ, ◌+◌, ◌*◌, ◌/◌, ◌≤◌, ◌<◌, ◌^◌, ◌≡◌, cond, List, [], ◌∷◌, ◌++◌, map, length, set, ltb, Ok, Err}
use Rattle.std.proofs.lemmas.List.Edits.{sets}
use Rattle.refusal.specs.declared.Refusal.{Refusal}
use Rattle.codec.specs.Codec.{Res, ok, refuse, ◌>>=◌}

-- the lists, one after the other
abbrev pub flat : {A : Type 0} → List (List A) → List A
flat [] = []
flat (x ∷ xs) = x ++ flat xs

-- the rows of each
abbrev pub all_rows : {A : Type 0} → (A → List (List ℕ)) → List A → List (List ℕ)
all_rows f xs = flat (map f xs)

-- the rows of a thing, told the index of the first of them
abbrev pub From : Type 0
From = ℕ → List (List ℕ)

infixr 25 ◌and_then◌
-- rows, and others after them
abbrev pub ◌and_then◌ : From → From → From
◌and_then◌ f g n = f n ++ g (n + length (f n))

-- the rows of each, one after the other
abbrev pub each_from : {A : Type 0} → (A → From) → List A → From
each_from f [] n = []
each_from f (x ∷ xs) n = (f x and_then each_from f xs) n

abbrev pub Out : Type 0
Out = Res (List (List ℕ))

-- the rows of what is read
abbrev pub said : {A : Type 0} → (A → List (List ℕ)) → Res A → Out
said f r = r >>= λ x j. ok (f x) j

-- one row before others
abbrev pub row : List ℕ → Out → Out
row r o = o >>= λ rs p. ok (r ∷ rs) p

-- the first reader's rows, and where it stopped those of the second
unfoldable pub seq : Out → (ℕ → Out) → Out
seq o f = o >>= λ rs p. f p >>= λ qs q. ok (rs ++ qs) q

-- the same from row n on, where the second is told the index of its first row too
unfoldable pub seq_from : ℕ → Out → (ℕ → ℕ → Out) → Out
seq_from n o f = o >>= λ rs p. f (n + length rs) p >>= λ qs q. ok (rs ++ qs) q

-- a number that was read, and what follows it
abbrev pub on_got : Got → (ℕ → ℕ → Out) → Out
on_got (Ok (v, p)) f = f v p
on_got (Err k) f = refuse k

-- how row n goes into a table
abbrev pub Putter : Type 0
Putter = List ℕ → ℕ → List ℕ → List ℕ

-- into a table of rows of w numbers, one after the other, where the table has the row
unfoldable pub put_row : ℕ → Putter
put_row w t n r = cond (ltb n (length t / w)) (sets t (w * n) r) t

-- numbers at place i, at i + h, and so on
abbrev pub spread : ℕ → List ℕ → ℕ → List ℕ → List ℕ
spread h t i [] = t
spread h t i (x ∷ xs) = spread h (set t i x) (i + h) xs

-- into a table of w columns, each as high as the table can hold rows: number c of row n stands at c * height + n
unfoldable pub put_columns : ℕ → Putter
put_columns w t n r = cond (ltb n (length t / w)) (spread (length t / w) t n r) t

-- the table after row n is stored
pub record Put (put : Putter) (t : List ℕ) (n : ℕ) (r t' : List ℕ) : Type 0 where
  pub is : t' ≡ put t n r

-- the table after the rows from row n on
abbrev pub fill : Putter → List ℕ → ℕ → List (List ℕ) → List ℕ
fill put t n [] = t
fill put t n (r ∷ rs) = fill put (put t n r) (n + 1) rs

-- the same, of a reader: a refusal says nothing of the table
abbrev pub Fills : Putter → List ℕ → ℕ → Out → List ℕ → Type 0
Fills put t n (ok rs p) t' = t' ≡ fill put t n rs
Fills put t n (refuse k) t' = Unit {0}

-- the next row's index and the next place, or the refusal
abbrev pub answer : ℕ → Out → Got
answer n (ok rs p) = Ok (n + length rs, p)
answer n (refuse k) = Err k

-- a place within the section, and rows counted within the bytes passed
pub data Within (base : ℕ) (s : List ℕ) : Got → Type 0 where
  stopped : {m p : ℕ} → m ≤ base + p → p ≤ length s → Within base s (Ok (m, p))
  refused : {k : Refusal} → Within base s (Err k)

-- what a reader of rows at `at` asks: places from `base` on fit a u32, and there are no more rows than bytes before
pub record Room (base : ℕ) (s : List ℕ) (at n : ℕ) : Type 0 where
  pub small : base + length s < 2 ^ 32
  pub few : n ≤ base + at
  pub inside : at ≤ length s

-- what it does: answer and table are those of `o`
pub record Ran (put : Putter) (base : ℕ) (s : List ℕ) (o : Out) (n : ℕ) (t t' : List ℕ) (r : Got) : Type 0 where
  pub answered : r ≡ answer n o
  pub filled : Fills put t n o t'
  pub within : Within base s r
