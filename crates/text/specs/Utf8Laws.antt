-- Laws of `utf8`: of a text after another, and of a text with zeros at its end, at every width.
-- Assumes nothing.
use Rattle.std.specs.Prelude.{◌≡◌, refl, Bool, true, false, cond, List, [], ◌∷◌, ◌++◌, ℕ, zero, suc, ◌-◌, T, leb, ltb, length, take, replicate}
use Rattle.std.proofs.Common.{◌∙◌, sym, ap, subst, append_assoc, append-nil, arith}
use Rattle.std.proofs.Math.Option.{none, some}
use Rattle.std.proofs.lemmas.Bool.{lt-leb}
use Rattle.text.specs.Utf8.{Range, ◌to◌, Expect, table37, within, starts, step, ended, goes, utf8}
use Rattle.codec.specs.Every.{both}
use Rattle.text.specs.Trim.{trimmed_len}
use Rattle.text.specs.TrimLaws.{trimmed-split}

-- ---- one after the other
absurd_true : {A : Type 0} → false ≡ true → A
absurd_true e = absurd (subst T (sym e) tt)

none-goes : (s : List ℕ) → goes none s ≡ false
none-goes [] = refl
none-goes (b ∷ s) = none-goes s

goes-append : (e : Expect) (a b : List ℕ) → goes e a ≡ true → goes e (a ++ b) ≡ goes (some []) b
goes-append none [] b h = absurd_true h
goes-append (some []) [] b h = refl
goes-append (some (r ∷ rs)) [] b h = absurd_true h
goes-append e (x ∷ a) b h = goes-append (step e x) a b h

-- after a text the rest is judged as if it stood alone
pub utf8_append : (a b : List ℕ) → utf8 a ≡ true → utf8 (a ++ b) ≡ utf8 b
unfolding utf8
utf8_append a b h = goes-append (some []) a b h

-- ---- zeros at the end

-- no zero is in the ranges
abbrev high : List Range → Bool
high [] = true
high ((lo to hi) ∷ rs) = both (ltb 0 lo) (high rs)

abbrev tails : List (List Range) → Bool
tails [] = true
tails ([] ∷ rows) = tails rows
tails ((r ∷ rs) ∷ rows) = both (high rs) (tails rows)

abbrev High : Expect → Type 0
High none = Unit {0}
High (some rs) = T (high rs)

both-parts : (a b : Bool) → T (both a b) → T a × T b
both-parts true b t = (tt, t)
both-parts false b t = absurd t

pick_high : (t : Bool) (a b : Expect) → High a → High b → High (cond t a b)
pick_high true a b p q = p
pick_high false a b p q = q

starts-high : (b : ℕ) (rows : List (List Range)) → T (tails rows) → High (starts b rows)
starts-high b [] t = tt
starts-high b ([] ∷ rows) t = starts-high b rows t
starts-high b ((r ∷ rs) ∷ rows) t =
    let p = both-parts (high rs) (tails rows) t in
    pick_high (within b r) (some rs) (starts b rows) p.0 (starts-high b rows p.1)

step-high : (e : Expect) (b : ℕ) → High e → High (step e b)
step-high none b h = tt
step-high (some []) b h = starts-high b table37 tt
step-high (some ((lo to hi) ∷ rs)) b h = pick_high (within b (lo to hi)) (some rs) none (both-parts (ltb 0 lo) (high rs) h).1 tt

low_first : (lo : ℕ) (b : Bool) → T (ltb 0 lo) → both (leb lo 0) b ≡ false
low_first zero b t = absurd t
low_first (suc lo) b t = rw (lt-leb (suc lo) 0 (omega arith))

-- a zero stands only where no row is begun
zero-last : (e : Expect) → High e → ended (step e 0) ≡ ended e
zero-last none h = refl
zero-last (some []) h = refl
zero-last (some ((lo to hi) ∷ rs)) h =
    let z : within 0 (lo to hi) ≡ false = low_first lo (leb 0 hi) (both-parts (ltb 0 lo) (high rs) h).0 in
    rw z

goes_init : (e : Expect) (t : List ℕ) → High e → goes e (t ++ (0 ∷ [])) ≡ goes e t
goes_init e [] h = zero-last e h
goes_init e (b ∷ t) h = goes_init (step e b) t (step-high e b h)

utf8_init : (t : List ℕ) → utf8 (t ++ (0 ∷ [])) ≡ utf8 t
unfolding utf8
utf8_init t = goes_init (some []) t tt

-- bytes filled up with zeros are a text just where they are one without
pub utf8-padded : (t : List ℕ) (n : ℕ) → utf8 (t ++ replicate n 0) ≡ utf8 t
utf8-padded t zero = ap utf8 (append-nil t)
utf8-padded t (suc n) = ap utf8 (sym (append_assoc t (0 ∷ []) (replicate n 0))) ∙ utf8-padded (t ++ (0 ∷ [])) n ∙ utf8_init t

-- and trimmed just where they are one whole
pub utf8-trimmed : (s : List ℕ) → utf8 (take (trimmed_len s) s) ≡ utf8 s
utf8-trimmed s = sym (ap utf8 (trimmed-split s) ∙ utf8-padded (take (trimmed_len s) s) (length s - trimmed_len s))
