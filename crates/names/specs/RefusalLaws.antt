-- The number that a row's text gives is 90, and its place is 0.
-- Assumes nothing.
use Rattle.std.specs.Prelude.{ℕ, ◌+◌, ◌≡◌, Bool, true, false, ◌&&◌, cond, leb, ltb, Err}
use Rattle.std.proofs.Common.{arith, sym}
use Rattle.refusal.specs.declared.Refusal.{Refusal}
use Rattle.codec.specs.Codec.{refusal}
use Rattle.names.specs.Names.{no_text, text_span, span_of, spanned, Spanned}

-- by a test
by-refuses : (b : Bool) (x : Spanned) {k : Refusal} → (x ≡ Err k → k ≡ refusal 90 0) → cond b x no_text ≡ Err k → k ≡ refusal 90 0
by-refuses true x h e = h e
by-refuses false x {k} h e = let q : refusal 90 0 ≡ k = cc in sym q

pub span-refuses : (hasText : ℕ → Bool) (n count : ℕ) (number : ℕ → ℕ) (index : ℕ) {k : Refusal} → span_of hasText n count number index ≡ Err k → k ≡ refusal 90 0
unfolding span_of text_span
span-refuses hasText n count number index {k} e =
    let part = spanned (number 1) (number 2) in
    let inside = hasText (number 0) && leb (number 1 + number 2) n in
    by-refuses (ltb index count) (cond inside part no_text) (λ e. by-refuses inside part (λ e. let z : ◌≡◌ {A = ℕ} 0 1 = cc in absurd (omega arith)) e) e
