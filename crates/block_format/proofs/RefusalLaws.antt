-- Which numbers a block gives, and where.
-- Assumes nothing.
use Rattle.block_format.specs.declared.ReadError.{ReadError}
use Rattle.std.specs.Prelude.{ℕ, ◌≤◌, ◌≡◌, refl, ◌⊎◌, Bool, true, false, cond, List, ◌∷◌, length, leb, Ok, Err}
use Rattle.std.proofs.Common.{zero-le, arith, sym, ap, subst, inl, inr}
use Rattle.refusal.specs.declared.Refusal.{Refusal}
use Rattle.codec.specs.Codec.{Res, ok, refuse, refusal, ◌>>=◌, need, whole}
use Rattle.codec.specs.Refusals.{Gives, In, Within}
use Rattle.codec.proofs.PlaceLaws.{within-is, within_test, within-whole}
use Rattle.codec.proofs.RefusalLaws.{in_more, gives_more, gives_is, gives_test, gives_whole}
use Rattle.text.specs.Utf8.{utf8}
use Rattle.wire.specs.Reader.{all_tests}
use Rattle.padded.specs.Padded.{nul_padded}
use Rattle.dates.specs.Date.{is_date}
use Rattle.prelude.specs.Prelude.{is_version}
use Rattle.layout.specs.LayoutOf.{D}
use Rattle.layout.specs.Answers.{wire_numbers}
use Rattle.layout.specs.RefusalLaws.{parts-numbers}
use Rattle.symbology_format.specs.Contents.{contents_numbers, symbology-numbers}
use Rattle.item_rules.specs.Rules.{rule_numbers}
use Rattle.rules.proofs.RefusalLaws.{rules_fault}
use Rattle.metadata_lengths.specs.Lengths.{lengths}
use Rattle.block_format.specs.Block.{Block, header, layout_part, symbology_part, block, block_of}
use Rattle.block_format.specs.Fields.{fields_of}
use Rattle.block_format.specs.Read.{sixes, nines, roomy, body_numbers, block_numbers, answer_of, block_answer, Promise}
use Rattle.metadata_lengths.specs.declared.MetadataLengths.{MetadataLengths}

-- the numbers of a block of a version that there is
abbrev P : ℕ → Type 0
P = In (13 ∷ body_numbers)

header-numbers : (v : MetadataLengths) → (header v).numbers P
unfolding header
header-numbers v =
    (((refl, refl), refl), ((refl, refl), (refl, (refl, (refl, (refl, ((refl, refl), ((refl, refl), (refl, (refl, refl))))))))))

layout-numbers : (has : Bool) (sheet : List ℕ) (width : ℕ) → (layout_part has sheet width).numbers P
unfolding layout_part
layout-numbers true sheet width =
    ((parts-numbers P (in_more wire_numbers (13 ∷ body_numbers) refl) all_tests D, (refl, (refl, refl))), λ z. rules_fault P (in_more rule_numbers (13 ∷ body_numbers) refl) sheet width z.0)
layout-numbers false sheet width = ((refl, λ n. refl), refl)

section-numbers : (has : Bool) (width : ℕ) → (symbology_part has width).numbers P
unfolding symbology_part
section-numbers true width = (symbology-numbers P (in_more contents_numbers (13 ∷ body_numbers) refl) utf8 nul_padded is_date width, (refl, (refl, refl)))
section-numbers false width = symbology-numbers P (in_more contents_numbers (13 ∷ body_numbers) refl) utf8 nul_padded is_date width

block-numbers : (sheet : List ℕ) (v : MetadataLengths) → (block sheet v).numbers P
unfolding block
block-numbers sheet v = (header-numbers v, λ h. (layout-numbers v.has_layout sheet _, section-numbers v.has_layout _))

-- its size, then its bytes
sized_gives : (sheet b : List ℕ) (v : MetadataLengths) → Gives P (need (leb 100 (length b)) 13 0 >>= λ _ _. need (leb (length b) 4294967295) 13 0 >>= λ _ _. whole (block sheet v).codec 0 b)
sized_gives sheet b v =
    let read = whole (block sheet v).codec 0 b in
    gives_test P (leb 100 (length b)) 13 0 (λ _ _. need (leb (length b) 4294967295) 13 0 >>= λ _ _. read) refl
    (gives_test P (leb (length b) 4294967295) 13 0 (λ _ _. read) refl
    (gives_whole P (block sheet v).codec ((block sheet v).refuses P (block-numbers sheet v)) 0 b))

pub block_gives : (version : ℕ) (sheet b : List ℕ) → Gives (In block_numbers) (block_of version sheet b)
unfolding block_of
block_gives version sheet b =
    let read = need (leb 100 (length b)) 13 0 >>= λ _ _. need (leb (length b) 4294967295) 13 0 >>= λ _ _. whole (block sheet (lengths version)).codec 0 b in
    gives_test (In block_numbers) (is_version version) 11 3 (λ _ _. read) refl
    (gives_more P (In block_numbers) (in_more (13 ∷ body_numbers) block_numbers refl) read (sized_gives sheet b (lengths version)))

-- and where there is such a version, not by the version
body_gives : (version : ℕ) (sheet b : List ℕ) → is_version version ≡ true → Gives P (block_of version sheet b)
unfolding block_of
body_gives version sheet b h =
    let read = need (leb 100 (length b)) 13 0 >>= λ _ _. need (leb (length b) 4294967295) 13 0 >>= λ _ _. whole (block sheet (lengths version)).codec 0 b in
    subst (λ (x : Bool). Gives P (need x 11 3 >>= λ _ _. read)) (sym h) (sized_gives sheet b (lengths version))

-- the place of a refusal is within the block; the version's counts from the prelude
pub block_within : (version : ℕ) (sheet b : List ℕ) {k : Refusal} → block_of version sheet b ≡ refuse k → (k ≡ refusal 11 3) ⊎ (k.place ≤ length b)
unfolding block_of
block_within version sheet b {k} e = go (is_version version) e
  where
    size : (x : Bool) (r : Res (Block × List ℕ)) → Within 0 (length b) r → Within 0 (length b) (need x 13 0 >>= λ _ _. r)
    size x r w = within_test x 13 0 (λ _ _. r) zero-le (λ _. w)

    go : (x : Bool) → (need x 11 3 >>= λ _ _. need (leb 100 (length b)) 13 0 >>= λ _ _. need (leb (length b) 4294967295) 13 0 >>= λ _ _. whole (block sheet (lengths version)).codec 0 b) ≡ refuse k
        → (k ≡ refusal 11 3) ⊎ (k.place ≤ length b)
    go false e = inl (let q : refusal 11 3 ≡ k = cc in sym q)
    go true e =
        inr (within-is (size (leb 100 (length b)) _ (size (leb (length b) 4294967295) _ (within-whole (block sheet (lengths version)).codec (block sheet (lengths version)).inside 0 b))) e)

answer-refused : (v : MetadataLengths) (r : Res (Block × List ℕ)) (m n : ℕ) {k : Refusal} → Err (ReadError.Refused k) ≡ answer_of v r m n → r ≡ refuse k
unfolding answer_of
answer-refused v (ok z j) m n {k} e = absurd (go (roomy z.0 m n) e)
  where
    go : (b : Bool) → Err (ReadError.Refused k) ≡ cond b (Ok (fields_of v z.0)) (Err (ReadError.Short (length (sixes z.0)) (length (nines z.0)))) → ⊥
    go true e = let z : ◌≡◌ {A = ℕ} 0 1 = cc in omega arith
    go false e = let z : ◌≡◌ {A = ℕ} 0 1 = cc in omega arith
answer-refused v (refuse j) m n {k} e = let q : j ≡ k = cc in ap refuse q

module _ (v : ℕ) (b t s l : List ℕ) {k : Refusal} where
  pub answer-refuses : Err (ReadError.Refused k) ≡ block_answer v b t s l → In block_numbers k.number
  unfolding block_answer
  answer-refuses e = gives_is (In block_numbers) (block_gives v t b) (answer-refused (lengths v) (block_of v t b) (length s) (length l) e)

  -- a block of a version that there is is never refused by 11
  pub answer-body : is_version v ≡ true → Err (ReadError.Refused k) ≡ block_answer v b t s l → In (13 ∷ body_numbers) k.number
  unfolding block_answer
  answer-body h e = gives_is P (body_gives v t b h) (answer-refused (lengths v) (block_of v t b) (length s) (length l) e)

  -- and where
  pub answer-within : Err (ReadError.Refused k) ≡ block_answer v b t s l → (k ≡ refusal 11 3) ⊎ (k.place ≤ length b)
  unfolding block_answer
  answer-within e = block_within v t b (answer-refused (lengths v) (block_of v t b) (length s) (length l) e)

  -- whatever tables are lent: the same number at the same place
  pub refused_anyway : Err (ReadError.Refused k) ≡ block_answer v b t s l → (s₂ l₂ : List ℕ) → block_answer v b t s₂ l₂ ≡ Err (ReadError.Refused k)
  unfolding block_answer answer_of
  refused_anyway e s₂ l₂ = rw (answer-refused (lengths v) (block_of v t b) (length s) (length l) e)

  -- what the reader's answer refuses with
  pub block-refuses : (s' l' : List ℕ) → Promise v b t s l (Err (ReadError.Refused k)) s' l' → In block_numbers k.number
  block-refuses s' l' p = answer-refuses p.answer
