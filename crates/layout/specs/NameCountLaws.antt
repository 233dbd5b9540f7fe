-- The reader takes as many names as entries, so that no rule need count them. Assumes nothing.
use Rattle.std.specs.Prelude.{ℕ, zero, suc, ◌+◌, ◌≡◌, refl, List, [], ◌∷◌, length}
use Rattle.std.proofs.Common.{sym, ap, ◌∙◌}
use Rattle.std.proofs.lemmas.List.{length-map}
use Rattle.codec.specs.Codec.{ok}
use Rattle.numbers.specs.Numbers.{le16}
use Rattle.layout.specs.Layout.{Fields, RecordL, StructL, Layout}
use Rattle.layout.specs.LayoutOf.{D, layout_of}
use Rattle.layout.specs.PlaceLaws.{heads_at, heads-none, heads-more, count_at, Fielded, StructAt, RecordAt, AllAt, layout-at}

abbrev pub AllOf : {A : Type 0} → (A → Type 0) → List A → Type 0
AllOf P [] = Unit {0}
AllOf P (x ∷ xs) = P x × AllOf P xs

-- as many names as entries
abbrev pub Even : Fields → Type 0
Even f = length f.names ≡ length f.entries

-- in each record and struct
pub record NamesMatch (t : Layout) : Type 0 where
  pub records : AllOf (λ (r : RecordL). Even r.fields) t.records
  pub structs : AllOf (λ (s : StructL). Even s.fields) t.structs

heads-length : (s : List ℕ) (a n : ℕ) → length (heads_at s a n) ≡ n
heads-length s a zero = ap length (heads-none s a)
heads-length s a (suc n) = ap length (heads-more s a n) ∙ ap suc (heads-length s (a + D) n)

fields-even : {s : List ℕ} {h end : ℕ} {f : Fields} → Fielded s h end f → Even f
fields-even {s} {h} {f = f} v =
    v.names ∙ sym (sym (length-map f.entries (λ e. e.head)) ∙ ap length v.heads ∙ heads-length s (count_at s h + 2) (le16 s (count_at s h)))

all-at : {A : Type 0} (At : List ℕ → ℕ → A → Type 0) (P : A → Type 0) (s : List ℕ) → ((at : ℕ) (x : A) → At s at x → P x) → (at : ℕ) (xs : List A) → AllAt At s at xs → AllOf P xs
all-at At P s one at [] v = tt
all-at At P s one at (x ∷ xs) v = (one at x v.0, all-at At P s one (at + le16 s at) xs v.1)

-- EVERY layout that is read has as many names as entries in each record and struct
pub names_match : (s : List ℕ) (t : Layout) (j : ℕ) → layout_of s ≡ ok t j → NamesMatch t
names_match s t j e =
    let v = layout-at s t j e in
    record {
      records = all-at RecordAt _ s (λ at x w. fields-even w.fields) _ t.records v.records;
      structs = all-at StructAt _ s (λ at x w. fields-even w.fields) _ t.structs v.structs;
    }
