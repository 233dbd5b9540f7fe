-- What a walk over a layout's bytes meets: nothing untidy up to a place, or the first untidy thing. A byte past the end counts as 0.
-- Assumes nothing.
use Rattle.std.specs.Prelude.{ℕ, zero, suc, ◌+◌, ◌-◌, ◌≤◌, cond, List, length, get_or, leb, eqb, Result, Ok, Err}
use Rattle.refusal.specs.declared.Refusal.{Refusal}
use Rattle.codec.specs.Codec.{refusal}
use Rattle.numbers.specs.Numbers.{le16}
use Rattle.layout.specs.LayoutOf.{D}
use Rattle.layout.specs.PlaceLaws.{count_at}
use Rattle.tidy.specs.Tidy.{Tidy}

-- clear up to a place, or the first untidy thing
abbrev pub Met : Type 0
Met = Result ℕ Refusal

-- what comes after a clear part begins where it ends
abbrev pub onwards : Met → (ℕ → Met) → Met
onwards (Ok p) f = f p
onwards (Err k) f = Err k

-- a clear part ends at most n bytes after place a
pub data Near (a n : ℕ) : Met → Type 0 where
  near : {p : ℕ} → p ≤ a + n → Near a n (Ok p)
  nowhere : {k : Refusal} → Near a n (Err k)

-- n bytes from place a on, which are to be zero
unfoldable pub zeros_from : List ℕ → ℕ → ℕ → Met
zeros_from s a zero = Ok a
zeros_from s a (suc n) = cond (eqb (get_or s a 0) 0) (zeros_from s (a + 1) n) (Err (refusal 122 a))

-- n entries
unfoldable pub entries_from : List ℕ → ℕ → ℕ → Met
entries_from s a zero = Ok a
entries_from s a (suc n) = onwards (zeros_from s (a + 11) (D - 11)) λ p. entries_from s p n

-- the place after n names: a length byte, as many bytes, and a NUL
unfoldable pub names_from : List ℕ → ℕ → ℕ → ℕ
names_from s a zero = a
names_from s a (suc n) = names_from s (a + get_or s a 0 + 2) n

-- n labels, none with a code below `least`, and each with a larger one than the label before it
unfoldable pub labels_from : List ℕ → ℕ → ℕ → ℕ → Met
labels_from s a least zero = Ok a
labels_from s a least (suc n) = cond (leb least (le16 s a)) (labels_from s (a + 4 + get_or s (a + 2) 0) (le16 s a + 1) n) (Err (refusal 121 a))

-- what a section has n of, by its kind: 2 labels, else fields, which are entries and names
unfoldable pub items_from : ℕ → List ℕ → ℕ → ℕ → Met
items_from kind s a n = cond (eqb kind 2) (labels_from s a 0 n) (onwards (entries_from s a n) λ p. Ok (names_from s p n))

-- contents that end at place p, of what ends at place e: k where something is left over
unfoldable pub closing : ℕ → ℕ → ℕ → Met
closing k p e = cond (leb e p) (Ok e) (Err (refusal k p))

-- how far from a section's place its name is, by its kind: 0 a record, 1 a struct, else a label def
unfoldable pub own_bytes : ℕ → ℕ
own_bytes kind = cond (eqb kind 0) 16 (cond (eqb kind 1) 4 2)

-- the section at place a
unfoldable pub section_from : ℕ → List ℕ → ℕ → Met
section_from kind s a = onwards (items_from kind s (count_at s (a + own_bytes kind) + 2) (le16 s (count_at s (a + own_bytes kind)))) λ p. closing 120 p (a + le16 s a)

-- n sections
unfoldable pub sections_from : ℕ → List ℕ → ℕ → ℕ → Met
sections_from kind s a zero = Ok a
sections_from kind s a (suc n) = onwards (section_from kind s a) λ p. sections_from kind s p n

-- a count and as many sections
unfoldable pub group_from : ℕ → List ℕ → ℕ → Met
group_from kind s a = sections_from kind s (a + 2) (le16 s a)

-- records, structs, label defs, and what is left over
unfoldable pub layout_met : List ℕ → Met
layout_met s = onwards (group_from 0 s 2) λ p. onwards (group_from 1 s p) λ q. onwards (group_from 2 s q) λ r. closing 123 r (length s)

-- what that is to the checker
abbrev pub met_told : Met → Tidy
met_told (Ok p) = Ok tt
met_told (Err k) = Err k
