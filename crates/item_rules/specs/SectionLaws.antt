-- Where an accepted layout's records and structs stand, and the number that they give. Assumes nothing.
use Rattle.std.specs.Prelude.{ℕ, zero, suc, ◌+◌, ◌≡◌, Bool, List, [], ◌∷◌, map, length}
use Rattle.std.proofs.Math.Path.{refl, sym}
use Rattle.std.proofs.Common.{ap₂, ◌∙◌, subst}
use Rattle.std.proofs.Math.Bool.{true, false}
use borrow.Author.Tests.{le-leb}
use Rattle.codec.specs.Codec.{ok}
use Rattle.numbers.specs.Numbers.{le16}
use Rattle.layout.specs.Layout.{RecordL, StructL, Layout}
use Rattle.layout.specs.LayoutOf.{D, layout_of}
use Rattle.layout.specs.PlaceLaws.{heads_at, heads-none, heads-more, StructAt, RecordAt, AllAt, skip_to, structs_at, labels_at, LayoutAt, layout-at}
use Rattle.item_rules.specs.declared.Place.{Place}
use Rattle.item_rules.specs.Rules.{Seq, seqs_fault, struct_seq, record_seq}
use Rattle.item_rules.specs.RuleLaws.{seq-eq}
use Rattle.item_rules.specs.Entries.{entry_at, entries_at, entries_of}
use Rattle.item_rules.specs.Items.{item_seq, section_item, SectionInside, seqs_by, Stand, end_by, seqs_from, end_from, Good}
use Rattle.item_rules.specs.Standing.{stands, section_records, counted_fault, sections_fault}
use Rattle.item_rules.specs.StandingLaws.{good-stands}

heads-are : (s t : List ℕ) (n a : ℕ) → heads_at s a n ≡ entries_at s t false D a n
unfolding entries_at entry_at
heads-are s t zero a = heads-none s a
heads-are s t (suc n) a = heads-more s a n ∙ ap₂ ◌∷◌ refl (heads-are s t n (a + D))

end-sections : (isRecord : Bool) (s t : List ℕ) (n at : ℕ) → end_by isRecord s t false at n ≡ skip_to s at n
end-sections isRecord s t zero at = refl
end-sections isRecord s t (suc n) at = end-sections isRecord s t n (at + le16 s at)

module _ (s t : List ℕ) where
  -- what is judged of the section at `at`, which lies within s
  record One (isRecord : Bool) (at : ℕ) (q : Seq) : Type 0 where
    is : item_seq s t (section_item isRecord s at) ≡ q
    lies : SectionInside isRecord s at

  one_struct : (at : ℕ) (x : StructL) → StructAt s at x → One false at (struct_seq x)
  unfolding section_item entries_of
  one_struct at x v = record { is = sym (seq-eq refl v.size (v.fields.heads ∙ heads-are s t _ _)); lies = record { fields = v.fields.inside; inside = v.inside } }

  one_record : (at : ℕ) (x : RecordL) → RecordAt s at x → One true at (record_seq x)
  unfolding section_item entries_of
  one_record at x v = record { is = sym (seq-eq v.rtype v.base (v.fields.heads ∙ heads-are s t _ _)); lies = record { fields = v.fields.inside; inside = v.inside } }

  pub record Seqs (isRecord : Bool) (at n : ℕ) (qs : List Seq) : Type 0 where
    pub are : seqs_by isRecord s t false at n ≡ qs
    pub stand : Stand isRecord s t false at n

  -- sections of one kind, one after the other
  all-seqs : {A : Type 0} (At : List ℕ → ℕ → A → Type 0) (isRecord : Bool) (f : A → Seq) → ((at : ℕ) (x : A) → At s at x → One isRecord at (f x))
      → (at : ℕ) (xs : List A) → AllAt At s at xs → Seqs isRecord at (length xs) (map f xs)
  all-seqs At isRecord f one at [] v = record { are = refl; stand = tt }
  all-seqs At isRecord f one at (x ∷ xs) v =
      let o = one at x v.0 in
      let w = all-seqs At isRecord f one (at + le16 s at) xs v.1 in
      record { are = ap₂ ◌∷◌ o.is w.are; stand = (o.lies, w.stand) }

  module _ (tree : Layout) (next : ℕ) (is : layout_of s ≡ ok tree next) where
    at_all : LayoutAt s tree
    at_all = layout-at s tree next is

    records-here : Seqs true 4 (le16 s 2) (map record_seq tree.records)
    records-here = subst (λ (n : ℕ). Seqs true 4 n (map record_seq tree.records)) at_all.records-count (all-seqs RecordAt true record_seq one_record 4 tree.records at_all.records)

    structs-here : Seqs false (structs_at s + 2) (le16 s (structs_at s)) (map struct_seq tree.structs)
    structs-here = subst (λ (n : ℕ). Seqs false (structs_at s + 2) n (map struct_seq tree.structs)) at_all.structs-count (all-seqs StructAt false struct_seq one_struct (structs_at s + 2) tree.structs at_all.structs)

    abbrev structs_from : Place
    structs_from = record { rows = false; at = structs_at s + 2; left = le16 s (structs_at s) }

    records-end : end_from s t true (section_records s) ≡ structs_at s
    unfolding end_from
    records-end = end-sections true s t (le16 s 2) 4

    structs_end : end_from s t false structs_from ≡ labels_at s
    unfolding end_from
    structs_end = end-sections false s t (le16 s (structs_at s)) (structs_at s + 2)

    records-stand : stands s t true (section_records s) ≡ true
    unfolding Good
    records-stand = good-stands _ _ _ _ records-here.stand

    structs-stand : stands s t false structs_from ≡ true
    unfolding Good
    structs-stand = good-stands _ _ _ _ structs-here.stand

    -- they give what the records and structs of the layout give
    pub sections-are : (sheet : List ℕ) (width : ℕ) → sections_fault sheet width s t ≡ seqs_fault sheet width (map struct_seq tree.structs) (map record_seq tree.records) (length tree.labels)
    unfolding seqs_from sections_fault counted_fault
    sections-are sheet width =
        rw (records-stand, records-end, le-leb _ _ at_all.two, structs-stand, structs_end, structs-here.are, records-here.are, at_all.labels-count)
