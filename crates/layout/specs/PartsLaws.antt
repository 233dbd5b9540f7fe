-- A layout's bytes and places are those of its parts, and places change no row but by its start. Assumes nothing.
use Rattle.std.specs.Prelude.{ℕ, ◌≡◌, refl, [], ◌++◌, map}
use Rattle.std.proofs.Common.{sym, ap, ◌∙◌}
use Rattle.wire.specs.Reader.{all_tests}
use Rattle.wire.specs.Formats.{Tests}
use Rattle.layout.specs.Layout.{Layout, parts, to_layout, from_layout, print_layout, locate_layout, bare_layout}
use Rattle.layout.specs.LayoutOf.{D}
use Rattle.layout.specs.Rows.{rows}
use Rattle.layout.specs.RowLaws.{no_start, rows-bare}
use Rattle.layout.specs.PrintLaws.{parts-still}

-- the bytes of its parts, and what is left over
pub printed-parts : (tests : Tests) (D : ℕ) (t : Layout) → print_layout tests D t ≡ (parts tests D).codec.print (from_layout t).0 ++ t.rest
unfolding print_layout
printed-parts tests D t = refl

-- its parts with their places from the layout's first byte on
pub located-parts : (tests : Tests) (D : ℕ) (t : Layout) → locate_layout tests D t ≡ to_layout ((parts tests D).codec.locate 0 (from_layout t).0, t.rest)
unfolding locate_layout
located-parts tests D t = refl

-- the rows of any layout, starts apart, are those of the layout with its places
pub rows-still : (t : Layout) → map no_start (rows (locate_layout all_tests D t)) ≡ map no_start (rows t)
unfolding bare_layout
rows-still t = rows-bare all_tests D (locate_layout all_tests D t) ∙ ap (λ v. rows (to_layout (v, []))) (parts-still t) ∙ sym (rows-bare all_tests D t)
