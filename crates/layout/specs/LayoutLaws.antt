-- The layout's laws, from those of its parts. Assumes nothing.
use Rattle.std.specs.Prelude.{ℕ, ◌<◌, ◌≡◌, Bool, List, [], ◌++◌, length, drop}
use native.Mathlib.Omega.{arith}
use Rattle.std.proofs.Math.Nat.{zero-add}
use Rattle.std.proofs.Math.Path.{refl, sym, ap, subst}
use Rattle.std.proofs.Common.{◌∙◌}
use Rattle.std.proofs.Math.ListN.{take}
use Rattle.codec.specs.Codec.{ok, Bytes, ◌then◌, num, whole}
use Rattle.wire.specs.Formats.{Tests}
use Rattle.codec.proofs.Laws.{bind_ok, left-part, part-take, bytes-append, whole-reads, whole_back}
use Rattle.layout.specs.Layout.{Layout, Parts, parts, to_layout, from_layout, read_layout, print_layout, locate_layout, LegalLayout, bare_layout, FitsLayout, EachName}

module _ (tests : Tests) (D : ℕ) where
  -- (a): the bytes of a legal layout are read as that layout, with its places
  pub parse-print : (t : Layout) → LegalLayout tests D t → read_layout tests D (print_layout tests D t) ≡ ok (locate_layout tests D t) (length (print_layout tests D t))
  unfolding read_layout print_layout locate_layout LegalLayout
  parse-print t lg = rw (whole-reads (parts tests D).codec (parts tests D).law 0 _ t.rest lg.0)

  -- (b): what is read is legal, has its places, and is the bytes that were read
  pub record Parsed (b : List ℕ) (t : Layout) : Type 0 where
    pub bytes : print_layout tests D t ≡ b
    pub located : locate_layout tests D t ≡ t
    pub legal : LegalLayout tests D t

  pub print-parse : (b : List ℕ) (t : Layout) (j : ℕ) → Bytes b → read_layout tests D b ≡ ok t j → Parsed b t
  unfolding read_layout print_layout locate_layout LegalLayout
  print-parse b t j bs e =
      let (z, k, ez, e1) = bind_ok (whole (parts tests D).codec 0 b) _ t j e in
      let w = whole_back (parts tests D).codec (parts tests D).law 0 b z k bs ez in
      let p : to_layout z ≡ t = cc in
      subst (λ v. Parsed b v) p (record { bytes = sym w.bytes; located = ap (λ v. to_layout (v, z.1)) w.located; legal = (w.legal, w.rest) })

  -- (c): other skipped bytes, with every length still fitting, are read to the same, places apart
  pub record Reread (t t' : Layout) : Type 0 where
    pub accepted : read_layout tests D (print_layout tests D t') ≡ ok (locate_layout tests D t') (length (print_layout tests D t'))
    pub same : bare_layout tests D (locate_layout tests D t') ≡ bare_layout tests D t

  pub skipped-free : (b : List ℕ) (t t' : Layout) (j : ℕ) → Bytes b → read_layout tests D b ≡ ok t j
      → bare_layout tests D t ≡ bare_layout tests D t' → FitsLayout tests D t' → Reread t t'
  unfolding LegalLayout bare_layout FitsLayout locate_layout
  skipped-free b t t' j bs e same f =
      let p = print-parse b t j bs e in
      let q = ap (λ v. (from_layout v).0) same in
      record {
        accepted = parse-print t' ((parts tests D).law.swap _ _ p.legal.0 q f.0, f.1);
        same = ap (λ v. to_layout (v, [])) ((parts tests D).law.still 0 (from_layout t').0) ∙ sym same;
      }

  -- every name's text stands at its start
  pub spots : (b : List ℕ) (t : Layout) (j : ℕ) → Bytes b → read_layout tests D b ≡ ok t j → EachName tests D (λ n u. take (length u) (drop n b) ≡ u) t
  unfolding EachName print_layout locate_layout
  spots b t j bs e =
      let p = print-parse b t j bs e in
      subst (λ v. EachName tests D (λ n u. take (length u) (drop n b) ≡ u) v) p.located
      ((parts tests D).law.spotted _ 0 (from_layout t).0 (λ n u q. rw zero-add (subst (λ v. take (length u) (drop n v) ≡ u) p.bytes (part-take (left-part t.rest q)))))

  pub layout-octets : (t : Layout) → LegalLayout tests D t → Bytes (print_layout tests D t)
  unfolding LegalLayout print_layout
  layout-octets t lg = bytes-append ((parts tests D).codec.print (from_layout t).0) t.rest ((parts tests D).law.octets _ lg.0) lg.1

  pub swap-legal : (b : List ℕ) (t t' : Layout) (j : ℕ) → Bytes b → read_layout tests D b ≡ ok t j
      → bare_layout tests D t ≡ bare_layout tests D t' → FitsLayout tests D t' → LegalLayout tests D t'
  unfolding LegalLayout bare_layout FitsLayout
  swap-legal b t t' j bs e same f =
      ((parts tests D).law.swap _ _ (print-parse b t j bs e).legal.0 (ap (λ v. (from_layout v).0) same) f.0, f.1)

  -- a legal layout and its bytes, by parts and rest
  pub legal-parts : (t : Layout) → LegalLayout tests D t → (parts tests D).codec.legal (from_layout t).0 × Bytes t.rest
  unfolding LegalLayout
  legal-parts t lg = lg

  pub print-parts : (t : Layout) → print_layout tests D t ≡ (parts tests D).codec.print (from_layout t).0 ++ t.rest
  unfolding print_layout
  print-parts t = refl

  -- the version alone has two bytes
  pub parts-some : (x : Parts) → (parts tests D).codec.legal x → 0 < length ((parts tests D).codec.print x)
  unfolding parts ◌then◌ num
  parts-some x lg = omega arith
