-- What storing the parts of a start, one after the other, needs and makes. Assumes nothing.
use Rattle.std.specs.Prelude.{ℕ, ◌+◌, ◌≤◌, ◌<◌, ◌≡◌, Bool, true, List, ◌++◌, eqb}
use Rattle.std.proofs.Common.{arith, ◌∙◌, subst}
use Rattle.std.proofs.Math.Path.{sym, ap, refl}
use Rattle.refusal.specs.declared.Refusal.{Refusal}
use Rattle.std.proofs.Math.ListN.{length, length-append}
use borrow.Author.Tests.{lt-leb, ne_eqb}
use Rattle.codec.specs.Codec.{refusal}
use Rattle.codec.specs.CaseLaws.{both_true}
use Rattle.put.specs.Output.{RoomFor, Wrote}
use Rattle.put.specs.OutputLaws.{room-front, wrote-filled}
use Rattle.writer.specs.Write.{out_after}
use Rattle.writer.proofs.RoundTripLaws.{out_written, out-refused}
use Rattle.std.specs.Prelude.{Ok, Err}
use Rattle.metadata_lengths.specs.Lengths.{lengths}
use Rattle.block_format.specs.Block.{header, layout_part, symbology_part}
use Rattle.block_format.specs.LengthsLaws.{lengths-layout}
use Rattle.columns_check.specs.Tree.{symbology_of}
use Rattle.header_bytes.specs.Numbers.{width}
use Rattle.block_writer.specs.Fields.{dataset_text, fields_fit, fields_narrow}
use Rattle.header_bytes.specs.Header.{header_of}
use Rattle.block_writer.specs.Tree.{layout_tree, prelude_bytes, block_bytes}
use Rattle.block_writer.specs.Write as Write
use Rattle.block_writer.specs.Write.{start_bytes, write_fault, write_block, WritesBlock}
use Rattle.block_writer.specs.Plan.{Ready, Sizes, Planned, LayoutReady, NamesReady}
use Rattle.block_writer.specs.PlanLaws.{start-bytes-is, ready-formed, ready-narrow, ready_narrow16, ready_version16}
use Rattle.block_writer.proofs.BackLaws.{prelude-length, accepts}
use Rattle.block_writer.specs.declared.Plan.{Plan}

-- no field is malformed or too wide
pub start-fields : {version : ℕ} {fs t : List ℕ} {n : ℕ} {text : List ℕ} → Ready version fs t n text → (fields_fit version fs text ≡ true) × (fields_narrow version fs ≡ true)
unfolding Write.formed Write.slim
start-fields {version} {fs} {text = text} r = ((both_true (fields_fit version fs text) _ r.formed).0, (both_true (fields_narrow version fs) _ r.slim).0)

module _ {sheet : List ℕ} {version : ℕ} {fs t : List ℕ} {n : ℕ} {rows text : List ℕ} where
  module _ {p : Plan} (z : Sizes sheet version fs t n rows text p) {has : Bool} (e : has ≡ eqb version 4) where
    own : (lengths version).has_layout ≡ has
    own = lengths-layout version ∙ sym e

    -- prelude, header, layout, symbology
    pub start-parts : start_bytes sheet version fs t n rows text
        ≡ prelude_bytes version p.len ++ ((header (lengths version)).codec.print (header_of version fs (dataset_text fs text))
        ++ ((layout_part has sheet (width fs)).codec.print (layout_tree has fs rows text) ++ (symbology_part has (width fs)).codec.print (symbology_of (width fs) t n text)))
    start-parts =
        let rest : Bool → List ℕ = λ h. (header (lengths version)).codec.print (header_of version fs (dataset_text fs text))
        ++ ((layout_part h sheet (width fs)).codec.print (layout_tree h fs rows text) ++ (symbology_part h (width fs)).codec.print (symbology_of (width fs) t n text)) in
        subst (λ (h : Bool). start_bytes sheet version fs t n rows text ≡ prelude_bytes version p.len ++ rest h) own
        (start-bytes-is z.ready sheet rows ∙ ap (λ m. prelude_bytes version m ++ rest (lengths version).has_layout) (sym z.len))

    pub layout-ready : LayoutReady has sheet fs rows text p.layout
    layout-ready =
        subst (λ (h : Bool). LayoutReady h sheet fs rows text p.layout) own
        (record { fits = (ready_version16 z.ready, ready_narrow16 z.ready); len = z.layout; whole = z.whole; ruled = z.ruled })

  pub names-given : {p : Plan} → Sizes sheet version fs t n rows text p → NamesReady (width fs) t n text p.names p
  names-given z = record { formed = ready-formed z.ready; narrow = ready-narrow z.ready; names = z.names; counts = z.counts }

-- ---- the answer

module _ (sheet : List ℕ) (version : ℕ) (fs t : List ℕ) (n : ℕ) (rows text : List ℕ) where
  -- eight bytes and the block
  pub start-length : length (start_bytes sheet version fs t n rows text) ≡ 8 + length (block_bytes sheet version fs t n rows text)
  unfolding start_bytes
  start-length =
      let b = block_bytes sheet version fs t n rows text in
      length-append (prelude_bytes version (length b)) b ∙ ap (λ m. m + length b) (prelude-length version (length b))

  answer-refused : (room k : ℕ) → k ≡ write_fault sheet version fs t n rows text → (k ≡ 0 → ⊥) → write_block sheet version fs t n rows text room ≡ Err (refusal k 0)
  unfolding write_block
  answer-refused room k e h = rw (ne_eqb 0 (write_fault sheet version fs t n rows text) (λ j. h (e ∙ sym j))) (ap (λ m. Err (refusal m 0)) (sym e))

  answer-short : (room : ℕ) → write_fault sheet version fs t n rows text ≡ 0 → room < length (start_bytes sheet version fs t n rows text) → write_block sheet version fs t n rows text room ≡ Err (refusal 112 0)
  unfolding write_block
  answer-short room e h = rw (e, lt-leb (length (start_bytes sheet version fs t n rows text)) room h)

  -- a refusal leaves the output
  pub leaves-out : (out : List ℕ) {k : ℕ} → write_block sheet version fs t n rows text (length out) ≡ Err (refusal k 0) → WritesBlock sheet version fs t n rows text out out (Err (refusal k 0))
  leaves-out out {k} e = record { is = sym e; leaves = sym (ap (λ r. out_after r (start_bytes sheet version fs t n rows text) out) e ∙ out-refused (refusal k 0) (start_bytes sheet version fs t n rows text) out) }

  -- by a number
  pub refused-by : {e : Refusal} → Planned sheet version fs t n rows text (Err e) → (out : List ℕ) → WritesBlock sheet version fs t n rows text out out (Err e)
  refused-by y out = rw y.told.1 (leaves-out out (answer-refused (length out) (write_fault sheet version fs t n rows text) refl y.told.0))

  module _ {p : Plan} (y : Planned sheet version fs t n rows text (Ok p)) (out : List ℕ) where
    long : length (start_bytes sheet version fs t n rows text) ≡ 8 + p.len
    long = start-length ∙ ap (λ m. 8 + m) (sym y.told.1.len)

    -- by 112
    pub too_short : length out < 8 + p.len → WritesBlock sheet version fs t n rows text out out (Err (refusal 112 0))
    too_short h = leaves-out out (answer-short (length out) y.told.0 (omega (arith, long)))

    pub roomy : 8 + p.len ≤ length out → RoomFor 0 (start_bytes sheet version fs t n rows text) out
    roomy h = room-front (omega (arith, long))

    -- written
    pub written_out_lem : {out' : List ℕ} {r : ℕ} → 8 + p.len ≤ length out → Wrote 0 (start_bytes sheet version fs t n rows text) out out' r → WritesBlock sheet version fs t n rows text out out' (Ok (8 + p.len))
    written_out_lem h w =
        let s = start_bytes sheet version fs t n rows text in
        let e : write_block sheet version fs t n rows text (length out) ≡ Ok (length s) = accepts sheet version fs t n rows text (length out) y.told.0 (omega (arith, long)) in
        record { is = ap Ok (sym long) ∙ sym e; leaves = (wrote-filled w).bytes ∙ sym (ap (λ r. out_after r s out) e ∙ out_written (length s) s out) }
