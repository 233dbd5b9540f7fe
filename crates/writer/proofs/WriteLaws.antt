-- The ways out of the writer. Assumes nothing.
use Prim.Native.Nat.{ℕ, ◌≤◌, ◌<◌}
use native.Mathlib.Omega.{arith}
use mathlib.Core.Path.{◌≡◌, sym, ap, ◌∙◌}
use mathlib.Core.Bool.{true}
use mathlib.Core.List.{List}
use lib.ListN.{length}
use borrow.Author.Tests.{ne_eqb, le-leb, lt-leb}
use Rattle.refusal.specs.declared.Refusal.{Refusal}
use Rattle.codec.specs.Codec.{refusal}
use Rattle.rules.specs.RowRules.{rows_fault, ruled_rows}
use Rattle.rules.specs.RowRuleLaws.{ruled-length, ruled-fault}
use Rattle.rows_check.specs.Check.{printed}
use Rattle.rows_check.specs.SectionLaws.{printed-length}
use Rattle.rows_check.specs.AnswerLaws.{Fitted}
use Rattle.rows_check.specs.declared.Size.{Size}
use Rattle.std.specs.Prelude.{Ok, Err}
use Rattle.put.specs.Output.{Filled}
use Rattle.writer.proofs.RoundTripLaws.{out_written, out-refused}
use Rattle.writer.specs.Write.{write_layout, Writes}

module _ (sheet : List ℕ) (width version : ℕ) (rows text out : List ℕ) where
  refused : (k : Refusal) → write_layout sheet width version rows text (length out) ≡ Err k → Writes sheet width version rows text out out (Err k)
  refused k e = record { is = sym e; leaves = rw (e, out-refused k) }

  -- 90 to 95, and 60 to 83
  pub refused-by_check : (k : Refusal) → Err k ≡ ruled_rows sheet width true rows text → Writes sheet width version rows text out out (Err k)
  unfolding write_layout
  refused-by_check k e =
      let (n, f) = ruled-fault sheet width true rows text k e in
      refused k (rw (f, ne_eqb 0 (rows_fault sheet width true rows text) (λ z. n (sym z))))

  module _ (z : Size) (e : Ok z ≡ ruled_rows sheet width true rows text) where
    w : (rows_fault sheet width true rows text ≡ 0) × Fitted true rows text z
    w = ruled-length sheet width true rows text z e

    -- 96
    pub refused-short : length out < z.bytes → Writes sheet width version rows text out out (Err (refusal 96 0))
    unfolding write_layout
    refused-short h =
        let m : length out < length (printed version rows text) = omega (arith, h, w.1.bytes, printed-length rows text version) in
        refused (refusal 96 0) (rw (w.0, lt-leb (length (printed version rows text)) (length out) m))

    pub room_for : z.bytes ≤ length out → length (printed version rows text) ≤ length out
    room_for h = omega (arith, h, w.1.bytes, printed-length rows text version)

    pub written : z.bytes ≤ length out → (o : List ℕ) (n : ℕ) → Filled (printed version rows text) out o n → Writes sheet width version rows text out o (Ok n)
    unfolding write_layout
    written h o n d =
        let m : write_layout sheet width version rows text (length out) ≡ Ok (length (printed version rows text)) = rw (w.0, le-leb (length (printed version rows text)) (length out) (room_for h)) in
        record { is = ap Ok d.count ∙ sym m; leaves = d.bytes ∙ rw (m, out_written (length (printed version rows text))) }
