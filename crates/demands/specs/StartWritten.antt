-- Request 6 of document 02, over the public promises: what `write_block` writes, fed in any pieces, is done with the fields given and leaves the rows
-- given in the tables, starts apart. Assumes nothing.
use Rattle.std.specs.Prelude.{ℕ, ◌+◌, ◌/◌, ◌≤◌, ◌≡◌, refl, List, length, take, drop, Ok}
use Rattle.std.proofs.Common.{arith, sym, ap, ◌∙◌, length-drop}
use Rattle.codec.specs.Codec.{Bytes}
use Rattle.prelude.specs.Prelude.{prelude_of}
use Rattle.prelude.proofs.PreludeLaws.{prelude-first}
use Rattle.prelude.specs.declared.Stage.TheVariants as Stage'
use Rattle.table.specs.Columns.{columns}
use Rattle.rows_check.specs.Tree.{rows_in}
use Rattle.block_format.specs.Read.{sixes, nines, over, block_answer, block_symbology, block_layout, Promise}
use Rattle.feed.proofs.Examples.{Leaves, fed_read}
use Rattle.feed.proofs.PieceLaws.{Lent, lent_is-one}
use Rattle.feed.specs.declared.Answer.TheVariants.{Done}
use Rattle.feed.specs.declared.Fed.{Fed}
use Rattle.block_writer.specs.Write.{WritesBlock}
use Rattle.block_writer.specs.PlanLaws.{Small}
use Rattle.block_writer.proofs.BackLaws.{fields_given, written_block, reads-back, written_length, length-is, written_is, block-is, round_trip_read}

module _ (sheet : List ℕ) (version : ℕ) (fs t : List ℕ) (n : ℕ) (rows text out out' : List ℕ) (k : ℕ)
    (w : WritesBlock sheet version fs t n rows text out out' (Ok k)) (small : Small fs) (octets : Bytes text) where
  abbrev b : List ℕ
  b = drop 8 (take k out')

  -- what stands in the output is as long as was said: eight bytes and a block of 100 or more
  as_said : length (take k out') ≡ k
  as_said = ap length (written_is sheet version fs t n rows text out out' k w) ∙ sym (length-is sheet version fs t n rows text out out' k w)

  long : (length (take k out') ≡ 8 + length b) × (100 ≤ length b)
  long =
      let m = written_length sheet version fs t n rows text (length out) k small octets (sym w.is) in
      (omega (arith, as_said, m, length-drop 8 (take k out')), omega (arith, as_said, m, length-drop 8 (take k out')))

  announced : prelude_of (take 8 (take k out')) ≡ Ok (Stage'.Whole version (length b))
  announced =
      let z = reads-back sheet version fs t n rows text (length out) k small octets (sym w.is) in
      sym (prelude-first (take k out') (omega (arith, long.0)))
      ∙ ap prelude_of (written_is sheet version fs t n rows text out out' k w)
      ∙ z.prelude
      ∙ ap (λ u. Ok (Stage'.Whole version (length u))) (sym (block-is sheet version fs t n rows text out out' k w))

  -- fed in any pieces to a store that holds it, with tables that hold the rows
  pub written_fed : (st s l : List ℕ) (x : Fed) (st1 s1 l1 : List ℕ) → k ≤ length st → n ≤ length s / 6 → length (rows_in rows) ≤ length l / 9
      → Lent 0 st (take k out') sheet s l x st1 s1 l1
      → Leaves st (take k out') (columns 6 (sixes (written_block sheet version fs t n rows text)) s) (over (nines (written_block sheet version fs t n rows text)) 9 l) (Ok (Done (fields_given fs n (length (rows_in rows))))) x st1 s1 l1
  written_fed st s l x st1 s1 l1 room a c pieces =
      let z = round_trip_read sheet version fs t n rows text out out' k w small octets s l (block_symbology version b sheet s l) (block_layout version b sheet s l) (block_answer version b sheet s l) a c
      (record { answer = refl; symbology = refl; layout = refl }) in
      let p : Promise version b sheet s l (Ok (fields_given fs n (length (rows_in rows)))) (columns 6 (sixes (written_block sheet version fs t n rows text)) s) (over (nines (written_block sheet version fs t n rows text)) 9 l)
      = record { answer = sym z.answer; symbology = sym z.symbology; layout = sym z.layout } in
      fed_read st (take k out') sheet s l _ _ version (length b) _ x st1 s1 l1 announced long.0 (omega (arith, long.1)) p (omega (arith, as_said, long.0)) (lent_is-one pieces)
