-- A span that lies in the text is looked at for its end.
-- Assumes nothing.
use mathlib.Core.Path.{sym}
use native.Mathlib.Omega.{arith}
use Rattle.block_writer.proofs.FieldLaws.{dataset-outside, dataset-inside}
use Rattle.block_writer.proofs.given.dataset_fits.Goals as goal

pub returns-then-text-start : goal.returns-then-text-start
returns-then-text-start c = sym (dataset-outside c.args.fields.now c.args.text.now (omega (arith, c.if-text-start.true)))

pub returns-then-text-start-2 : goal.returns-then-text-start-2
returns-then-text-start-2 c = sym (dataset-outside c.args.fields.now c.args.text.now (omega (arith, c.if-text-start.false, c.if-text-start-2.true)))

pub returns : goal.returns
returns c = rw c.trimmed_len.ensures (dataset-inside c.args.fields.now c.args.text.now (omega (arith, c.if-text-start.false, c.if-text-start-2.false)))
