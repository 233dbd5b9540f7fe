-- The span lies in the text.
-- Assumes nothing.
use Rattle.header_bytes.specs.Numbers.{dataset_start, dataset_len}
use Rattle.block_writer.specs.Fields.{dataset_text}
use Rattle.block_writer.proofs.FieldLaws.{dataset-span, part-is}
use borrow.Author.Rules.{rules}
use Rattle.block_writer.proofs.given.dataset.Goals as goal

pub overflow_add-result : goal.overflow_add-result
overflow_add-result c = let h = dataset-span c.args.fields.now c.args.text.now c.requires in search rules

pub slice_bounds-result-end : goal.slice_bounds-result-end
slice_bounds-result-end c = let h = dataset-span c.args.fields.now c.args.text.now c.requires in search rules

pub returns : goal.returns
unfolding dataset_text
returns c = part-is (dataset_start c.args.fields.now) (dataset_len c.args.fields.now) c.args.text.now
