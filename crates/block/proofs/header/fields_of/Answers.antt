-- Each field is the number at its place in the header. Assumes nothing.
use mathlib.Core.Path.{ap, ◌∙◌}
use Rattle.block_format.specs.Fields.{schema_of, end_of, limit_of, stype_in_of}
use Rattle.block.proofs.HeaderLaws.{fields-are}
use borrow.Author.Rules.{rules}
use Rattle.block.proofs.header.fields_of.Goals as goal

pub returns : goal.returns
returns c =
    fields-are c.args.v c.args.block.now c.requires _ _ _ c.trimmed_len.ensures (c.present_unless.ensures ∙ ap schema_of c.half-schema.ensures.0) c.long.ensures (c.end_of.ensures ∙ ap end_of c.long-2.ensures) (c.present_unless-2.ensures ∙ ap limit_of c.long-limit.ensures) (c.present_unless-3.ensures ∙ ap stype_in_of c.wide-stype_in.ensures.0) c.symbol_width.ensures
