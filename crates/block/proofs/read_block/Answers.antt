-- 11, 13 and the header, then the body. Assumes nothing.
use Rattle.std.proofs.Common.{arith, rules, sym, ◌∙◌}
use Rattle.std.proofs.lemmas.Result.{err_from_is_err_and}
use Rattle.block_format.specs.Block.{header}
use Rattle.block.proofs.HeaderLaws.{accepted-no-fault}
use Rattle.block.proofs.BodyLaws.{fixed, block-version, block-short, block-long, block-header, block-done}
use Rattle.block.proofs.read_block.Goals as goal
use Rattle.block.proofs.read_block.Goals.{then-block-lt100-via-then-block-lt100, then-block-lt100-via-else-block-lt100+then-block-gt4294967295}

pub returns-then-not-is_version : goal.returns-then-not-is_version
returns-then-not-is_version c =
    let a = c.args in
    block-version a.version a.block.now a.sheet.now a.symbology.now a.layout.now (sym c.is_version.ensures ∙ c.if-not-is_version.true)

pub returns-then-block-lt100 : goal.returns-then-block-lt100
returns-then-block-lt100 c =
    let a = c.args in
    let known = sym c.is_version.ensures ∙ c.if-not-is_version.false in
    elim c.then-block-lt100.branch [
      | then-block-lt100-via-then-block-lt100 w ↦ block-short a.version a.block.now a.sheet.now a.symbology.now a.layout.now known w.if-block-lt100.true
      | then-block-lt100-via-else-block-lt100+then-block-gt4294967295 w ↦ block-long a.version a.block.now a.sheet.now a.symbology.now a.layout.now known w.if-block-lt100.false w.if-block-gt4294967295.true
    ]

pub check_header-requires : goal.check_header-requires
check_header-requires c = fixed c.args.version c.lengths_of-v.ensures (omega arith) (omega arith)

pub returns-in_err-check_header : goal.returns-in_err-check_header
returns-in_err-check_header c =
    let a = c.args in
    let p = err_from_is_err_and c.from_residual.result c.from_residual.ensures.1 in
    rw (p.1, p.2) (block-header a.version a.block.now a.sheet.now a.symbology.now a.layout.now (sym c.is_version.ensures ∙ c.if-not-is_version.false) (omega arith) (omega arith) c.lengths_of-v.ensures (sym c.in_err-check_header.was ∙ c.check_header.ensures))

pub symbol_width-width-requires : goal.symbol_width-width-requires
symbol_width-width-requires c = fixed c.args.version c.lengths_of-v.ensures (omega arith) (omega arith)

pub read_body-requires : goal.read_body-requires
read_body-requires c = record {
  fixed = fixed c.args.version c.lengths_of-v.ensures (omega arith) (omega arith);
  width_is = c.symbol_width-width.ensures;
  passed = accepted-no-fault ((header c.lengths_of-v.result).codec.parse 0 c.args.block.now 0) (sym c.in_ok-check_header.was ∙ c.check_header.ensures);
}

pub returns : goal.returns
returns c =
    let a = c.args in
    block-done a.version a.block.now a.sheet.now a.symbology.now a.layout.now (sym c.is_version.ensures ∙ c.if-not-is_version.false) (omega arith) (omega arith) c.lengths_of-v.ensures c.read_body.ensures
