-- The layout, then the symbology; the answer and both tables follow from theirs. Assumes nothing.
use Rattle.std.proofs.Common.{refl, rules}
use Rattle.std.proofs.lemmas.Result.{err_from_is_err_and}
use Rattle.block.proofs.BodyLaws.{lays-at, lays-bad, body-no, body-bad, body-short, body-read}
use Rattle.block.proofs.read_body.Goals as goal

pub layout_part-requires : goal.layout_part-requires
layout_part-requires c = (c.requires.fixed.long, c.requires.fixed.small)

pub symbology_part-requires : goal.symbology_part-requires
symbology_part-requires c = ((lays-at c.layout_part.ensures c.in_ok-found.was).to, c.requires.fixed.small)

pub put_layout-requires : goal.put_layout-requires
put_layout-requires c =
    let layout-part = c.layout_part.ensures in
    ((lays-at layout-part c.in_ok-found.was).from, (lays-at layout-part c.in_ok-found.was).to)

pub fields_of-requires : goal.fields_of-requires
fields_of-requires c = c.requires.fixed

pub returns-in-Read : goal.returns-in-Read
returns-in-Read c =
    body-read c.args.sheet.now c.args.v c.args.block.now _ c.args.symbology.now c.args.layout.now c.requires (lays-at c.layout_part.ensures c.in_ok-found.was) c.symbology_part.ensures refl (rw c.in-Read.is at c.in_ok-sixes.was) c.put_layout.ensures c.fields_of.ensures

pub returns-in-Counted : goal.returns-in-Counted
returns-in-Counted c =
    body-short c.args.sheet.now c.args.v c.args.block.now _ c.args.symbology.now c.args.layout.now c.requires (lays-at c.layout_part.ensures c.in_ok-found.was) c.symbology_part.ensures refl (rw c.in-Counted.is at c.in_ok-sixes.was)

pub returns-in_err-sixes : goal.returns-in_err-sixes
returns-in_err-sixes c =
    let p = err_from_is_err_and c.from_residual-in_err-sixes.result c.from_residual-in_err-sixes.ensures.1 in
    rw (p.1, p.2)
    (body-bad c.args.sheet.now c.args.v c.args.block.now _ c.args.symbology.now c.args.layout.now c.requires (lays-at c.layout_part.ensures c.in_ok-found.was) c.symbology_part.ensures c.in_err-sixes.was)

pub returns-in_err-found : goal.returns-in_err-found
returns-in_err-found c =
    let p = err_from_is_err_and c.from_residual.result c.from_residual.ensures.1 in
    rw (p.1, p.2)
    (body-no c.args.sheet.now c.args.v c.args.block.now _ c.args.symbology.now c.args.layout.now c.requires (lays-bad c.layout_part.ensures c.in_err-found.was))
