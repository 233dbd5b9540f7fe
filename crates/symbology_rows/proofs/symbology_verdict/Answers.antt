-- 13 for the block, then the symbology with a table too short for a row. Assumes nothing.
use Rattle.std.proofs.Common.{arith}
use Rattle.symbology_rows.proofs.Public.{found_13, found-is}
use Rattle.symbology_rows.proofs.symbology_verdict.Goals as goal
use Rattle.symbology_rows.proofs.symbology_verdict.Goals.{then-s-gt4294967295-via-then-s-gt4294967295, then-s-gt4294967295-via-else-s-gt4294967295+then-base-s}

pub returns-then-s-gt4294967295 : goal.returns-then-s-gt4294967295
returns-then-s-gt4294967295 c =
    elim c.then-s-gt4294967295.branch [
      | then-s-gt4294967295-via-then-s-gt4294967295 w ↦ found_13 _ _ _ (omega arith)
      | then-s-gt4294967295-via-else-s-gt4294967295+then-base-s w ↦ found_13 _ _ _ (omega arith)
    ]

pub returns : goal.returns
returns c = found-is _ _ _ (omega arith) c.symbology.ensures
