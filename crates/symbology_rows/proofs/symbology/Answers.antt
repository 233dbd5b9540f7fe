-- Three lists and the mappings, one after the other. Assumes nothing.
use Rattle.codec.specs.Telling.{handed_on}
use Rattle.table.specs.ReadingLaws.{ran_is, ran_from, ran_from-stop}
use Rattle.symbology_rows.proofs.ReaderLaws.{symbology-is}
use Rattle.symbology_rows.proofs.symbology.Goals as goal

pub returns : goal.returns
returns c = ran_is (symbology-is _ _ _ _ _) (ran_from c.list.ensures _ c.in_ok-a.was (ran_from c.list-2.ensures _ c.in_ok-b.was (ran_from c.list-3.ensures _ c.in_ok-c.was c.mapped.ensures)))

pub returns-in_err-c : goal.returns-in_err-c
returns-in_err-c c = rw (handed_on c.from_residual-in_err-c.ensures) (ran_is (symbology-is _ _ _ _ _) (ran_from c.list.ensures _ c.in_ok-a.was (ran_from c.list-2.ensures _ c.in_ok-b.was (ran_from-stop c.list-3.ensures _ c.in_err-c.was))))

pub returns-in_err-b : goal.returns-in_err-b
returns-in_err-b c = rw (handed_on c.from_residual-in_err-b.ensures) (ran_is (symbology-is _ _ _ _ _) (ran_from c.list.ensures _ c.in_ok-a.was (ran_from-stop c.list-2.ensures _ c.in_err-b.was)))

pub returns-in_err-a : goal.returns-in_err-a
returns-in_err-a c = rw (handed_on c.from_residual.ensures) (ran_is (symbology-is _ _ _ _ _) (ran_from-stop c.list.ensures _ c.in_err-a.was))
