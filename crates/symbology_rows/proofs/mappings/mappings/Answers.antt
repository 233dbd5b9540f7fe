-- The invariant: the mappings left, written from row k on, fill the table as all do. Assumes nothing.
use Rattle.std.proofs.Common.{arith}
use native.Mathlib.Nat.{sub-zero}
use Rattle.codec.specs.Telling.{handed_on}
use Rattle.dates.specs.MonthLaws.{right-none}
use Rattle.table.specs.ReadingLaws.{going, going-from, going-from_halt, going_end, ran_at}
use Rattle.symbology_rows.proofs.ReaderLaws.{mappings-run, mappings-next, mappings-end}
use Rattle.symbology_rows.proofs.mappings.mappings.Goals as goal

pub loop-init : goal.loop-init
loop-init c = (rw sub-zero (going _ c.requires.room), right-none 64)

pub mapping-requires : goal.mapping-requires
mapping-requires c =
    let pre = c.requires in
    record { room = record { small = pre.room.small; few = c.loop.invariant.0.few; inside = c.loop.invariant.0.inside }; width_bound = pre.width_bound; right = c.loop.invariant.1 }

pub loop-preserved : goal.loop-preserved
loop-preserved c = (
  going-from c.loop.invariant.0 _ (mappings-next _ _ _ _ _ _ _ (omega arith)) c.mapping.ensures.0 c.in_ok-m.was c.mapping.auto.table (ran_at c.mapping.ensures.0 c.in_ok-m.was),
  c.mapping.ensures.1,
)

pub returns-in_err-m : goal.returns-in_err-m
returns-in_err-m c = rw (handed_on c.from_residual.ensures) (going-from_halt c.loop.invariant.0 _ (mappings-run _ _ _ _ _ _ _ (omega arith)) c.mapping.ensures.0 c.in_err-m.was)

pub returns : goal.returns
returns c = going_end c.loop.invariant.0 (mappings-end _ _ _ _ _ _ _ (omega arith))
