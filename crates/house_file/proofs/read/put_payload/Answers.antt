-- What is left to write is what the blocks that are left hold. Assumes nothing.
use Rattle.std.proofs.Common.{arith, ◌≡◌, ◌+◌, ◌-◌, ◌*◌, sym, ap₂, ◌∙◌}
use Rattle.put.specs.OutputLaws.{left-start, left_stored, left-done}
use Rattle.house_file.specs.House.{file_fault}
use Rattle.house_file.specs.BlockLaws.{blocks_at}
use Rattle.house_file.proofs.Laws.{held-few, held_on, held_next, held-end}
use Rattle.house_file.proofs.read.put_payload.Goals as goal

pub loop-index-init : goal.loop-index-init
loop-index-init c = let z : c.args.n - 0 ≡ c.args.n = omega arith in (rw z (left-start (record { fits = omega (arith, c.requires.room) })), rw z c.requires.fine)

pub slice_bounds-put_bytes-end : goal.slice_bounds-put_bytes-end
slice_bounds-put_bytes-end c = omega (arith, c.u16_of-used.ensures.0, c.requires.long, held-few c.args.file.now c.loop-index.index (512 * c.loop-index.index) (c.args.n - c.loop-index.index) (omega arith) c.loop-index.invariant.1)

pub loop-index-preserved : goal.loop-index-preserved
loop-index-preserved c =
    let s = c.args.file.now in
    let i = c.loop-index.index in
    let m : c.args.n - i - 1 ≡ c.args.n - (i + 1) = omega arith in
    let p : 512 * i + 512 ≡ 512 * (i + 1) = omega arith in
    let few = held-few s i (512 * i) (c.args.n - i) (omega arith) c.loop-index.invariant.1 in
    let next = held_next s i (512 * i) (c.args.n - i) (omega arith) (omega (arith, c.requires.long)) c.u16_of-used.ensures.0 (omega (arith, c.u16_of-used.ensures.0, few)) in (
      left_stored c.loop-index.invariant.0 _ (rw (m, p) at next) c.put_bytes-to.ensures,
      sym (ap₂ (λ k q. file_fault (i + 1) (blocks_at k q s)) m p) ∙ held_on s i (512 * i) (c.args.n - i) (omega arith) c.loop-index.invariant.1,
    )

pub returns : goal.returns
returns c = left-done c.loop-index.invariant.0 (held-end c.args.file.now 0 (512 * c.loop-index.index) (c.args.n - c.loop-index.index) (λ h. omega arith))
