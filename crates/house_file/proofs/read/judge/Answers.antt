-- What refuses the blocks that are left refuses all. Assumes nothing.
use Rattle.codec.specs.Telling.{handed_on, passed, all_passed, is_passed, passed_refuses}
use Rattle.std.proofs.Common.{arith, ◌≡◌, ◌+◌, ◌-◌, ◌*◌, refl, sym, ap, ap₂, ◌∙◌}
use Rattle.house_file.specs.House.{file_fault}
use Rattle.house_file.specs.BlockLaws.{blocks_at}
use Rattle.house_file.proofs.Laws.{faults_on, faults_stop}
use Rattle.house_file.proofs.read.judge.Goals as goal

pub returns-in_err-judge_block : goal.returns-in_err-judge_block
returns-in_err-judge_block c =
    let s = c.args.file.now in
    let i = c.loop-index.index in
    let stop = faults_stop s i (512 * i) (c.args.n - i) _ (omega arith) refl ((passed_refuses _ (sym c.in_err-judge_block.was ∙ c.judge_block.ensures)).0) in
    let e : passed (file_fault 0 (blocks_at c.args.n 0 s)) ≡ c.judge_block.result = ap passed (c.loop-index.invariant ∙ sym stop) ∙ sym c.judge_block.ensures in
    cc (e, c.in_err-judge_block.was, handed_on c.from_residual.ensures)

pub loop-index-preserved : goal.loop-index-preserved
loop-index-preserved c =
    let s = c.args.file.now in
    let i = c.loop-index.index in
    let m : c.args.n - i - 1 ≡ c.args.n - (i + 1) = omega arith in
    let p : 512 * i + 512 ≡ 512 * (i + 1) = omega arith in
    c.loop-index.invariant ∙ faults_on s i (512 * i) (c.args.n - i) (omega arith) refl ((is_passed _ (sym c.in_ok-judge_block.was ∙ c.judge_block.ensures)))
    ∙ ap₂ (λ k q. file_fault (i + 1) (blocks_at k q s)) m p

pub returns : goal.returns
returns c =
    let s = c.args.file.now in
    let i = c.loop-index.index in
    let none : c.args.n - i ≡ 0 = omega (arith, c.loop-index-test.false) in
    all_passed _ (c.loop-index.invariant ∙ ap (λ k. file_fault i (blocks_at k (512 * i) s)) none)
