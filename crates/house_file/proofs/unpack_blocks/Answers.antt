-- What refuses the blocks, then the store, then the copy. Assumes nothing.
use Rattle.codec.specs.Telling.{handed_on, is_passed, passed_refuses, refuses_by}
use native.Mathlib.Omega.{arith}
use mathlib.Core.Path.{◌≡◌, refl, sym, ◌∙◌}
use Rattle.std.specs.Prelude.{Err}
use Rattle.codec.specs.Codec.{refusal}
use Rattle.house_file.specs.House.{file_fault}
use lib.ListN.{length}
use Rattle.put.specs.OutputLaws.{wrote-length}
use Rattle.house_file.specs.BlockLaws.{blocks_at, number, is-length, blocks_fine}
use Rattle.house_file.proofs.Laws.{blocks_told, unpack_refused, unpack_short, unpack_done, whole_length}
use Rattle.house_file.proofs.unpack_blocks.Goals as goal

pub judge-requires : goal.judge-requires
judge-requires c = omega (arith, is-length (length c.args.file.now) c.requires)

pub returns-in_err-judge : goal.returns-in_err-judge
returns-in_err-judge c =
    let s = c.args.file.now in
    let z = (passed_refuses _ (sym c.in_err-judge.was ∙ c.judge.ensures)).0 in
    let e : c.from_residual.result ≡ Err (refusal (file_fault 0 (blocks_at (number s) 0 s)) 0) = cc (handed_on c.from_residual.ensures, c.in_err-judge.was, c.judge.ensures, sym (refuses_by (file_fault 0 (blocks_at (number s) 0 s)) z)) in
    rw e (unpack_refused (blocks_told s c.requires _ refl z))

pub overflow_sub-len : goal.overflow_sub-len
overflow_sub-len c = omega (arith, is-length (length c.args.file.now) c.requires)

pub overflow_mul-len : goal.overflow_mul-len
overflow_mul-len c = omega (arith, is-length (length c.args.file.now) c.requires)

pub overflow_sub-n : goal.overflow_sub-n
overflow_sub-n c = omega (arith, is-length (length c.args.file.now) c.requires)

pub overflow_mul-n : goal.overflow_mul-n
overflow_mul-n c = omega (arith, is-length (length c.args.file.now) c.requires)

pub overflow_add-n : goal.overflow_add-n
overflow_add-n c = omega (arith, is-length (length c.args.file.now) c.requires)

pub overflow_add-len : goal.overflow_add-len
overflow_add-len c = omega (arith, is-length (length c.args.file.now) c.requires, c.u16_of.ensures.1)

pub returns-then-store-len : goal.returns-then-store-len
returns-then-store-len c = rw c.refuse.ensures (unpack_short (blocks_fine c.args.file.now c.requires ((is_passed _ (sym c.in_ok-judge.was ∙ c.judge.ensures)))) (omega (arith, c.if-store-len.true, c.u16_of.ensures.0, whole_length c.args.file.now c.requires ((is_passed _ (sym c.in_ok-judge.was ∙ c.judge.ensures))))))

pub put_payload-requires : goal.put_payload-requires
put_payload-requires c = record { long = omega (arith, is-length (length c.args.file.now) c.requires); fine = (is_passed _ (sym c.in_ok-judge.was ∙ c.judge.ensures)); room = omega (arith, c.if-store-len.false, c.u16_of.ensures.0, whole_length c.args.file.now c.requires ((is_passed _ (sym c.in_ok-judge.was ∙ c.judge.ensures)))) }

pub shape_of-store : goal.shape_of-store
shape_of-store c = wrote-length c.put_payload.ensures

pub returns : goal.returns
returns c = unpack_done (blocks_fine c.args.file.now c.requires ((is_passed _ (sym c.in_ok-judge.was ∙ c.judge.ensures)))) c.put_payload.ensures
