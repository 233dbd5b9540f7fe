-- Too wide, no room, or stored.
-- Assumes nothing.
use Prim.Native.Nat.{◌≤◌}
use native.Mathlib.Omega.{arith}
use lib.ListN.{length}
use Rattle.put.specs.OutputLaws.{wrote-length}
use Rattle.metadata_lengths.specs.Lengths.{lengths}
use Rattle.header_bytes.specs.HeaderLaws.{header-wide, header-room, header-short, header_written}
use borrow.Author.Rules.{rules}
use Rattle.header_bytes.proofs.put_header.Goals as goal

pub returns-then-lengths_of-dataset : goal.returns-then-lengths_of-dataset
returns-then-lengths_of-dataset c = header-wide c.args.version c.args.fields.now c.args.dataset.now c.args.at c.args.out.now (rw c.lengths_of.ensures at c.if-lengths_of-dataset.true)

pub returns-then-out-lt100 : goal.returns-then-out-lt100
returns-then-out-lt100 c =
    let h : length c.args.dataset.now ≤ (lengths c.args.version).dataset_cstr_len = omega (arith, rw c.lengths_of.ensures at c.if-lengths_of-dataset.false) in
    header-short c.args.version c.args.fields.now c.args.dataset.now h (omega (arith, c.if-out-lt100.true))

pub returns-then-out-at : goal.returns-then-out-at
returns-then-out-at c =
    let h : length c.args.dataset.now ≤ (lengths c.args.version).dataset_cstr_len = omega (arith, rw c.lengths_of.ensures at c.if-lengths_of-dataset.false) in
    header-short c.args.version c.args.fields.now c.args.dataset.now h (omega (arith, c.if-out-lt100.false, c.if-out-at.true))

pub store_header-requires : goal.store_header-requires
store_header-requires c =
    let h : length c.args.dataset.now ≤ (lengths c.args.version).dataset_cstr_len = omega (arith, rw c.lengths_of.ensures at c.if-lengths_of-dataset.false) in
    record { dataset_len_bound = h; room_for = header-room c.args.version c.args.fields.now c.args.dataset.now h (omega (arith, c.if-out-lt100.false, c.if-out-at.false)) }

pub shape_of-out : goal.shape_of-out
shape_of-out c = wrote-length c.store_header.ensures

pub returns : goal.returns
returns c =
    let h : length c.args.dataset.now ≤ (lengths c.args.version).dataset_cstr_len = omega (arith, rw c.lengths_of.ensures at c.if-lengths_of-dataset.false) in
    header_written c.args.version c.args.fields.now c.args.dataset.now h c.store_header.ensures
