-- Index, used count, the bytes, zeros. Assumes nothing.
use native.Mathlib.Omega.{arith}
use mathlib.Core.Path.{refl}
use Rattle.put.specs.OutputLaws.{left-start, left_stored, left-last}
use Rattle.house_file.specs.PackLaws.{body-length}
use Rattle.house_file.proofs.write.put_body.Goals as goal

pub returns : goal.returns
returns c = left-last (left_stored (left_stored (left_stored (left-start (record { fits = omega (arith, body-length c.args.index c.args.part.now c.requires.0, c.requires.1) })) _ refl c.put_little-a.ensures) _ refl c.put_little-b.ensures) _ refl c.put_bytes-c.ensures) c.put_zeros.ensures
