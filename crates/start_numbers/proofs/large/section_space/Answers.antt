-- A repeat is as long as it says.
use Rattle.std.proofs.Common.{ℕ, sym}
use Rattle.std.proofs.lemmas.List.{length-replicate}
use Rattle.start_numbers.proofs.large.section_space.Goals as goal

pub returns : goal.returns
returns c = sym (length-replicate {A = ℕ} 2295 0)
