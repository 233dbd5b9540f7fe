-- A repeat is as long as it says.
use Rattle.std.proofs.Common.{ℕ, sym}
use Rattle.std.proofs.lemmas.List.{length-replicate}
use Rattle.show.proofs.store.symbology_table.Goals as goal

pub returns : goal.returns
returns c = sym (length-replicate {A = ℕ} 98304 0)
