-- How far an end is from the length without zeros, from what the bytes before it are. Assumes nothing.
use Prim.Native.Nat.{ℕ, suc, ◌-◌, ◌≤◌, ◌<◌}
use mathlib.Core.Path.{◌≡◌, ◌∙◌}
use mathlib.Core.List.{List}
use native.Mathlib.Omega.{arith}
use native.Mathlib.Decide.{dec_lt}
use lib.ListN.{length, take, drop}
use Rattle.text.specs.Runs.{ored}
use Rattle.text.specs.Trim.{trimmed_len}
use Rattle.text.specs.TrimLaws.{after_kept, last-kept}
use Rattle.text.proofs.Or.{run-below, run-zero}

-- r is the bits of the n bytes before e
module _ (s : List ℕ) (e n r : ℕ) (least : trimmed_len s ≤ e) (within : e ≤ length s) (some : n ≤ e) (bits : r ≡ ored 0 (take n (drop (e - n) s))) where
  -- zeros are not kept
  pub not-kept : r ≡ 0 → trimmed_len s ≤ e - n
  not-kept z =
      elim (dec_lt (e - n) (trimmed_len s)) [
        | no g ↦ omega arith
        | yes l ↦
            let one : trimmed_len s ≡ suc (trimmed_len s - 1) = omega arith in
            let zero = run-below 0 s (e - n) n (omega arith) r bits (omega arith) (trimmed_len s - 1) (omega arith) (omega arith) in
            absurd (last-kept s (trimmed_len s - 1) one (omega arith))
      ]

  -- another byte is
  pub some-kept : (r ≡ 0 → ⊥) → e - n < trimmed_len s
  some-kept h =
      elim (dec_lt (e - n) (trimmed_len s)) [
        | yes l ↦ l
        | no g ↦ absurd (h (bits ∙ run-zero s (e - n) n (omega arith) (λ k lo. after_kept s k (omega arith))))
      ]
