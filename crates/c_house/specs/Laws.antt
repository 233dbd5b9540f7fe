-- What storing and loading promise gives what the C functions promise.
-- Assumes nothing.
use Rattle.std.specs.Prelude.{ℕ, ◌≡◌, List, Result}
use Rattle.std.proofs.Common.{sym, ap, ◌∙◌}
use Rattle.refusal.specs.declared.Refusal.{Refusal}
use Rattle.house.specs.declared.Held.{Held}
use Rattle.house.specs.Start.{load_number, Storing, Loading}
use Rattle.c_house.specs.Numbers.{store_number, store_out, StoreC, load_out, LoadC}

pub stored_c : {s t p o : List ℕ} {x y : Result ℕ Refusal} {r : ℕ} {p1 o1 : List ℕ}
    → Storing s t p x p1 → x ≡ y → r ≡ store_number y → o1 ≡ store_out y o → StoreC s t p o r p1 o1
stored_c {o = o} w e n u =
    let q = sym e ∙ w.answer in
    record { number = n ∙ ap store_number q; out = u ∙ ap (λ z. store_out z o) q; output = w.output }

pub loaded_c : {f st t s l o : List ℕ} {x y : Result Held Refusal} {r : ℕ} {st1 s1 l1 o1 : List ℕ}
    → Loading f st t s l x st1 s1 l1 → x ≡ y → r ≡ load_number y → o1 ≡ load_out y o → LoadC f st t s l o r st1 s1 l1 o1
loaded_c {o = o} w e n u =
    let q = sym e ∙ w.answer in
    record { number = n ∙ ap load_number q; out = u ∙ ap (λ z. load_out z o) q; store = w.store; symbology = w.symbology; layout = w.layout }
