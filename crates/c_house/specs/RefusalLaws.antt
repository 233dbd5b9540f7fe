-- Which numbers the C functions of a house file give. Assumes nothing.
use Rattle.std.specs.Prelude.{ℕ, ◌≡◌, refl, List, ◌∷◌, length, Result, Ok, Err}
use Rattle.std.proofs.Common.{sym, subst}
use Rattle.refusal.specs.declared.Refusal.{Refusal}
use Rattle.codec.specs.Refusals.{In}
use Rattle.codec.proofs.RefusalLaws.{in_more}
use Rattle.house_file.specs.House.{blocks_of, store_in}
use Rattle.house.specs.Start.{stored_in}
use Rattle.house.specs.RefusalLaws.{store_numbers, load_numbers, stored_refuses, load_in}
use Rattle.c_house.specs.Numbers.{store_number, StoreC, LoadC}

-- dbn_house_store: 0, or what refuses storing
pub store-number : (s t p o : List ℕ) (r : ℕ) (p' o' : List ℕ) → StoreC s t p o r p' o' → In (0 ∷ store_numbers) r
store-number s t p o r p' o' f = subst (In (0 ∷ store_numbers)) (sym f.number) (go (stored_in (length p) s t) (λ e i. stored_refuses (length p) s t i))
  where
    go : (x : Result ℕ Refusal) → ((e : Refusal) → x ≡ Err e → In store_numbers e.number) → In (0 ∷ store_numbers) (store_number x)
    go (Ok n) h = refl
    go (Err e) h = in_more store_numbers (0 ∷ store_numbers) refl e.number (h e refl)

-- dbn_house_load: 0, 3 or what refuses loading
pub load_number_lem : (f st t s l o : List ℕ) (r : ℕ) (st' s' l' o' : List ℕ) → LoadC f st t s l o r st' s' l' o' → In (0 ∷ 3 ∷ load_numbers) r
load_number_lem f st t s l o r st' s' l' o' g = subst (In (0 ∷ 3 ∷ load_numbers)) (sym g.number) (load_in (length st) f (store_in st (blocks_of f)) t s l)
