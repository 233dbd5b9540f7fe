-- What the C functions of a house file give for each case of an answer: the number, and the values in `out`.
-- Assumes nothing.
use Rattle.block_format.specs.declared.ReadError.{ReadError}
use Rattle.std.specs.Prelude.{ℕ, ◌≡◌, List, length, set, Result, Ok, Err}
use Rattle.feed.specs.declared.Answer.{Answer}
use Rattle.house_file.specs.House.{blocks_of, unpacked_in, store_in}
use Rattle.refusal.specs.declared.Refusal.{Refusal}
use Rattle.house.specs.declared.Held.{Held}
use Rattle.house.specs.Start.{stored_in, output_after, loaded_as, symbology_as, layout_as, load_number}
use Rattle.c_texts.specs.Numbers.{place_out}
use Rattle.c_answer.specs.Numbers.{answer_out}

-- ---- storing

-- 0 for a file that was written
abbrev pub store_number : Result ℕ Refusal → ℕ
store_number (Ok n) = 0
store_number (Err e) = e.number

-- the length written, at 0; a refusal's place where it has one
abbrev pub store_out : Result ℕ Refusal → List ℕ → List ℕ
store_out (Ok n) o = set o 0 n
store_out (Err e) o = place_out e o

-- THE PROMISE of dbn_house_store: the stream s, with the sheet t, in the output p
pub record StoreC (s t p o : List ℕ) (r : ℕ) (p' o' : List ℕ) : Type 0 where
  pub number : r ≡ store_number (stored_in (length p) s t)
  pub out : o' ≡ store_out (stored_in (length p) s t) o
  pub output : p' ≡ output_after p s t

-- ---- loading

-- nothing taken at 16, held at 17, needed at 18, 0 unless bytes are needed; then as the answer has it
abbrev pub held_out : ℕ → Result Answer ReadError → List ℕ → List ℕ
held_out n a o = answer_out a (set (set (set o 16 0) 17 n) 18 0)

-- a file that is refused, or that finds no room, leaves `out` as it was
abbrev pub load_out : Result Held Refusal → List ℕ → List ℕ
load_out (Err e) o = o
load_out (Ok h) o = held_out h.len h.answer o

-- the answer on the file f in the store st: t is the sheet, s and l the tables
abbrev pub loaded_from : List ℕ → List ℕ → List ℕ → List ℕ → List ℕ → Result Held Refusal
loaded_from f st t s l = loaded_as (unpacked_in (length st) (blocks_of f)) (store_in st (blocks_of f)) t s l

-- THE PROMISE of dbn_house_load
pub record LoadC (f st t s l o : List ℕ) (r : ℕ) (st' s' l' o' : List ℕ) : Type 0 where
  pub number : r ≡ load_number (loaded_from f st t s l)
  pub out : o' ≡ load_out (loaded_from f st t s l) o
  pub store : st' ≡ store_in st (blocks_of f)
  pub symbology : s' ≡ symbology_as (unpacked_in (length st) (blocks_of f)) (store_in st (blocks_of f)) t s l
  pub layout : l' ≡ layout_as (unpacked_in (length st) (blocks_of f)) (store_in st (blocks_of f)) t s l
