-- Keeping the start of a stream in a house file, as request 13 of document 02 has it.
-- Assumes nothing.
use Rattle.block_format.specs.declared.ReadError.{ReadError}
use Rattle.std.specs.Prelude.{ℕ, ◌≡◌, List, [], cond, length, eqb, Result, Ok, Err}
use Rattle.refusal.specs.declared.Refusal.{Refusal}
use Rattle.codec.specs.Codec.{refusal}
use Rattle.held.specs.Held.{bounded}
use Rattle.held.specs.declared.Holding.{Holding}
use Rattle.held.specs.declared.Holding.TheVariants.{Needs, Whole}
use Rattle.feed.specs.Feeding.{start, stage_of, answer_at, symbology_at, layout_at, answer_number}
use Rattle.feed.specs.declared.Answer.{Answer}
use Rattle.house.specs.declared.Held.{Held}
use Rattle.house_file.specs.House.{blocks_of, unpacked_in, store_in, packed_in, output_in}

-- ---- storing

-- k bytes held, in a store that is long enough for what their head says
abbrev pub roomy : ℕ → Result Holding Refusal → Result Holding Refusal
roomy k (Ok (Needs n)) = Ok (Needs n)
roomy k (Err e) = Err e
roomy k (Ok (Whole w v)) = bounded 2 w k w v

-- the stream as the held bytes of such a store
unfoldable pub start_stage : List ℕ → Result Holding Refusal
start_stage s = roomy (length s) (start.says s)

-- the reader's refusal of it, number 0 for none; 134 where bytes are still needed; no table is lent, so rows that find no room are none
abbrev pub refusal_of : Result Answer ReadError → Refusal
refusal_of (Ok (Answer.Needs n)) = refusal 134 0
refusal_of (Err (ReadError.Refused e)) = e
refusal_of (Ok (Answer.Done f)) = refusal 0 0
refusal_of (Err (ReadError.Short s l)) = refusal 0 0

-- what refuses the stream s as a start that is whole; t is the sheet
unfoldable pub start_fault : List ℕ → List ℕ → Refusal
start_fault s t = refusal_of (answer_at (start_stage s) s t [] [])

-- THE ANSWER of storing s in an output of n bytes: then 130 and 112, which are about no byte
unfoldable pub stored_in : ℕ → List ℕ → List ℕ → Result ℕ Refusal
stored_in n s t = cond (eqb (start_fault s t).number 0) (packed_in n s) (Err (start_fault s t))

-- and the output after it: the file at its front, or as it was
unfoldable pub output_after : List ℕ → List ℕ → List ℕ → List ℕ
output_after o s t = cond (eqb (start_fault s t).number 0) (output_in o s) o

-- STORING the stream s, with the sheet t, in the output o
pub record Storing (s t o : List ℕ) (r : Result ℕ Refusal) (o' : List ℕ) : Type 0 where
  pub answer : r ≡ stored_in (length o) s t
  pub output : o' ≡ output_after o s t

-- ---- loading

-- what the file held goes through the ordinary reader: st is the store after it, t the sheet, s and l the tables
abbrev pub loaded_as : Result ℕ Refusal → List ℕ → List ℕ → List ℕ → List ℕ → Result Held Refusal
loaded_as (Err e) st t s l = Err e
loaded_as (Ok n) st t s l = Ok (record { len = n; answer = answer_at (stage_of n st) st t s l })

abbrev pub symbology_as : Result ℕ Refusal → List ℕ → List ℕ → List ℕ → List ℕ → List ℕ
symbology_as (Err e) st t s l = s
symbology_as (Ok n) st t s l = symbology_at (stage_of n st) st t s l

abbrev pub layout_as : Result ℕ Refusal → List ℕ → List ℕ → List ℕ → List ℕ → List ℕ
layout_as (Err e) st t s l = l
layout_as (Ok n) st t s l = layout_at (stage_of n st) st t s l

-- LOADING the file f into the store st
pub record Loading (f st t s l : List ℕ) (r : Result Held Refusal) (st' s' l' : List ℕ) : Type 0 where
  pub store : st' ≡ store_in st (blocks_of f)
  pub answer : r ≡ loaded_as (unpacked_in (length st) (blocks_of f)) (store_in st (blocks_of f)) t s l
  pub symbology : s' ≡ symbology_as (unpacked_in (length st) (blocks_of f)) (store_in st (blocks_of f)) t s l
  pub layout : l' ≡ layout_as (unpacked_in (length st) (blocks_of f)) (store_in st (blocks_of f)) t s l

-- its number: 134 where the reader still needs bytes, 0 for an accepted start
abbrev pub number_of : Result Answer ReadError → ℕ
number_of (Ok (Answer.Needs n)) = 134
number_of (Err (ReadError.Refused e)) = e.number
number_of (Ok (Answer.Done f)) = 0
number_of (Err (ReadError.Short s l)) = 3

abbrev pub load_number : Result Held Refusal → ℕ
load_number (Err e) = e.number
load_number (Ok h) = number_of h.answer
