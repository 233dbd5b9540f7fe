-- What a C function gives for a feed's answer: the values in `out`.
-- Assumes nothing.
use Rattle.block_format.specs.declared.ReadError.{ReadError}
use Rattle.std.specs.Prelude.{ℕ, ◌+◌, ◌*◌, List, [], ◌∷◌, set, Some, None, Result, Ok, Err, Option}
use Rattle.std.proofs.lemmas.List.Edits.{sets}
use Rattle.block_format.specs.declared.Fields.{Fields}
use Rattle.feed.specs.declared.Answer.{Answer}
use Rattle.feed.specs.declared.Answer.TheVariants.{Needs, Done}
use Rattle.c_texts.specs.Numbers.{bit, place_out}

-- 0 for what is absent
abbrev pub value_of : Option ℕ → ℕ
value_of None = 0
value_of (Some x) = x

-- 1 for what is present
abbrev pub is_present : Option ℕ → ℕ
is_present None = 0
is_present (Some x) = 1

-- presence bits: 1 schema, 2 end, 4 limit, 8 stype_in
abbrev pub presence : Option ℕ → Option ℕ → Option ℕ → Option ℕ → ℕ
presence schema end limit stype = is_present schema + 2 * is_present end + 4 * is_present limit + 8 * is_present stype

-- the sixteen values of an accepted block
unfoldable pub fields_out : Fields → List ℕ
fields_out f =
    f.dataset_len ∷ value_of f.schema ∷ f.start ∷ value_of f.end ∷ value_of f.limit ∷ value_of f.stype_in ∷ f.stype_out ∷ bit f.ts_out
    ∷ f.symbol_cstr_len ∷ f.layout_version ∷ f.symbology_rows ∷ f.layout_rows ∷ presence f.schema f.end f.limit f.stype_in ∷ 0 ∷ 0 ∷ 0 ∷ []

-- needed count at 18; the fields over the first sixteen; with 3 the rows needed, at 10 and 11; a refusal's place where it has one
abbrev pub answer_out : Result Answer ReadError → List ℕ → List ℕ
answer_out (Ok (Needs n)) o = set o 18 n
answer_out (Ok (Done f)) o = sets o 0 (fields_out f)
answer_out (Err (ReadError.Refused e)) o = place_out e o
answer_out (Err (ReadError.Short s l)) o = set (set o 10 s) 11 l
