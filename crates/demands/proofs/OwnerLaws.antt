-- Whose interval it is: an interval's last number is the index of its mapping's row, and every other row's is its own index. Assumes nothing.
use Rattle.std.specs.Prelude.{ℕ, zero, suc, ◌+◌, ◌-◌, ◌≤◌, ◌<◌, ◌≡◌, refl, false, List, [], ◌∷◌, ◌++◌, map, length, get_or, eqb}
use Rattle.std.proofs.Common.{arith, sym, ap, ◌∙◌, subst, length-append, get_or-append-add}
use Rattle.std.proofs.lemmas.List.{length-map}
use Rattle.codec.specs.CaseLaws.{by_le}
use Rattle.table.specs.Table.{◌and_then◌, each_from}
use Rattle.table.specs.FromLaws.{Among, among_then, among-each, among-all}
use Rattle.symbology_format.specs.Symbology.{Symbol, Interval, Mapping, Symbology}
use Rattle.symbology_format.specs.SymbologyRows.{list_row, list_rows, interval_row, mapping_rows, symbology_rows}
use Rattle.demands.specs.OwnerLaws.{Owns, Whose}

-- the same numbers, wherever they stand
module _ {number number' : ℕ → ℕ → ℕ} {n : ℕ} (same : (i j : ℕ) → i < n → j < 6 → number' i j ≡ number i j) where
  owns_same : (o : ℕ) → Owns number n o → Owns number' n o
  owns_same o w =
      let g = w.within in
      let here : o < n = omega arith in
      let x = same o 3 here (omega arith) in
      record {
        mapping = same o 0 here (omega arith) ∙ w.mapping;
        within = omega arith;
        intervals = λ i h l.
            let there : i < n = omega arith in
            let row = w.intervals i h (omega arith) in
            (same i 0 there (omega arith) ∙ row.0, same i 5 there (omega arith) ∙ row.1);
      }

  pub whose_same : (i : ℕ) → i < n → Whose number n i → Whose number' n i
  whose_same i h r =
      let kind = same i 0 h (omega arith) in
      let o = same i 5 h (omega arith) in
      record {
        mapping = λ e. owns_same i (r.mapping (sym kind ∙ e));
        interval = λ e.
            let w = r.interval (sym kind ∙ e) in
            let first = w.before in
            let x = same (number i 5) 3 (omega arith) (omega arith) in
            record {
              owner = subst (Owns number' n) (sym o) (owns_same (number i 5) w.owner);
              before = omega arith;
              counted = subst (λ (m : ℕ). i ≤ m + number' m 3) (sym o) (omega (arith, w.counted));
            };
        other = λ e. o ∙ r.other (subst (λ (k : ℕ). eqb k 4 ≡ false) kind e);
      }

-- number j of row i of rows
abbrev pub number_at : List (List ℕ) → ℕ → ℕ → ℕ
number_at rs i j = get_or (get_or rs i []) j 0

abbrev WhoseIn : List (List ℕ) → ℕ → Type 0
WhoseIn rs i = Whose (number_at rs) (length rs) i

-- row n + j, after n others
number-after : (pre rs : List (List ℕ)) (j c : ℕ) → number_at (pre ++ rs) (length pre + j) c ≡ number_at rs j c
number-after pre rs j c = ap (λ (r : List ℕ). get_or r c 0) (get_or-append-add pre rs j [])

first-number : (pre rs : List (List ℕ)) (c : ℕ) → number_at (pre ++ rs) (length pre) c ≡ number_at rs 0 c
first-number pre rs c = ap (λ (i : ℕ). number_at (pre ++ rs) i c) (omega arith) ∙ number-after pre rs 0 c

-- a row of a list
list_owned : (kind : ℕ) → kind ≤ 2 → (s : Symbol) → Among WhoseIn (λ n. list_row kind s n ∷ [])
list_owned kind k s pre post i h l =
    let n = length pre in
    let rs = list_row kind s n ∷ post in
    let at : n ≡ i = omega arith in
    subst (WhoseIn (pre ++ rs)) at (record {
      mapping = λ e. absurd (omega (arith, first-number pre rs 0, e));
      interval = λ e. absurd (omega (arith, first-number pre rs 0, e));
      other = λ e. first-number pre rs 5;
    })

-- the intervals of the mapping in row n, from row n + 1 on
module _ (n : ℕ) (post : List (List ℕ)) where
  interval-row : (xs : List Interval) (k : ℕ) → k < length xs → (number_at (map (interval_row n) xs ++ post) k 0 ≡ 4) × (number_at (map (interval_row n) xs ++ post) k 5 ≡ n)
  interval-row [] k h = absurd (omega arith)
  interval-row (x ∷ xs) zero h = (refl, refl)
  interval-row (x ∷ xs) (suc k) h = interval-row xs k (omega arith)

-- a mapping and its intervals
module _ (m : Mapping) (pre post : List (List ℕ)) where
  abbrev n : ℕ
  n = length pre

  abbrev block : List (List ℕ)
  block = mapping_rows m n ++ post

  owns : Owns (number_at (pre ++ block)) (length (pre ++ block)) n
  owns = record {
    mapping = first-number pre block 0;
    within = omega (arith, first-number pre block 3, length-append pre block, length-append (mapping_rows m n) post, length-map m.intervals (interval_row n));
    intervals = λ i h l.
        let at : n + suc (i - n - 1) ≡ i = omega arith in
        let few : i - n - 1 < length m.intervals = omega (arith, first-number pre block 3) in
        let row = interval-row n post m.intervals (i - n - 1) few in
        subst (λ (j : ℕ). (number_at (pre ++ block) j 0 ≡ 4) × (number_at (pre ++ block) j 5 ≡ n)) at
        (number-after pre block (suc (i - n - 1)) 0 ∙ row.0, number-after pre block (suc (i - n - 1)) 5 ∙ row.1);
  }

  mapping_self : WhoseIn (pre ++ block) n
  mapping_self = record {
    mapping = λ e. owns;
    interval = λ e. absurd (omega (arith, first-number pre block 0, e));
    other = λ e. first-number pre block 5;
  }

  interval_owned : (i : ℕ) → n < i → i ≤ n + length m.intervals → WhoseIn (pre ++ block) i
  interval_owned i h l =
      let row = owns.intervals i h (omega (arith, first-number pre block 3)) in
      record {
        mapping = λ e. absurd (omega (arith, row.0, e));
        interval = λ e. record {
          owner = subst (Owns (number_at (pre ++ block)) (length (pre ++ block))) (sym row.1) owns;
          before = omega (arith, row.1);
          counted = subst (λ (o : ℕ). i ≤ o + number_at (pre ++ block) o 3) (sym row.1) (omega (arith, first-number pre block 3));
        };
        other = λ e. absurd (let z : ◌≡◌ {A = ℕ} 0 1 = cc in omega arith);
      }

  mapping_owned : (i : ℕ) → n ≤ i → i < n + length (mapping_rows m n) → WhoseIn (pre ++ block) i
  mapping_owned i h l =
      by_le (suc n) i
      (λ g. interval_owned i g (omega (arith, length-map m.intervals (interval_row n))))
      (λ g. subst (WhoseIn (pre ++ block)) (omega arith) mapping_self)

-- of every row of a symbology
pub rows_owned : (t : Symbology) (i : ℕ) → i < length (symbology_rows t) → Whose (number_at (symbology_rows t)) (length (symbology_rows t)) i
unfolding symbology_rows
rows_owned t =
    let maps = each_from mapping_rows t.mappings in
    let some : Among WhoseIn maps = among-each WhoseIn mapping_rows mapping_owned t.mappings in
    among-all WhoseIn (list_rows 0 t.symbols and_then list_rows 1 t.partial and_then list_rows 2 t.not_found and_then maps)
    (among_then WhoseIn (list_rows 0 t.symbols) (list_rows 1 t.partial and_then list_rows 2 t.not_found and_then maps) (list 0 (omega arith) t.symbols)
    (among_then WhoseIn (list_rows 1 t.partial) (list_rows 2 t.not_found and_then maps) (list 1 (omega arith) t.partial)
    (among_then WhoseIn (list_rows 2 t.not_found) maps (list 2 (omega arith) t.not_found) some)))
  where
    list : (kind : ℕ) → kind ≤ 2 → (xs : List Symbol) → Among WhoseIn (list_rows kind xs)
    list kind k xs = among-each WhoseIn (λ s n. list_row kind s n ∷ []) (list_owned kind k) xs
