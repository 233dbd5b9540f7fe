-- Demand 2, over the public promises: however a stream is cut, the outcome is one; and what the writer accepts reads back.
-- Assumes nothing.
use Rattle.std.specs.Prelude.{ℕ, ◌*◌, ◌/◌, ◌≤◌, ◌<◌, ◌≡◌, refl, true, List, ◌++◌, map, length, take, drop, leb, Ok}
use Rattle.std.proofs.Common.{sym, ap, ap₂, ◌∙◌, subst, take_at, le-leb}
use Rattle.std.proofs.lemmas.List.{length-map}
use Rattle.codec.specs.Codec.{ok, Bytes}
use Rattle.wire.specs.Reader.{all_tests}
use Rattle.table.specs.Table.{flat}
use Rattle.layout.specs.Layout.{Layout}
use Rattle.layout.specs.LayoutOf.{D}
use Rattle.layout.specs.LayoutLaws.{layout-octets}
use Rattle.layout.specs.Answers.{accepted as accepted', Answer, judge, leave}
use Rattle.layout.specs.AnswerLaws.{judge-ok, leave-ok}
use Rattle.layout.specs.Rows.{rows}
use Rattle.layout.specs.RowLaws.{no_start}
use Rattle.layout.specs.TextLaws.{row_text}
use Rattle.rules.specs.Rules.{ruled_of}
use Rattle.names.specs.Names.{item_text, layout_span, part_in}
use Rattle.given_layout.specs.Ruled.{Ruled}
use Rattle.rows_check.specs.Tree.{rows_in, tree_of}
use Rattle.rows_check.specs.CheckLaws.{Formed}
use Rattle.rows_check.specs.LegalLaws.{sound, tree-legal}
use Rattle.rows_check.specs.SectionLaws.{printed-is}
use Rattle.rows_check.specs.Check.{printed}
use Rattle.writer.specs.Write.{out_after, Writes}
use Rattle.writer.proofs.RoundTripLaws.{Accepts, accepted, reads-back, out_written}
use Rattle.feed.specs.Feeding.{Feeding}
use Rattle.feed.proofs.PieceLaws.{Lent, Handed, any_cutting, any_cutting_handed}
use Rattle.feed.specs.Single.{Same}
use Rattle.feed.specs.declared.Fed.{Fed}
use Rattle.demands.specs.PublicNames.{LayoutNamed, names_same, ruled-named, formed-named}

-- FEEDS of a stream in pieces, each as `feed` promises, end as one feed of the whole: the same bytes taken, store, answer and tables
pub cut : {k : ℕ} {st p t s l : List ℕ} {x y : Fed} {st1 s1 l1 st2 s2 l2 : List ℕ}
    → Lent k st p t s l x st1 s1 l1 → Feeding k st p t s l y st2 s2 l2 → Same x y st1 s1 l1 st2 s2 l2
cut = any_cutting

-- the same where each feed is lent the tables as the last one left them
pub cut_handed : {k : ℕ} {st p t s l : List ℕ} {x y : Fed} {st1 s1 l1 st2 s2 l2 : List ℕ}
    → Handed k st p t s l x st1 s1 l1 → Feeding k st p t s l y st2 s2 l2 → Same x y st1 s1 l1 st2 s2 l2
cut_handed = any_cutting_handed

-- what stands in the output: a layout that is accepted with the writer's width and sheet, of the same version, rows and names
pub record Back (sheet : List ℕ) (width version : ℕ) (table text written : List ℕ) : Type 0 where
  pub layout : Layout
  pub accepted : ruled_of sheet width written ≡ ok layout (length written)
  pub version-same : layout.version ≡ version
  pub rows_same : map no_start (rows layout) ≡ map no_start (rows_in table)
  pub names_same : map (row_text written) (rows layout) ≡ map (row_text text) (rows_in table)

-- the first n bytes of the output, where `write_layout` promises n written bytes: the bytes of the layout that the rows stand for
module _ (sheet : List ℕ) (width version : ℕ) (table text out out' : List ℕ) (n : ℕ) (w : Writes sheet width version table text out out' (Ok n)) where
  accepts : Accepts sheet width version table text (length out) n
  accepts = accepted sheet width version table text (length out) n (sym w.is)

  pub written_is : take n out' ≡ printed version table text
  written_is =
      let p = printed version table text in
      let o : out' ≡ p ++ drop (length p) out = w.leaves ∙ ap (λ r. out_after r p out) (sym w.is) ∙ out_written n p out in
      ap (take n) o ∙ take_at p _ n (sym accepts.count)

  formed : Formed table text
  formed = (sound table text accepts.whole).formed

  written_bytes : Bytes text → version < 65536 → Bytes (take n out')
  written_bytes bytes v =
      let s = sound table text accepts.whole in
      subst Bytes (sym (written_is ∙ printed-is version table text)) (layout-octets all_tests D (tree_of version table text) (tree-legal table text bytes s version v))

-- THE ROUND TRIP: where `write_layout` promises n written bytes, the first n bytes of the output read back
pub round_trip : (sheet : List ℕ) (width version : ℕ) (table text out out' : List ℕ) (n : ℕ) → Bytes text → version < 65536
    → Writes sheet width version table text out out' (Ok n) → Back sheet width version table text (take n out')
round_trip sheet width version table text out out' n bytes v w =
    let b = reads-back sheet width version table text (length out) n bytes v (sym w.is) in
    subst (λ z. Back sheet width version table text z) (sym (written_is sheet width version table text out out' n w))
    (record { layout = b.layout; accepted = b.accepted; version-same = b.same; rows_same = b.same_rows; names_same = b.same_names })

-- what reading the written bytes into the table t answers, r, and leaves, t'
pub record ReadBack (version : ℕ) (table text written t t' : List ℕ) (r : Answer) : Type 0 where
  -- the version and the number of the rows that were written
  pub answer : r ≡ Ok (accepted' version (length (rows_in table)))
  -- rows that are the written ones but for their starts stand at the front of the table, and the rest of it is as it was
  pub rows : List (List ℕ)
  pub rows_same : map no_start rows ≡ map no_start (rows_in table)
  pub leaves : t' ≡ flat rows ++ drop (9 * length rows) t
  -- asked for by index, a row with a text gives its start and length and never 90: of the rows read, and of the rows written
  pub named : LayoutNamed written t' rows
  pub named_written : LayoutNamed text table (rows_in table)
  -- each name the same bytes
  pub names : (i : ℕ) → i < length (rows_in table) → part_in written (layout_span (length written) t' i) ≡ part_in text (layout_span (length text) table i)

-- THE ROUND TRIP over the promise of `read_layout`: the first n bytes of the output, read with the writer's width and sheet into a table
-- that is long enough
pub round_trip_read : (sheet : List ℕ) (width version : ℕ) (table text out out' : List ℕ) (n : ℕ) → Bytes text → version < 65536
    → Writes sheet width version table text out out' (Ok n) → (t t' : List ℕ) (r : Answer) → length (rows_in table) ≤ length t / 9
    → Ruled (take n out') width sheet t t' r → ReadBack version table text (take n out') t t' r
round_trip_read sheet width version table text out out' n bytes v w t t' r room c =
    let b = round_trip sheet width version table text out out' n bytes v w in
    let x = b.layout in
    let s = take n out' in
    let l : length (rows x) ≡ length (rows_in table) = sym (length-map (rows x) no_start) ∙ ap length b.rows_same ∙ length-map (rows_in table) no_start in
    let h : leb (length (rows x)) (length t / 9) ≡ true = le-leb (length (rows x)) (length t / 9) (subst (λ (k : ℕ). k ≤ length t / 9) (sym l) room) in
    let a : t' ≡ flat (rows x) ++ drop (9 * length (rows x)) t = c.leaves ∙ ap (leave t) b.accepted ∙ leave-ok t x (length s) ∙ rw h refl in
    let N = subst (λ (u : List ℕ). LayoutNamed s u (rows x)) (sym a)
    (ruled-named sheet width s x (length s) (drop (9 * length (rows x)) t) (written_bytes sheet width version table text out out' n w bytes v) b.accepted) in
    let M = formed-named table text (formed sheet width version table text out out' n w) in
    record {
      answer = c.is ∙ ap (judge (length t / 9)) b.accepted ∙ judge-ok (length t / 9) x (length s) ∙ rw h (ap₂ (λ (v n : ℕ). Ok (accepted' v n)) b.version-same l);
      rows = rows x;
      rows_same = b.rows_same;
      leaves = a;
      named = N;
      named_written = M;
      names = names_same item_text text s (layout_span (length text) table) (layout_span (length s) t') (rows_in table) (rows x) M N l b.names_same;
    }
