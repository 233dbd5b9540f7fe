-- One stream, cut anywhere: its start is fed until it is done, and what comes after goes to frames. The block is read once, as one feed of
-- the whole stream reads it, and the frames are those of the stream after the block. Assumes nothing.
use Rattle.std.specs.Prelude.{ℕ, ◌+◌, ◌≤◌, ◌≡◌, List, ◌++◌, length, take, drop, Ok}
use Rattle.std.proofs.Common.{arith, sym, ap, ◌∙◌}
use Rattle.std.proofs.lemmas.List.{drop-append-le, take-append-le}
use Rattle.block_format.specs.declared.Fields.{Fields}
use Rattle.prelude.specs.Prelude.{prelude_of}
use Rattle.prelude.specs.declared.Stage.TheVariants as Stage'
use Rattle.feed.specs.Feeding.{Feeding}
use Rattle.feed.proofs.PieceLaws.{Lent, lent_is-one}
use Rattle.feed.proofs.NeverPastLaws.{settled, done-whole}
use Rattle.feed.specs.Single.{Same}
use Rattle.feed.specs.declared.Answer.TheVariants.{Done}
use Rattle.feed.specs.declared.Fed.{Fed}
use Rattle.frames.specs.Frames.{Frames, frames_of}
use Rattle.frames.proofs.CutLaws.{Reading, any_cutting}

-- what both come to, for the stream s: the prelude announces a block of len bytes; the feeds, x, took it and no more, and gave what one
-- feed of the whole stream, y, gives; the frames are those of the bytes after the block, for a store of `room`
pub record Joined (s : List ℕ) (x y : Fed) (st1 s1 l1 st2 s2 l2 : List ℕ) (room : ℕ) (r : Frames) : Type 0 where
  pub version : ℕ
  pub len : ℕ
  pub announced : prelude_of (take 8 s) ≡ Ok (Stage'.Whole version len)
  pub taken : x.taken ≡ 8 + len
  pub once : Same x y st1 s1 l1 st2 s2 l2
  pub frames : r ≡ frames_of room (drop (8 + len) s)

-- p came in any pieces until the start was done; q is what had not come yet. What the feeds did not take of p, and q, go to frames in any
-- pieces, with a store of its own
pub start-then-frames : {st p t s l : List ℕ} {x y : Fed} {st1 s1 l1 st2 s2 l2 own : List ℕ} {f : Fields} {r : Frames} {c : ℕ} (q : List ℕ)
    → Lent 0 st p t s l x st1 s1 l1 → x.answer ≡ Ok (Done f)
    → Reading 0 own (drop x.taken p ++ q) r c
    → Feeding 0 st (p ++ q) t s l y st2 s2 l2
    → Joined (p ++ q) x y st1 s1 l1 st2 s2 l2 (length own) r
start-then-frames {st} {p} {t} {s} {l} {x} {y} {st1} {s1} {l1} {st2} {s2} {l2} {own} {f} {r} q g e h whole =
    let one = lent_is-one g in
    let (v, len, said, n, most) = done-whole st p t s l x st1 s1 l1 f one e in
    let n' : x.taken ≡ 8 + len = omega arith in
    let long : 8 ≤ length p = omega arith in
    let rest : drop x.taken p ++ q ≡ drop (8 + len) (p ++ q) = sym (drop-append-le x.taken p q most) ∙ ap (λ m. drop m (p ++ q)) n' in
    record {
      version = v;
      len = len;
      announced = ap prelude_of (take-append-le 8 p q long) ∙ said;
      taken = n';
      once = settled 0 st p q t s l x y st1 s1 l1 st2 s2 l2 one (λ m i. let z : ◌≡◌ {A = ℕ} 0 1 = cc in omega arith) whole;
      frames = any_cutting h ∙ ap (frames_of (length own)) rest;
    }
