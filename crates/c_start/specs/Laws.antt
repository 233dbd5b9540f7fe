-- What a feed promises gives what dbn_feed promises.
-- Assumes nothing.
use Rattle.std.specs.Prelude.{ℕ, ◌≡◌, List}
use Rattle.std.proofs.Common.{ap, ap₂, ◌∙◌}
use Rattle.feed.specs.Feeding.{taken_of, held_after, answer_number, Feeding}
use Rattle.feed.specs.declared.Fed.{Fed}
use Rattle.c_start.specs.Numbers.{fed_out, FeedC}

pub fed_c : (k : ℕ) (st p t s l o : List ℕ) (x : Fed) (r : ℕ) (st1 s1 l1 o1 : List ℕ)
    → Feeding k st p t s l x st1 s1 l1 → r ≡ answer_number x.answer → o1 ≡ fed_out x.taken x.state.held x.answer o
    → FeedC k st p t s l o r st1 s1 l1 o1
fed_c k st p t s l o x r st1 s1 l1 o1 f n e =
    record {
      number = n ∙ ap answer_number f.verdict.answer;
      out = e ∙ ap₂ (λ a b. fed_out a b x.answer o) f.taken f.held ∙ ap (λ a. fed_out (taken_of k st p) (held_after k st p) a o) f.verdict.answer;
      store = f.store;
      symbology = f.verdict.symbology;
      layout = f.verdict.layout;
    }
