-- ONE ANSWER: two outcomes that meet a promise of a C function are equal.
-- Assumes nothing.
use Rattle.std.specs.Prelude.{ℕ, ◌≡◌, List}
use Rattle.c_texts.specs.Single.{one}
use Rattle.c_start.specs.Numbers.{BlockC, FeedC}

-- of dbn_block: number, `out`, both tables
pub one_block : (v : ℕ) (b t s l o : List ℕ) (r q : ℕ) (s1 l1 o1 s2 l2 o2 : List ℕ)
    → BlockC v b t s l o r s1 l1 o1 → BlockC v b t s l o q s2 l2 o2 → (r ≡ q) × ((s1 ≡ s2) × ((l1 ≡ l2) × (o1 ≡ o2)))
one_block v b t s l o r q s1 l1 o1 s2 l2 o2 f g =
    (one f.number g.number, (one f.symbology g.symbology, (one f.layout g.layout, one f.out g.out)))

-- of dbn_feed: number, `out`, store, both tables
pub one_feed : (k : ℕ) (st p t s l o : List ℕ) (r q : ℕ) (st1 s1 l1 o1 st2 s2 l2 o2 : List ℕ)
    → FeedC k st p t s l o r st1 s1 l1 o1 → FeedC k st p t s l o q st2 s2 l2 o2 → (r ≡ q) × ((st1 ≡ st2) × ((s1 ≡ s2) × ((l1 ≡ l2) × (o1 ≡ o2))))
one_feed k st p t s l o r q st1 s1 l1 o1 st2 s2 l2 o2 f g =
    (one f.number g.number, (one f.store g.store, (one f.symbology g.symbology, (one f.layout g.layout, one f.out g.out))))
