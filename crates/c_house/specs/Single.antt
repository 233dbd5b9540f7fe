-- ONE ANSWER: two outcomes that meet a promise of a C function are equal.
-- Assumes nothing.
use Rattle.std.specs.Prelude.{ℕ, ◌≡◌, List}
use Rattle.c_texts.specs.Single.{one}
use Rattle.c_house.specs.Numbers.{StoreC, LoadC}

-- of dbn_house_store: number, output, `out`
pub one_store : (s t p o : List ℕ) (r q : ℕ) (p1 o1 p2 o2 : List ℕ)
    → StoreC s t p o r p1 o1 → StoreC s t p o q p2 o2 → (r ≡ q) × ((p1 ≡ p2) × (o1 ≡ o2))
one_store s t p o r q p1 o1 p2 o2 f g = (one f.number g.number, (one f.output g.output, one f.out g.out))

-- of dbn_house_load: number, store, both tables, `out`
pub one_load : (f st t s l o : List ℕ) (r q : ℕ) (st1 s1 l1 o1 st2 s2 l2 o2 : List ℕ)
    → LoadC f st t s l o r st1 s1 l1 o1 → LoadC f st t s l o q st2 s2 l2 o2 → (r ≡ q) × ((st1 ≡ st2) × ((s1 ≡ s2) × ((l1 ≡ l2) × (o1 ≡ o2))))
one_load f st t s l o r q st1 s1 l1 o1 st2 s2 l2 o2 g h =
    (one g.number h.number, (one g.store h.store, (one g.symbology h.symbology, (one g.layout h.layout, one g.out h.out))))
