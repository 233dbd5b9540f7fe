-- A format with all that is known of it: how it is read and written, the laws of that, what edits do to it, which numbers it gives and that their places
-- are within. Each way to build a format builds all of it at once, from its parts.
-- Assumes nothing.
use Prim.Native.Nat.{ℕ, ◌+◌, ◌≤◌, zero-le}
use Rattle.std.proofs.Common.{le_refl, arith, sym, ap, ◌∙◌}
use Rattle.std.specs.Prelude.{◌≡◌, refl, Bool, true, false, List, length}
use Rattle.codec.specs.Codec
use Rattle.codec.specs.Codec.{Codec}
use Rattle.codec.proofs.Laws.{Law, law-raw, law-skip, law-padded, law-num, law-fixed, law-then, law-on, law-named, law-checked, law-judged, law-asks, law-placed, law-sized, law-times, law-distinct, law-limited, law-boxed, law-full, law-remainder, length-bare}
use Rattle.codec.specs.Refusals.{Only, Fault, Inside}
use Rattle.codec.proofs.RefusalLaws.{only-raw, only-skip, only-padded, only-num, only-fixed, only_then, only-on, only-named, only-checked, only-judged, only-asks, only-placed, only-times, only-distinct, only-limited, only-boxed, only-remainder, only-sized, only-full}
use Rattle.codec.proofs.PlaceLaws.{inside-raw, inside-skip, inside-padded, inside-num, inside-fixed, inside-then, inside_on, inside-named, inside-checked, inside-judged, inside-asks, inside-placed, inside-times, inside-distinct, inside-limited, inside-boxed, inside-remainder, inside-sized, inside-full}
use Rattle.codec.specs.Edits.{Edits}
use Rattle.codec.proofs.EditLaws.{edits-kept, edits-still, edits-skip, edits-padded, edits-then, edits-on, edits-named, edits-checked, edits-judged, edits-asks, edits-placed, edits-sized, edits-times, edits-distinct, edits-limited, edits-apart, edits-boxed}

-- e says whether a place may stand at the very end of a value, as that of an empty text does. Such a value is not the last in a section
abbrev pub tail : Bool → ℕ
tail true = 1
tail false = 0

pub tail-one : (e : Bool) → tail e ≤ 1
tail-one true = omega arith
tail-one false = omega arith

pub record Format (A : Type 0) (e : Bool) : Type 1 where
  pub codec : Codec A
  pub law : Law codec
  pub edits : Edits codec (tail e)
  -- P holds of each number that it names for a refusal; and so of every refusal
  pub numbers : (ℕ → Type 0) → Type 0
  pub refuses : (P : ℕ → Type 0) → numbers P → Only P codec
  -- it ends within what it is given, and so does the place of a refusal
  pub inside : Inside codec

-- ---- bytes and numbers

-- n bytes; k where they run past the end
unfoldable pub raw-edits : (k n j : ℕ) → Edits (Codec.raw k n) j
unfolding Codec.raw
raw-edits k n j = edits-still _ j (λ x. refl) (λ p x. refl)

abbrev pub raw : {e : Bool} → ℕ → ℕ → Format (List ℕ) e
raw {e} k n = record { codec = Codec.raw k n; law = law-raw k n; edits = raw-edits k n (tail e); numbers = λ P. P k; refuses = λ P p. only-raw P k n p; inside = inside-raw k n }

-- a number of w bytes; k where they run past the end
unfoldable pub num-edits : (k w j : ℕ) → Edits (Codec.num k w) j
unfolding Codec.num
num-edits k w j = edits-still _ j (λ x. refl) (λ p x. refl)

abbrev pub num : {e : Bool} → ℕ → ℕ → Format ℕ e
num {e} k w = record { codec = Codec.num k w; law = law-num k w; edits = num-edits k w (tail e); numbers = λ P. P k; refuses = λ P p. only-num P k w p; inside = inside-num k w }

-- n bytes that nobody looks at
abbrev pub skip : {e : Bool} → ℕ → ℕ → Format (List ℕ) e
skip {e} k n = record { codec = Codec.skip k n; law = law-skip k n; edits = edits-skip k n (tail e); numbers = λ P. P k; refuses = λ P p. only-skip P k n p; inside = inside-skip k n }

-- n bytes and m bytes that nobody looks at, as one
abbrev pub padded : {e : Bool} → ℕ → ℕ → ℕ → Format (List ℕ × List ℕ) e
padded {e} k n m = record { codec = Codec.padded k n m; law = law-padded k n m; edits = edits-padded k n m (tail e); numbers = λ P. P k; refuses = λ P p. only-padded P k n m p; inside = inside-padded k n m }

-- ---- one after the other

infixr 25 ◌then◌
abbrev pub ◌then◌ : {A B : Type 0} {e : Bool} → Format A e → Format B e → Format (A × B) e
◌then◌ {e = e} F G = record {
  codec = Codec.◌then◌ F.codec G.codec;
  law = law-then _ _ F.law G.law;
  edits = edits-then _ _ F.edits G.edits (tail-one e) (λ y lg. omega arith);
  numbers = λ P. F.numbers P × G.numbers P;
  refuses = λ P p. only_then P _ (F.refuses P p.0) _ (G.refuses P p.1);
  inside = inside-then _ F.inside _ G.inside;
}

-- the number b of w bytes; k where they run past the end, k' where another stands there
unfoldable pub fixed-edits : (k k' w b j : ℕ) → Edits (Codec.fixed k k' w b) j
unfolding Codec.fixed
fixed-edits k k' w b j = edits-still _ j (λ x. refl) (λ p x. refl)

abbrev pub fixed : {e : Bool} → ℕ → ℕ → ℕ → ℕ → Format (Unit {0}) e
fixed {e} k k' w b = record { codec = Codec.fixed k k' w b; law = law-fixed k k' w b; edits = fixed-edits k k' w b (tail e); numbers = λ P. P k × P k'; refuses = λ P p. only-fixed P k k' w b p.0 p.1; inside = inside-fixed k k' w b }

-- the byte b after it, so that no place stands at the very end; k where it is missing, k' where another stands there
pub byte_one : (k k' b : ℕ) (x : Unit {0}) → (Codec.fixed k k' 1 b).legal x → 1 ≤ length ((Codec.fixed k k' 1 b).print x) + 0
unfolding Codec.fixed
byte_one k k' b x lg = omega arith

abbrev pub closed : {A : Type 0} → ℕ → ℕ → ℕ → Format A true → Format (A × Unit {0}) false
closed k k' b F = record {
  codec = Codec.◌then◌ F.codec (Codec.fixed k k' 1 b);
  law = law-then _ _ F.law (law-fixed k k' 1 b);
  edits = edits-then _ _ F.edits (fixed-edits k k' 1 b 0) (tail-one true) (byte_one k k' b);
  numbers = λ P. F.numbers P × (P k × P k');
  refuses = λ P p. only_then P _ (F.refuses P p.0) _ (only-fixed P k k' 1 b p.1.0 p.1.1);
  inside = inside-then _ F.inside _ (inside-fixed k k' 1 b);
}

-- what follows may depend on what was read, places and skipped bytes apart
abbrev pub on : {A B : Type 0} {e : Bool} (F : Format A e) (G : A → Format B e) → ((x : A) → G (F.codec.bare x) ≡ G x) → Format (A × B) e
on {A} {B} {e} F G blind = record {
  codec = Codec.◌on◌ F.codec λ x. (G x).codec;
  law = law-on _ _ F.law (λ x. (G x).law) (λ x. ap (λ (H : Format B e). H.codec) (blind x));
  edits = edits-on _ _ F.edits (λ x. (G x).edits) (λ x y q. ap (λ (H : Format B e). (H.codec, H.edits)) (sym (blind x) ∙ ap G q ∙ blind y)) (tail e);
  numbers = λ P. F.numbers P × ((x : A) → (G x).numbers P);
  refuses = λ P p. only-on P _ (F.refuses P p.0) _ (λ x. (G x).refuses P (p.1 x));
  inside = inside_on _ F.inside _ (λ x. (G x).inside);
}

-- ---- under another name, with a test, with a place

-- a value with the place where it starts
abbrev pub placed : {A : Type 0} → Format A false → Format (ℕ × A) true
placed F = record { codec = Codec.placed F.codec; law = law-placed _ F.law; edits = edits-placed _ F.edits zero-le; numbers = F.numbers; refuses = λ P p. only-placed P _ (F.refuses P p); inside = inside-placed _ F.inside }

module _ {A : Type 0} {e : Bool} where
  -- the same bytes under another name
  abbrev pub named : {B : Type 0} (to : A → B) (from : B → A) → ((x : A) → from (to x) ≡ x) → Format A e → Format B e
  named to from same F = record { codec = Codec.named to from F.codec; law = law-named _ F.law to from same; edits = edits-named _ F.edits to from same; numbers = F.numbers; refuses = λ P p. only-named P _ (F.refuses P p) to from; inside = inside-named _ F.inside to from }

  -- k is refused where what was read fails the test, which sees no place and no skipped byte
  abbrev pub checked : (test : A → Bool) → ℕ → (F : Format A e) → ((x : A) → test (F.codec.bare x) ≡ test x) → Format A e
  checked test k F blind = record { codec = Codec.checked test k F.codec; law = law-checked _ F.law test k blind; edits = edits-checked _ F.edits test k blind; numbers = λ P. F.numbers P × P k; refuses = λ P p. only-checked P _ (F.refuses P p.0) test k p.1; inside = inside-checked _ F.inside test k }

  -- refused by the number that the rules give; 0 is none
  abbrev pub judged : (rules : A → ℕ) (F : Format A e) → ((x : A) → rules (F.codec.bare x) ≡ rules x) → Format A e
  judged rules F blind = record { codec = Codec.judged rules F.codec; law = law-judged _ F.law rules blind; edits = edits-judged _ F.edits rules blind; numbers = λ P. F.numbers P × ((x : A) → Fault P (rules x)); refuses = λ P p. only-judged P _ (F.refuses P p.0) rules p.1; inside = inside-judged _ F.inside rules }

  -- k where fewer than n bytes are left; no value has fewer
  abbrev pub asks : ℕ → (n : ℕ) (F : Format A e) → ((x : A) → F.codec.legal x → n ≤ length (F.codec.print x)) → Format A e
  asks k n F much = record { codec = Codec.asks k n F.codec; law = law-asks _ F.law k n much; edits = edits-asks _ F.edits k n; numbers = λ P. F.numbers P × P k; refuses = λ P p. only-asks P _ (F.refuses P p.0) k n p.1; inside = inside-asks _ F.inside k n }

  -- a number n of w bytes (k where it is missing), then what n says; `size` gives n back
  abbrev pub sized : ℕ → (w : ℕ) (size : A → ℕ) (F : ℕ → Format A e) → ((n : ℕ) (x : A) → (F n).codec.legal x → size x ≡ n) → ((n : ℕ) (x : A) → size ((F n).codec.bare x) ≡ size x) → Format A e
  sized k w size F fits blind = record {
    codec = Codec.sized k w size (λ n. (F n).codec);
    law = law-sized k w size _ (λ n. (F n).law) fits blind;
    edits = edits-sized k w size _ (λ n. (F n).edits) blind (λ n. (F n).law);
    numbers = λ P. P k × ((n : ℕ) → (F n).numbers P);
    refuses = λ P p. only-sized P k w size _ p.0 (λ n. (F n).refuses P (p.1 n));
    inside = inside-sized k w size _ (λ n. (F n).inside);
  }

-- n bytes that pass a test, or k'; k where they run past the end
pub raw_blind : (test : List ℕ → Bool) (k n : ℕ) (x : List ℕ) → test ((Codec.raw k n).bare x) ≡ test x
unfolding Codec.raw
raw_blind test k n x = refl

abbrev pub raw_test : {e : Bool} → (List ℕ → Bool) → ℕ → ℕ → ℕ → Format (List ℕ) e
raw_test test k' k n = checked test k' (raw k n) (raw_blind test k n)

-- n bytes that pass a test, or k', and then another, or k''; k where they run past the end
pub test_blind : (test test' : List ℕ → Bool) (k' k n : ℕ) (x : List ℕ) → test' ((Codec.checked test k' (Codec.raw k n)).bare x) ≡ test' x
unfolding Codec.checked Codec.raw
test_blind test test' k' k n x = refl

abbrev pub raw_tests : {e : Bool} → (List ℕ → Bool) → ℕ → (List ℕ → Bool) → ℕ → ℕ → ℕ → Format (List ℕ) e
raw_tests test k' test' k'' k n = checked test' k'' (raw_test test k' k n) (test_blind test test' k' k n)

-- a number of w bytes that passes a test, or k'; k where they run past the end
pub num_blind : (test : ℕ → Bool) (k w x : ℕ) → test ((Codec.num k w).bare x) ≡ test x
unfolding Codec.num
num_blind test k w x = refl

abbrev pub num_test : {e : Bool} → (ℕ → Bool) → ℕ → ℕ → ℕ → Format ℕ e
num_test test k' k w = checked test k' (num k w) (num_blind test k w)

-- ---- n items

module _ {A : Type 0} {e : Bool} (F : Format A e) where
  abbrev pub times : ℕ → Format (List A) e
  times n = record { codec = Codec.times F.codec n; law = law-times _ F.law n; edits = edits-times _ F.law F.edits (tail-one e) n; numbers = F.numbers; refuses = λ P p. only-times P _ (F.refuses P p) n; inside = inside-times _ F.inside n }

  pub times-fits : (n : ℕ) (xs : List A) → (times n).codec.legal xs → length xs ≡ n
  unfolding Codec.times
  times-fits n xs lg = lg.0

  pub times_blind : (n : ℕ) (xs : List A) → length ((times n).codec.bare xs) ≡ length xs
  unfolding Codec.times
  times_blind n xs = length-bare _ F.law xs

  -- u16 count (k where it is missing), then that many
  abbrev pub counted : ℕ → Format (List A) e
  counted k = sized k 2 length times times-fits times_blind

  -- the same with keys that differ: k' where one comes again
  module _ (key : A → ℕ) (k k' : ℕ) (blind : (x : A) → key (F.codec.bare x) ≡ key x) where
    abbrev pub distinct : ℕ → Format (List A) e
    distinct n = record {
      codec = Codec.distinct F.codec key k' n;
      law = law-distinct _ F.law key k' blind n;
      edits = edits-distinct _ F.law F.edits (tail-one e) key k' blind n;
      numbers = λ P. F.numbers P × P k';
      refuses = λ P p. only-distinct P _ (F.refuses P p.0) key k' p.1 n;
      inside = inside-distinct _ F.inside key k' n;
    }

    pub distinct-fits : (n : ℕ) (xs : List A) → (distinct n).codec.legal xs → length xs ≡ n
    unfolding Codec.distinct
    distinct-fits n xs lg = lg.0

    pub distinct_blind : (n : ℕ) (xs : List A) → length ((distinct n).codec.bare xs) ≡ length xs
    unfolding Codec.distinct
    distinct_blind n xs = length-bare _ F.law xs

    abbrev pub keyed : Format (List A) e
    keyed = sized k 2 length distinct distinct-fits distinct_blind

  -- a count of w bytes (k where it is missing, k' where it is over the bytes left / least), then that many of at least `least` bytes
  abbrev pub limited : (k k' w least : ℕ) → ((x : A) → F.codec.legal x → least ≤ length (F.codec.print x)) → Format (List A) e
  limited k k' w least big = record {
    codec = Codec.limited F.codec k k' w least;
    law = law-limited _ F.law least big k k' w;
    edits = edits-limited _ F.law F.edits (tail-one e) k k' w least big (law-times _ F.law);
    numbers = λ P. F.numbers P × (P k × P k');
    refuses = λ P p. only-limited P _ (F.refuses P p.0) k k' w least p.1.0 p.1.1;
    inside = inside-limited _ F.inside k k' w least;
  }

-- u16 count (k where it is missing), that many of one format, then that many of another
module _ {A B : Type 0} {e : Bool} (F : Format A e) (G : Format B e) where
  abbrev pub both : ℕ → Format (List A × List B) e
  both n = times F n then times G n

  pub both-fits : (n : ℕ) (z : List A × List B) → (both n).codec.legal z → length z.0 ≡ n
  unfolding Codec.◌then◌ Codec.times
  both-fits n z lg = lg.0.0

  pub both_blind : (n : ℕ) (z : List A × List B) → length ((both n).codec.bare z).0 ≡ length z.0
  unfolding Codec.◌then◌ Codec.times
  both_blind n z = length-bare _ F.law z.0

  abbrev pub counted_both : ℕ → Format (List A × List B) e
  counted_both k = sized k 2 (λ z. length z.0) both both-fits both_blind

-- ---- a part with a length of its own

-- a length of w bytes that counts `own` bytes more than the body has, then the body as a list of its own: k where the length is missing,
-- k' where it is below `own`, k'' where the body runs past the end. Starts in the body are places here
abbrev pub boxed : {A : Type 0} {e : Bool} → ℕ → ℕ → ℕ → ℕ → ℕ → Format A false → Format (A × List ℕ) e
boxed {e = e} k k' k'' w own F = record {
  codec = Codec.boxed k k' k'' w own own (λ p. p) F.codec.each F.codec;
  law = law-boxed _ F.law k k' k'' w own own (le_refl own) (λ x lg. omega arith) (λ p. p) _ F.law.spotted;
  edits = edits-boxed k k' k'' w own own _ _ F.edits (tail e);
  numbers = λ P. F.numbers P × (P k × (P k' × P k''));
  refuses = λ P p. only-boxed P _ (F.refuses P p.0) k k' k'' w own own (λ p. p) _ p.1.0 p.1.1.0 p.1.1.1;
  inside = inside-boxed _ F.inside k k' k'' w own own (λ p. p) _;
}

-- the same, with a length of the body alone that k' refuses below `least`, which every value has, and with starts that count from the body's own first byte
-- and are no places here
abbrev pub apart : {A : Type 0} {e : Bool} → ℕ → ℕ → ℕ → ℕ → (least : ℕ) (F : Format A false) → ((x : A) → F.codec.legal x → least ≤ length (F.codec.print x)) → Format (A × List ℕ) e
apart {e = e} k k' k'' w least F much = record {
  codec = Codec.boxed k k' k'' w 0 least (λ p. 0) (λ P x. Unit {0}) F.codec;
  law = law-boxed _ F.law k k' k'' w 0 least zero-le (λ x lg. omega (arith, much x lg)) (λ p. 0) _ (λ P p x h. tt);
  edits = edits-apart k k' k'' w 0 least (λ p. 0) _ _ F.edits (tail e);
  numbers = λ P. F.numbers P × (P k × (P k' × P k''));
  refuses = λ P p. only-boxed P _ (F.refuses P p.0) k k' k'' w 0 least (λ p. 0) _ p.1.0 p.1.1.0 p.1.1.1;
  inside = inside-boxed _ F.inside k k' k'' w 0 least (λ p. 0) _;
}

-- a length of the body alone and starts that are places here, with contents that span it: k where something is left over, j where the length is
-- missing, m where the body runs past the end; no edit changes it
module _ {A : Type 0} {d : Bool} (k j m w : ℕ) (F : Format A d) where
  pub law-spanned : Law (Codec.full k (Codec.boxed j j m w 0 0 (λ p. p) F.codec.each F.codec))
  unfolding Codec.boxed
  law-spanned = law-full k _ (law-boxed _ F.law j j m w 0 0 zero-le (λ x lg. zero-le) (λ p. p) _ F.law.spotted) (λ p z. refl) (λ z. refl)

  abbrev pub spanned : {e : Bool} → Format A e
  spanned {e} = record {
    codec = Codec.full k (Codec.boxed j j m w 0 0 (λ p. p) F.codec.each F.codec);
    law = law-spanned;
    edits = edits-kept _ (tail e);
    numbers = λ P. F.numbers P × (P k × (P j × P m));
    refuses = λ P p. only-full P k _ p.1.0 (only-boxed P _ (F.refuses P p.0) j j m w 0 0 (λ p. p) _ p.1.1.0 p.1.1.0 p.1.1.1);
    inside = inside-full k _ (inside-boxed _ F.inside j j m w 0 0 (λ p. p) _);
  }

-- what stands from here on, as a list of its own; no edit changes it
abbrev pub remainder : {A : Type 0} {d e : Bool} → Format A d → Format A e
remainder {e = e} F = record { codec = Codec.remainder F.codec; law = law-remainder _ F.law; edits = edits-kept _ (tail e); numbers = F.numbers; refuses = λ P p. only-remainder P _ (F.refuses P p); inside = inside-remainder _ F.inside }
