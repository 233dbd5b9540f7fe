-- A name, exit by exit, and what the reader of names answers. Assumes nothing.
use Rattle.std.specs.Prelude.{ℕ, ◌+◌, ◌-◌, ◌≤◌, ◌<◌, Bool, true, false, List, [], ◌∷◌, get_or, take, drop, Ok, Err}
use Rattle.std.proofs.Common.{zero-add, ◌∙◌, length-take, length-drop}
use native.Mathlib.Omega.{arith}
use Rattle.std.proofs.Math.Path.{◌≡◌, refl, sym, ap}
use Rattle.std.proofs.Math.ListN.{length}
use Rattle.std.proofs.Math.Seq.{take-length}
use borrow.Author.Tests.{ne_eqb}
use Rattle.refusal.specs.declared.Refusal.{Refusal}
use Rattle.codec.specs.Codec.{Res, ok, refuse, refusal, raw, num, fixed, ◌then◌, named, checked, placed, sized, among}
use Rattle.codec.proofs.StepLaws.{raw_got, raw-bad, byte_got, byte-bad}
use Rattle.codec.specs.CaseLaws.{by_bool, by_le, by_eqb}
use Rattle.text.specs.Utf8.{utf8}
use Rattle.codec.specs.Lenient.{lax}
use Rattle.codec.proofs.LenientLaws.{lax-out}
use Rattle.plain_text.specs.Plain.{plain}
use Rattle.plain_text.specs.PlainLaws.{plain-utf8, plain-next}
use Rattle.numbers.specs.NumberLaws.{same_got}
use Rattle.numbers.specs.Numbers.{part, Got}
use Rattle.wire.specs.Formats
use Rattle.wire.specs.Formats.{Name, Tests, no_nul, text, text_of}
use Rattle.wire.specs.Reader.{all_tests, tests_of, name_by, name_at, text_fault}

-- ---- the text of a name

text_at : (t : List ℕ) → (raw 50 (length t)).parse 0 t 0 ≡ ok t (length t)
text_at t = raw_got 50 (length t) 0 t 0 (omega arith) ∙ ap (λ u. ok u (0 + length t)) (take-length t) ∙ ap (ok t) (zero-add (length t))

-- what these tests say of it
module _ (tests : Tests) (t : List ℕ) where
  pub text_52 : tests.no_nul t ≡ false → 52 ≡ text_fault tests t
  unfolding text_fault text_of placed checked
  text_52 n = rw (text_at t, n)

  module _ (n : tests.no_nul t ≡ true) where
    pub text_53 : tests.utf8 t ≡ false → 53 ≡ text_fault tests t
    unfolding text_fault text_of placed checked
    text_53 u = rw (text_at t, n, u)

    pub text-fine : tests.utf8 t ≡ true → 0 ≡ text_fault tests t
    unfolding text_fault text_of placed checked
    text-fine u = rw (text_at t, n, u)

-- a plain text holds no NUL
pub plain_nul : (t : List ℕ) → plain t ≡ true → among 0 t ≡ false
plain_nul [] e = refl
plain_nul (b ∷ t) e =
    let next = plain-next b t e in
    let some : 0 ≡ b → ⊥ = λ q. let y : ⊥ = omega (arith, next.0) in y in
    rw (ne_eqb 0 b some) (plain_nul t next.2)

pub text-plain : (t : List ℕ) → plain t ≡ true → 0 ≡ text_fault all_tests t
text-plain t e = text-fine all_tests t (rw (plain_nul t e)) (plain-utf8 t e)

-- where nothing is asked no text has a fault
pub text_light : (t : List ℕ) {light : Bool} → light ≡ true → 0 ≡ text_fault (tests_of light) t
text_light t {light} e = text-fine (tests_of light) t (lax-out no_nul t e) (lax-out utf8 t e)

-- what the reader of names tells of the name, wherever the bytes stand
abbrev pub name_of : ℕ → List ℕ → ℕ → Got → Res Name
name_of base s i (Ok (len, q)) = ok (record { start = base + (i + 1); text = take len (drop (i + 1) s) }) q
name_of base s i (Err k) = refuse k

module _ (tests : Tests) where
  -- a text without fault passes both tests, and one with a fault is refused by it
  data Judged (t : List ℕ) : Type 0 where
    bad : {k : ℕ} → text_fault tests t ≡ k → (k ≡ 0 → ⊥) → ((base : ℕ) (s : List ℕ) (i n : ℕ) → (raw 50 n).parse base s i ≡ ok t (i + n) → (text_of tests n).codec.parse base s i ≡ refuse (refusal k i)) → Judged t
    good : text_fault tests t ≡ 0 → ((base : ℕ) (s : List ℕ) (i n : ℕ) → (raw 50 n).parse base s i ≡ ok t (i + n) → (text_of tests n).codec.parse base s i ≡ ok (base + i, t) (i + n)) → Judged t

  judged : (t : List ℕ) → Judged t
  unfolding text_of placed checked
  judged t =
      by_bool (tests.no_nul t)
      (λ a.
      by_bool (tests.utf8 t)
      (λ u. good (sym (text-fine tests t a u)) (λ base s i n e. rw (e, a, u)))
      (λ u. bad (sym (text_53 tests t a u)) (λ z. let y : ⊥ = omega arith in y) (λ base s i n e. rw (e, a, u))))
      (λ a. bad (sym (text_52 tests t a)) (λ z. let y : ⊥ = omega arith in y) (λ base s i n e. rw (e, a)))

  -- ---- a name: n is its length byte, t its text

  module _ (base : ℕ) (s : List ℕ) (i : ℕ) where
    name-none : length s ≤ i → (name_by tests).parse base s i ≡ refuse (refusal 50 i)
    unfolding Formats.name named ◌then◌ text sized
    name-none h = rw (byte-bad 50 base s i h)

    module _ (n : ℕ) (h : i < length s) (en : n ≡ get_or s i 0) where
      name-len : (num 50 1).parse base s i ≡ ok n (i + 1)
      name-len = byte_got 50 base s i h ∙ ap (λ v. ok v (i + 1)) (sym en)

      name-cut : length s < i + 1 + n → (name_by tests).parse base s i ≡ refuse (refusal 50 (i + 1))
      unfolding Formats.name named ◌then◌ text sized text_of placed checked
      name-cut h1 = rw (name-len, raw-bad 50 n base s (i + 1) h1)

      name-bad : {k : Refusal} → (text_of tests n).codec.parse base s (i + 1) ≡ refuse k → (name_by tests).parse base s i ≡ refuse k
      unfolding Formats.name named ◌then◌ text sized
      name-bad e = rw (name-len, e)

      module _ {t : List ℕ} (e : (text_of tests n).codec.parse base s (i + 1) ≡ ok (base + (i + 1), t) (i + 1 + n)) where
        name-end : length s ≤ i + 1 + n → (name_by tests).parse base s i ≡ refuse (refusal 50 (i + 1 + n))
        unfolding Formats.name named ◌then◌ text sized fixed
        name-end h2 = rw (name-len, e, byte-bad 50 base s (i + 1 + n) h2)

        module _ (h2 : i + 1 + n < length s) where
          name_open : (get_or s (i + 1 + n) 0 ≡ 0 → ⊥) → (name_by tests).parse base s i ≡ refuse (refusal 54 (i + 1 + n))
          unfolding Formats.name named ◌then◌ text sized fixed
          name_open z = rw (name-len, e, byte_got 50 base s (i + 1 + n) h2, ne_eqb 0 (get_or s (i + 1 + n) 0) (λ q. z (sym q)))

          name_got : get_or s (i + 1 + n) 0 ≡ 0 → (name_by tests).parse base s i ≡ ok (record { start = base + (i + 1); text = t }) (i + 1 + n + 1)
          unfolding Formats.name named ◌then◌ text sized fixed
          name_got z = rw (name-len, e, byte_got 50 base s (i + 1 + n) h2, z)

  module _ (s : List ℕ) (i : ℕ) where
    abbrev len : ℕ
    len = get_or s i 0

    abbrev text-of : List ℕ
    text-of = take len (drop (i + 1) s)

    -- what every exit says: the answer, and that a length comes with a text as long
    record Exit (g : Got) : Type 0 where
      pub is : name_at tests s i ≡ g
      pub parse : (base : ℕ) → (name_by tests).parse base s i ≡ name_of base s i g
      pub place : {n q : ℕ} → g ≡ Ok (n, q) → (n ≡ len) × (q ≡ i + 1 + n + 1) × (length (take n (drop (i + 1) s)) ≡ n)

    exit_no : (k : Refusal) → ((base : ℕ) → (name_by tests).parse base s i ≡ refuse k) → Exit (Err k)
    unfolding name_at
    exit_no k e = record { is = rw (e 0); parse = e; place = λ q. absurd (let z : ◌≡◌ {A = ℕ} 0 1 = cc in omega arith) }

    exit_none : length s ≤ i → Exit (Err (refusal 50 i))
    exit_none h = exit_no _ (λ base. name-none base s i h)

    module _ (h : i < length s) where
      exit_cut : length s < i + 1 + len → Exit (Err (refusal 50 (i + 1)))
      exit_cut h1 = exit_no _ (λ base. name-cut base s i len h refl h1)

      module _ (h1 : i + 1 + len ≤ length s) where
        body : (base : ℕ) → (raw 50 len).parse base s (i + 1) ≡ ok text-of (i + 1 + len)
        body base = raw_got 50 len base s (i + 1) h1

        text-long : length text-of ≡ len
        text-long = simp (length-take, length-drop) (omega arith)

        exit_bad : (text_fault tests text-of ≡ 0 → ⊥) → Exit (Err (refusal (text_fault tests text-of) (i + 1)))
        exit_bad z = go (judged text-of)
          where
            go : Judged text-of → Exit (Err (refusal (text_fault tests text-of) (i + 1)))
            go (bad {k} e _ f) = exit_no _ (λ base. name-bad base s i len h refl (f base s (i + 1) len (body base)) ∙ ap (λ (n : ℕ). refuse (refusal n (i + 1))) (sym e))
            go (good e _) = absurd (z e)

        module _ (z : text_fault tests text-of ≡ 0) where
          read : (base : ℕ) → (text_of tests len).codec.parse base s (i + 1) ≡ ok (base + (i + 1), text-of) (i + 1 + len)
          read base = go (judged text-of)
            where
              go : Judged text-of → (text_of tests len).codec.parse base s (i + 1) ≡ ok (base + (i + 1), text-of) (i + 1 + len)
              go (bad e n _) = absurd (n (sym e ∙ z))
              go (good _ f) = f base s (i + 1) len (body base)

          exit_end : length s ≤ i + 1 + len → Exit (Err (refusal 50 (i + 1 + len)))
          exit_end h2 = exit_no _ (λ base. name-end base s i len h refl (read base) h2)

          module _ (h2 : i + 1 + len < length s) where
            exit_open : (get_or s (i + 1 + len) 0 ≡ 0 → ⊥) → Exit (Err (refusal 54 (i + 1 + len)))
            exit_open n = exit_no _ (λ base. name_open base s i len h refl (read base) h2 n)

            exit_got : get_or s (i + 1 + len) 0 ≡ 0 → Exit (Ok (len, i + 1 + len + 1))
            unfolding name_at
            exit_got n = record {
              is = rw (name_got 0 s i len h refl (read 0) h2 n) (ap (λ m. Ok (m, i + 1 + len + 1)) text-long);
              parse = λ base. name_got base s i len h refl (read base) h2 n;
              place = λ q. got_place q;
            }
              where
                got_place : {n q : ℕ} → ◌≡◌ {A = Got} (Ok (len, i + 1 + len + 1)) (Ok (n, q)) → (n ≡ len) × (q ≡ i + 1 + n + 1) × (length (take n (drop (i + 1) s)) ≡ n)
                got_place {n} {q} e =
                    let (x, y) = same_got e in
                    (sym x, sym y ∙ ap (λ (m : ℕ). i + 1 + m + 1) x, ap (λ m. length (take m (drop (i + 1) s))) (sym x) ∙ text-long ∙ x)

    any_exit : (g : Got) × Exit g
    any_exit =
        by_le (length s) i (λ h. (_, exit_none h))
        (λ h.
        by_le (i + 1 + len) (length s)
        (λ h1.
        by_eqb (text_fault tests text-of) 0
        (λ _ z.
        by_le (length s) (i + 1 + len) (λ h2. (_, exit_end h h1 z h2))
        (λ h2.
        by_eqb (get_or s (i + 1 + len) 0) 0
        (λ _ n. (_, exit_got h h1 z h2 n))
        (λ _ n. (_, exit_open h h1 z h2 n))))
        (λ _ z. (_, exit_bad h h1 z)))
        (λ h1. (_, exit_cut h h1)))

    pub name-is : (base : ℕ) → (name_by tests).parse base s i ≡ name_of base s i (name_at tests s i)
    name-is base = let (g, x) = any_exit in x.parse base ∙ ap (name_of base s i) (sym x.is)

    -- where a name ends, and how long its text is
    pub name-place : {n q : ℕ} → name_at tests s i ≡ Ok (n, q) → (n ≡ len) × (q ≡ i + 1 + n + 1) × (length (take n (drop (i + 1) s)) ≡ n)
    name-place e = let (g, x) = any_exit in x.place (sym x.is ∙ e)

    -- what the code of the reader meets
    pub name-none-at : length s - i < 1 → Err (refusal 50 i) ≡ name_at tests s i
    name-none-at h = sym (exit_none (omega arith)).is

    module _ (h : 1 ≤ length s - i) {n : ℕ} (en : n ≡ len) where
      pub name-cut-at : length s - (i + 1) < n → Err (refusal 50 (i + 1)) ≡ name_at tests s i
      name-cut-at h1 = sym (exit_cut (omega arith) (omega arith)).is

      module _ (h1 : n ≤ length s - (i + 1)) {why : ℕ} (ew : why ≡ text_fault tests (part s (i + 1) (i + 1 + n))) where
        text-is : part s (i + 1) (i + 1 + n) ≡ text-of
        text-is = let d : i + 1 + n - (i + 1) ≡ len = omega arith in rw d refl

        pub name-bad-at : (why ≡ 0 → ⊥) → Err (refusal why (i + 1)) ≡ name_at tests s i
        name-bad-at z = let e = ew ∙ ap (text_fault tests) text-is in ap (λ (n : ℕ). Err (refusal n (i + 1))) e ∙ sym (exit_bad (omega arith) (omega arith) (λ q. z (e ∙ q))).is

        module _ (z : why ≡ 0) where
          fine : text_fault tests text-of ≡ 0
          fine = ap (text_fault tests) (sym text-is) ∙ sym ew ∙ z

          pub name-end-at : length s - (i + 1 + n) < 1 → Err (refusal 50 (i + 1 + n)) ≡ name_at tests s i
          name-end-at h2 = ap (λ (m : ℕ). Err (refusal 50 (i + 1 + m))) en ∙ sym (exit_end (omega arith) (omega arith) fine (omega arith)).is

          module _ (h2 : 1 ≤ length s - (i + 1 + n)) where
            pub name_open_at : (get_or s (i + 1 + n) 0 ≡ 0 → ⊥) → Err (refusal 54 (i + 1 + n)) ≡ name_at tests s i
            name_open_at o = ap (λ (m : ℕ). Err (refusal 54 (i + 1 + m))) en ∙ sym (exit_open (omega arith) (omega arith) fine (omega arith) (rw en at o)).is

            pub name_got_at : get_or s (i + 1 + n) 0 ≡ 0 → Ok (n, i + 1 + n + 1) ≡ name_at tests s i
            name_got_at o = ap (λ (m : ℕ). Ok (m, i + 1 + m + 1)) en ∙ sym (exit_got (omega arith) (omega arith) fine (omega arith) (rw en at o)).is

  -- a name, wherever it stands
  pub name-ok : (base : ℕ) (s : List ℕ) (at : ℕ) {len p : ℕ} → name_at tests s at ≡ Ok (len, p) → (x : Name) × ((name_by tests).parse base s at ≡ ok x p) × (x.start ≡ base + (at + 1)) × (length x.text ≡ len)
  name-ok base s at {len} {p} e =
      (record { start = base + (at + 1); text = take len (drop (at + 1) s) }, name-is s at base ∙ ap (name_of base s at) e, refl, (name-place s at e).2)

  pub name-no : (base : ℕ) (s : List ℕ) (at : ℕ) {k : Refusal} → name_at tests s at ≡ Err k → (name_by tests).parse base s at ≡ refuse k
  name-no base s at e = name-is s at base ∙ ap (name_of base s at) e
