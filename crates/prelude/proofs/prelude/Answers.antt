-- Each way out is the law of the prelude at the tests that led there.
-- Assumes nothing.
use Rattle.std.specs.Prelude.{get_or, Ok}
use Rattle.std.proofs.Common.{arith, true, false, refl, sym, ap, ◌∙◌, le-leb}
use Rattle.std.proofs.lemmas.Bool.{lt-leb}
use Rattle.prelude.proofs.PreludeLaws.{length_of, magic-starts, prelude-few, prelude-is}
use Rattle.prelude.specs.declared.Stage.TheVariants.{Whole}
use Rattle.prelude.proofs.prelude.Goals as goal

pub returns-then-n-lt-METADATA_PRELUDE_LEN : goal.returns-then-n-lt-METADATA_PRELUDE_LEN
returns-then-n-lt-METADATA_PRELUDE_LEN c = sym (prelude-few c.args.s.now c.if-n-lt-METADATA_PRELUDE_LEN.true)

pub returns-then-not-starts_with : goal.returns-then-not-starts_with
returns-then-not-starts_with c =
    let s = c.args.s.now in
    let h = c.if-n-lt-METADATA_PRELUDE_LEN.false in
    c.refuse.ensures ∙ sym (prelude-is s h false _ _ (magic-starts s h (λ k. omega (arith, c.type_inv.s k)) false (sym c.if-not-starts_with.true ∙ c.starts_with.ensures.value)) refl refl)

pub returns-then-not-is_version : goal.returns-then-not-is_version
returns-then-not-is_version c =
    let s = c.args.s.now in
    let h = c.if-n-lt-METADATA_PRELUDE_LEN.false in
    let a = magic-starts s h (λ k. omega (arith, c.type_inv.s k)) true (sym c.if-not-starts_with.false ∙ c.starts_with.ensures.value) in
    c.refuse-then-not-is_version.ensures ∙ sym (prelude-is s h true false _ a (sym c.is_version.ensures ∙ c.if-not-is_version.true) refl)

pub returns-then-len-lt-METADATA_FIXED_LEN : goal.returns-then-len-lt-METADATA_FIXED_LEN
returns-then-len-lt-METADATA_FIXED_LEN c =
    let s = c.args.s.now in
    let h = c.if-n-lt-METADATA_PRELUDE_LEN.false in
    let a = magic-starts s h (λ k. omega (arith, c.type_inv.s k)) true (sym c.if-not-starts_with.false ∙ c.starts_with.ensures.value) in
    c.refuse-then-len-lt-METADATA_FIXED_LEN.ensures
    ∙ sym (prelude-is s h true true false a (sym c.is_version.ensures ∙ c.if-not-is_version.false) (lt-leb 100 (length_of s) (omega (arith, c.u32_of-len.ensures))))

pub returns : goal.returns
returns c =
    let s = c.args.s.now in
    let h = c.if-n-lt-METADATA_PRELUDE_LEN.false in
    let a = magic-starts s h (λ k. omega (arith, c.type_inv.s k)) true (sym c.if-not-starts_with.false ∙ c.starts_with.ensures.value) in
    ap (λ n. Ok (Whole (get_or s 3 0) n)) c.u32_of-len.ensures.0
    ∙ sym (prelude-is s h true true true a (sym c.is_version.ensures ∙ c.if-not-is_version.false) (le-leb 100 (length_of s) (omega (arith, c.u32_of-len.ensures))))
