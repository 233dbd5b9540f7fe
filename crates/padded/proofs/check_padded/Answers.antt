-- `check_padded` meets its contract: bytes below 128 by one walk; of others the bytes before the NULs at the end tell. Assumes nothing.
use mathlib.Core.Path.{sym, ap, ap₂, ◌∙◌}
use mathlib.Core.Bool.{not}
use lib.ListN.{take}
use lib.Seq.{length-take-le}
use Rattle.codec.specs.Codec.{among}
use Rattle.text.specs.Utf8.{utf8}
use Rattle.text.specs.Utf8Laws.{utf8-trimmed}
use Rattle.padded.proofs.PaddedLaws.{trimmed-no_nul}
use Rattle.padded.specs.PaddedAnswer.{told}
use Rattle.padded.specs.PaddedAnswerLaws.{padded-ascii}
use Rattle.text.specs.TrimLaws.{trimmed-le}
use Rattle.padded.proofs.check_padded.Goals as goal

pub returns-then-is_padded_ascii : goal.returns-then-is_padded_ascii
returns-then-is_padded_ascii c = let (u, p) = padded-ascii _ (sym c.if-is_padded_ascii.true ∙ c.is_padded_ascii.ensures) in sym (ap₂ told u p)

pub slice_bounds-part-end : goal.slice_bounds-part-end
slice_bounds-part-end c =
    let s = c.args.s.now in
    sym (length-take-le c.trimmed_len.result s (rw c.trimmed_len.ensures (trimmed-le s)))

pub returns : goal.returns
returns c =
    let s = c.args.s.now in
    let n = c.trimmed_len.ensures in
    c.tell.ensures
    ∙ ap₂ told (c.is_utf8.ensures ∙ ap (λ k. utf8 (take k s)) n ∙ utf8-trimmed s) (ap not (c.has_nul.ensures ∙ ap (λ k. among 0 (take k s)) n) ∙ trimmed-no_nul s)
