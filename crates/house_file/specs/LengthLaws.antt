-- Store and output keep their lengths. Assumes nothing.
use Rattle.std.specs.Prelude.{ℕ, ◌*◌, ◌≡◌, refl, List, length, Result}
use Rattle.std.proofs.Common.{arith, ap, ◌∙◌, length-append, length-drop, le-leb}
use Rattle.std.proofs.lemmas.Bool.{lt-leb}
use Rattle.codec.specs.Codec.{Res, ok, refuse}
use Rattle.codec.specs.CaseLaws.{by_le, by_bool}
use Rattle.house_file.specs.House.{Block, blocks_of, payload_of, store_in, Unpacking, count, is_count, output_in, Packing}
use Rattle.house_file.specs.PackLaws.{file-length}
use Rattle.refusal.specs.declared.Refusal.{Refusal}

store_length : (st : List ℕ) (q : Res (List Block)) → length (store_in st q) ≡ length st
unfolding store_in
store_length st (refuse e) = refl
store_length st (ok xs j) = by_le (length (payload_of xs)) (length st)
    (λ h. rw (le-leb (length (payload_of xs)) (length st) h) (simp (length-append, length-drop) (omega arith)))
    (λ h. rw (lt-leb (length (payload_of xs)) (length st) h))

pub unpack_length : {s st : List ℕ} {r : Result ℕ Refusal} {st' : List ℕ} → Unpacking s st r st' → length st' ≡ length st
unpack_length {s} {st} u = ap length u.store ∙ store_length st (blocks_of s)

output-length : (o s : List ℕ) → length (output_in o s) ≡ length o
unfolding output_in
output-length o s = by_bool (is_count (count s))
    (λ e. by_le (512 * count s) (length o)
    (λ h. rw (e, le-leb (512 * count s) (length o) h) (simp (length-append, length-drop) (omega (arith, file-length s))))
    (λ h. rw (e, lt-leb (512 * count s) (length o) h)))
    (λ e. rw e)

pub pack_length : {s o : List ℕ} {r : Result ℕ Refusal} {o' : List ℕ} → Packing s o r o' → length o' ≡ length o
pack_length {s} {o} p = ap length p.output ∙ output-length o s
