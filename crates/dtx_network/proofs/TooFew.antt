-- A byte of packet 51 behind a mark is one of the last packet before the mark.
use Rattle.std.proofs.Common.{◌≡◌, ◌≢◌, ℕ, ◌+◌, ◌-◌, ◌*◌, ◌%◌, ◌<◌, ◌≤◌, nat_le, List, ◌∷◌, ◌++◌, length, get_or, sym}
use Rattle.std.proofs.Common.{◌∙◌, arith, zero-add}
use Rattle.std.proofs.lemmas.Bool.{cond-true, le-leb}
use Rattle.std.proofs.lemmas.List.{length-append, get_or_append_left, get_or-append_right}
use Rattle.std.proofs.lemmas.List.FromFn.{get_or-map-range_with_len}
use Rattle.dtx_galois.specs.Field.{AreBytes}
use Rattle.dtx_laws.specs.Interleaving.{interleaved, interleaved_at}
use Rattle.dtx_coder.specs.Stream.{coded_from, coded, spread}
use Rattle.dtx_coder.proofs.BytesLemmas.{coded_append, length-coded}
use Rattle.dtx_chain.proofs.ApartLemmas.{other_last, length-other, bytes_other, code_of, length-code, last_differs}

-- Byte 50 of packet 51 behind the packet p is the last byte of p's codeword.
late_is : (front packets : List (List ℕ)) (p : List ℕ) → (length front + 1) % 624 ≡ 0 → 52 ≤ length packets
    → get_or (spread (front ++ p ∷ packets)) (207 * (length front + 52) + 50) 0
    ≡ get_or (code_of (length front) p) 206 0
unfolding spread interleaved coded_from
late_is front packets p z l =
    let all : List (List ℕ) = front ++ p ∷ packets in
    let n : ℕ = 207 * (length front + 52) + 50 in
    let far : 208 * (n % 52) ≤ n = omega arith in
    let back : n - 208 * (n % 52) ≡ 207 * length front + 206 = omega arith in
    let own : ℕ → List ℕ = λ k. code_of k p in
    let within : n < length (coded all) = omega (arith, l, length-coded 0 all, length-append front (p ∷ packets)) in
    get_or-map-range_with_len (interleaved_at 52 4 (coded all)) 0 (length (coded all)) n n 0 within (omega arith)
    ∙ cond-true (nat_le (208 * (n % 52)) n) (get_or (coded all) (n - 208 * (n % 52)) 0) 0
    (le-leb (208 * (n % 52)) n far) ∙
    grind (arith, coded_append, get_or-append_right, length-coded, there, get_or_append_left, length-code, zero-add)
  where
    there : (m : ℕ) → m + 206 - m ≡ 206
    there m = omega arith

pub another_before : (front packets : List (List ℕ)) (p : List ℕ) → (length front + 1) % 624 ≡ 0 → length p ≡ 188
    → AreBytes p → 52 ≤ length packets → (q : List ℕ) × (length q ≡ 188) × AreBytes q
    × (get_or (spread (front ++ q ∷ packets)) (207 * (length front + 52) + 50) 0
    ≢ get_or (spread (front ++ p ∷ packets)) (207 * (length front + 52) + 50) 0)
another_before front packets p z l b m = (
  other_last p,
  length-other p l,
  bytes_other p b,
  λ e. last_differs (length front) p l b (sym (grind (arith, late_is, other_last)) ∙ e ∙ late_is front packets p z m),
)
