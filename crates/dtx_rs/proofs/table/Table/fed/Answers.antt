use Rattle.std.proofs.Common.{◌≡◌, ℕ, List, ◌∷◌, drop, length, refl, sym, ap, ◌∙◌, arith}
use Rattle.std.proofs.Common.{rules}
use Rattle.std.proofs.lemmas.List.{length-drop, length_push}
use Rattle.std.specs.Int.{to_le_bytes, w32}
use Rattle.std.specs.Int.RustNames.{bit_xor}
use Rattle.std.specs.Simd.Lanes.{zip2}
use Rattle.dtx_galois.specs.Field.{sums}
use Rattle.dtx_galois.proofs.WordsLemmas.{length_sums}
use Rattle.dtx_rs.specs.Generator.{word_bytes}
use Rattle.dtx_rs.proofs.Sums.{zip_sums}
use Rattle.dtx_rs.proofs.Steps.{step_is, split_sum}
use Rattle.dtx_rs.proofs.table.Table.fed.Goals as goal

pub returns : goal.returns
returns c =
    let rest : List ℕ = c.args.state.rest in
    let b3 : List ℕ = c.row-row3.result.rest in
    let b2 : List ℕ = c.row-row2.result.rest in
    let b1 : List ℕ = c.row-row1.result.rest in
    let b0 : List ℕ = c.row-row0.result.rest in
    let l3 : length c.row-row3.result.rest ≡ 4 = c.row-row3.ensures.long in
    let l2 : length c.row-row2.result.rest ≡ 4 = c.row-row2.ensures.long in
    let l1 : length c.row-row1.result.rest ≡ 4 = c.row-row1.ensures.long in
    let l0 : length c.row-row0.result.rest ≡ 4 = c.row-row0.ensures.long in
    let m1 : length (sums b1 b0) ≡ 4 = length_sums b1 b0 ∙ l1 in
    let m2 : length (sums b2 (sums b1 b0)) ≡ 4 = length_sums b2 (sums b1 b0) ∙ l2 in
    let m3 : length (sums b3 (sums b2 (sums b1 b0))) ≡ 4 = length_sums b3 (sums b2 (sums b1 b0)) ∙ l3 in
    let four : length c.args.state.rest ≡ 4 = omega (
      arith,
      c.next_words.ensures.long,
      ap length c.next_words.ensures.words,
      length_push (drop 1 c.args.state.rest) 0,
      length-drop 1 c.args.state.rest,
    ) in
    ap word_bytes
    (split_sum rest (c.row-row3.result.first ∷ b3) (c.row-row2.result.first ∷ b2) (c.row-row1.result.first ∷ b1)
    (c.row-row0.result.first ∷ b0) _ _ (omega (arith, four)) (omega arith) (omega arith) (omega arith) (omega arith)
    refl
    (ap (λ ys. zip2 bit_xor c.next_words.result (zip2 bit_xor b3 (zip2 bit_xor b2 ys)))
    (zip_sums b1 b0 (l1 ∙ sym l0))
    ∙ ap (λ ys. zip2 bit_xor c.next_words.result (zip2 bit_xor b3 ys)) (zip_sums b2 (sums b1 b0) (l2 ∙ sym m1))
    ∙ ap (zip2 bit_xor c.next_words.result) (zip_sums b3 (sums b2 (sums b1 b0)) (l3 ∙ sym m2))
    ∙ zip_sums c.next_words.result (sums b3 (sums b2 (sums b1 b0))) (c.next_words.ensures.long ∙ sym m3)
    ∙ ap (λ ys. sums ys (sums b3 (sums b2 (sums b1 b0)))) c.next_words.ensures.words))
    ∙ step_is c.args.self.now.divisor (c.args.state.first ∷ rest) c.args.bytes.now c.to_le_bytes-factors.result
    (c.row-row3.result.first ∷ b3) (c.row-row2.result.first ∷ b2) (c.row-row1.result.first ∷ b1)
    (c.row-row0.result.first ∷ b0) (omega arith)
    (omega (arith, four, c.args.self.now.long)) c.told-bytes
    (search rules) (c.to_le_bytes-factors.ensures
    ∙ ap (λ x. to_le_bytes w32 (bit_xor x c.args.state.first)) c.from_le_bytes.ensures)
    c.row-row3.ensures.row c.row-row2.ensures.row c.row-row1.ensures.row c.row-row0.ensures.row
