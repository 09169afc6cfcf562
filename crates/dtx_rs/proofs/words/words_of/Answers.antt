use Rattle.std.proofs.Common.{◌≡◌, ℕ, ◌+◌, ◌*◌, [], ◌∷◌, ◌++◌, get_or, List, take, refl, ap, ap₂, ◌∙◌, arith, rules}
use Rattle.std.proofs.lemmas.List.{length-set, take_more_set}
use Rattle.std.proofs.lemmas.Nat.{le_bytes_4}
use Rattle.dtx_rs.specs.Generator.{word_bytes}
use Rattle.dtx_rs.proofs.WordBytes.{word_bytes-append, take_four}
use Rattle.dtx_rs.proofs.words.words_of.Goals as goal

pub loop-i-preserved : goal.loop-i-preserved
loop-i-preserved c =
    let i : ℕ = c.loop-i.i in
    let bytes : List ℕ = c.args.bytes.now in
    let at : ℕ = 4 * c.loop-i.i in
    let four : List ℕ =
    get_or bytes at 0 ∷ get_or bytes (at + 1) 0 ∷ get_or bytes (at + 2) 0 ∷ get_or bytes (at + 3) 0 ∷ [] in
    let further : 4 * c.loop-i.i + 4 ≡ 4 * (c.loop-i.i + 1) = omega arith in
    record {
      front = ap word_bytes (take_more_set c.loop-i.words i c.from_le_bytes.result
          (omega (arith, c.loop-i.invariant.long)))
          ∙ word_bytes-append (take i c.loop-i.words) (c.from_le_bytes.result ∷ [])
          ∙ ap₂ ◌++◌ c.loop-i.invariant.front (le_bytes_4 four c.from_le_bytes.result refl
          (search rules) c.from_le_bytes.ensures)
          ∙ take_four bytes at (omega (arith, c.told-bytes))
          ∙ ap (λ n. take n bytes) further;
      long = length-set c.loop-i.words i c.from_le_bytes.result ∙ c.loop-i.invariant.long;
    }
