-- The parity bytes of a word's data, as the words that stand around them have them.
use Rattle.std.proofs.Common.{◌≡◌, ℕ, ◌-◌, List, ◌++◌, length, take, drop, ap, ◌∙◌, arith}
use Rattle.std.proofs.lemmas.List.{take_rest, length-drop, take-append-drop}
use Rattle.dtx_laws.specs.Codeword.{IsCodeword}

-- a codeword is its data with its parity bytes behind them
pub parity_behind : (n k : ℕ) (word code : List ℕ) → IsCodeword n k code → take k code ≡ take k word
    → IsCodeword n k (take k word ++ take (length code - k) (drop k code))
parity_behind n k word code c b = grind (arith, take_rest, take-append-drop)

pub length-parity : (n k : ℕ) (code : List ℕ) → IsCodeword n k code
    → length (take (length code - k) (drop k code)) ≡ n - k
length-parity n k code c = ap length (take_rest code k) ∙ length-drop k code ∙ ap (λ l. l - k) c.long
