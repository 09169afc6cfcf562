-- Sums place by place, and what a loop over them keeps.
use Rattle.std.proofs.Common.{◌≡◌, ℕ, ◌+◌, ◌-◌, ◌<◌, List, length, get_or, drop, bit_xor, sym, ◌∙◌, arith}
use Rattle.std.proofs.lemmas.List.{ext_get_or, get_or-map, length-map}
use Rattle.std.proofs.Math.Seq.{drop-cons}
use Rattle.dtx_laws.specs.Locator.{combination}
use Rattle.dtx_galois.specs.Field.{mul, sums, scaled}
use Rattle.dtx_galois.proofs.WordsLemmas.{length_sums}
use Rattle.dtx_laws.proofs.PartsLemmas.{sums_at}

-- a list known at each place
pub sums_scaled : (new old low : List ℕ) (f : ℕ) → length new ≡ length old → length old ≡ length low
    → ((k : ℕ) → k < length low → get_or new k 0 ≡ bit_xor (get_or old k 0) (mul f (get_or low k 0)))
    → new ≡ sums old (scaled f low)
sums_scaled new old low f l m h = ext_get_or 0 new (sums old (scaled f low)) (l ∙ sym (length_sums old (scaled f low)))
    (λ k i. grind (arith, get_or-map, sums_at, length-map))

pub combination_back : (v : List ℕ) (s : ℕ → ℕ) (e i : ℕ) → 0 < i → i - 1 < length v
    → bit_xor (mul (get_or v (i - 1) 0) (s (e + (i - 1)))) (combination (drop i v) s (e + i))
    ≡ combination (drop (i - 1) v) s (e + (i - 1))
combination_back v s e i p l = grind (arith, drop-cons)
