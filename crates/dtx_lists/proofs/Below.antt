-- From a test that is computed for each number below n to what it says at one of them.
use Rattle.std.proofs.Common.{◌≡◌, ℕ, ◌<◌, Bool, true}
use Rattle.std.proofs.lemmas.Bool.{agree_below, agree_below_at}

-- the test passes at each number below n
abbrev pub holds_below : (ℕ → Bool) → ℕ → Bool
holds_below p n = agree_below p (λ _. true) n

pub at_below : (p : ℕ → Bool) (n k : ℕ) → holds_below p n ≡ true → k < n → p k ≡ true
at_below p n k t l = agree_below_at p (λ _. true) n k t l
