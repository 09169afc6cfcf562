use Rattle.std.proofs.Common.{ℕ, suc, ◌<◌, List, [], ◌∷◌, get_or, arith}
use Rattle.std.specs.List.{AllByRecursion}
use Rattle.dtx_outside.proofs.held.are_bytes.Goals as goal

each : (xs : List ℕ) → ((i : ℕ) → get_or xs i 0 < 256) → AllByRecursion (λ b. b < 256) xs
each [] fits = tt
each (x ∷ xs) fits = (fits 0, each xs (λ i. fits (suc i)))

pub returns : goal.returns
returns c = each c.args.file.now (λ i. omega (arith, c.type_inv.file i))
