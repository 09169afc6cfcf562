-- The table of potentials, one symbol further to the front.
use Rattle.std.proofs.Common.{◌≡◌, ℕ, ℤ, pos, ◌+◌, ◌<◌, ◌≤◌, List, [], ◌∷◌, length, get_or, drop, take, sym, ◌∙◌, subst}
use Rattle.std.proofs.Common.{ap, arith}
use Rattle.std.proofs.lemmas.List.{drop_all, drop_more, get_or-take, length-take-le}
use Rattle.dtx_soft.specs.Least.{ArePotentials, HoldPotentials, IsPotential}
use Rattle.dtx_soft.specs.declared.nearest.Nearest.{Nearest}
use Rattle.dtx_soft.specs.Nearest.{AreNearest, cheapest}
use Rattle.dtx_soft.proofs.LeastPathLemmas.{next_small}
use Rattle.dtx_soft.proofs.Paths.{ArePotentialsAt, nothing_potential, potential_more}
use Rattle.dtx_soft.proofs.Steps.{cheapest_is}

pub potentials_more : (scale : ℕ) (symbols : List ℤ) (t u : ℕ) (row : Nearest) (behind before : List ℕ)
    → t < length symbols → u ≡ t + 1 → AreNearest scale (get_or symbols t (pos 0)) row
    → ArePotentialsAt scale (drop u symbols) behind → ((s : ℕ) → s < 4 → get_or before s 0 ≡ cheapest row behind s)
    → ArePotentialsAt scale (drop t symbols) before
potentials_more scale symbols t u row behind before l n h p e s m =
    let opened : drop t symbols ≡ get_or symbols t (pos 0) ∷ drop u symbols =
    drop_more symbols t (pos 0) l ∙ ap (λ k. get_or symbols t (pos 0) ∷ drop k symbols) (sym n) in
    let found = cheapest_is scale (get_or symbols t (pos 0)) row behind s h m in
    subst (λ symbols. IsPotential scale symbols s (get_or before s 0)) (sym opened)
    (subst (IsPotential scale (get_or symbols t (pos 0) ∷ drop u symbols) s) (sym (e s m ∙ found.2))
    (potential_more scale (get_or symbols t (pos 0)) (drop u symbols) behind s found.0 p m found.1))

-- behind all symbols
pub no_potentials : (scale : ℕ) (symbols : List ℤ) (k : ℕ) (zeros : List ℕ) → length symbols ≤ k
    → ((s : ℕ) → s < 4 → get_or zeros s 0 ≡ 0) → ArePotentialsAt scale (drop k symbols) zeros
no_potentials scale symbols k zeros l e s m =
    subst (λ symbols. IsPotential scale symbols s (get_or zeros s 0)) (sym (drop_all k symbols l))
    (subst (IsPotential scale [] s) (sym (e s m)) (nothing_potential scale s))

-- no potential grows by more than the greatest square
pub cheapest_small : (scale : ℕ) (v : ℤ) (row : Nearest) (behind : List ℕ) (bound s : ℕ) → AreNearest scale v row
    → ((s : ℕ) → s < 4 → get_or behind s 0 ≤ bound) → s < 4 → cheapest row behind s ≤ 64516 + bound
cheapest_small scale v row behind bound s h f l = grind (arith, next_small)

-- the front of a longer table
pub front_potentials : (scale : ℕ) (symbols : List ℤ) (entries : List (List ℕ)) (n : ℕ) → n ≡ length symbols
    → n < length entries → HoldPotentials scale symbols entries → ArePotentials scale symbols (take (n + 1) entries)
front_potentials scale symbols entries n e l h = record {
  long = length-take-le (n + 1) entries (omega arith) ∙ ap (λ n. n + 1) e;
  least = λ t s k m. subst (λ entry. IsPotential scale (drop t symbols) s (get_or entry s 0))
      (sym (get_or-take (n + 1) entries t [] (omega arith))) (h t s k m);
}
