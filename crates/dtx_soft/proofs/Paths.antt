-- Least paths and potentials, one more symbol in front (Bellman).
use Rattle.std.proofs.Common.{◌≡◌, ℕ, suc, ℤ, ◌+◌, ◌<◌, ◌≤◌, ◌⊎◌, inl, inr, List, [], ◌∷◌, length, get_or, refl, sym}
use Rattle.std.proofs.Common.{ap, ◌∙◌, subst, arith}
use Rattle.std.proofs.lemmas.Bool.{cases_lt}
use Rattle.dtx_soft.specs.Paths.{IsPath, cost, next_state, squared, symbol_at}
use Rattle.dtx_soft.specs.Least.{AreInOrder, IsLeastFrom, IsPotential}
use Rattle.dtx_soft.proofs.LeastPathLemmas.{next_small}
use Rattle.dtx_soft.proofs.MovedLemmas.{cost-cons, nothing_costs}
use Rattle.dtx_soft.proofs.Steps.{IsFirstLeast, onto}

-- the potentials of all states
abbrev pub ArePotentialsAt : ℕ → List ℤ → List ℕ → Type 0
ArePotentialsAt scale symbols potentials = (s : ℕ) → s < 4 → IsPotential scale symbols s (get_or potentials s 0)

-- a path costs no less than its first level comes to
onto_below : (scale : ℕ) (v : ℤ) (symbols : List ℤ) (behind : List ℕ) (state z : ℕ) (levels : List ℕ)
    → ArePotentialsAt scale symbols behind → state < 4 → length levels ≡ length symbols
    → IsPath (next_state state z) levels → onto scale v behind state z ≤ cost scale (v ∷ symbols) (z ∷ levels)
onto_below scale v symbols behind state z levels p l n path = grind (arith, next_small, cost-cons)

-- and it costs as much where it is a least one from there
pub least_is : (scale : ℕ) (symbols : List ℤ) (state potential : ℕ) (levels : List ℕ)
    → IsPotential scale symbols state potential → IsLeastFrom scale symbols state levels
    → cost scale symbols levels ≡ potential
least_is scale symbols state potential levels p h = grind arith

pub one_more : (scale : ℕ) (v : ℤ) (symbols : List ℤ) (behind : List ℕ) (state z : ℕ) (levels : List ℕ)
    → ArePotentialsAt scale symbols behind → state < 4 → IsFirstLeast scale v behind state z
    → IsLeastFrom scale symbols (next_state state z) levels → IsLeastFrom scale (v ∷ symbols) state (z ∷ levels)
one_more scale v symbols behind state z levels p l h q = record {
  long = ap suc q.long;
  path = (h.small, h.begins, q.path);
  least = least_of;
  first = first_of;
}
  where
    value : cost scale (v ∷ symbols) (z ∷ levels) ≡ onto scale v behind state z
    value = cost-cons scale v symbols z levels ∙ ap (λ x. squared v (symbol_at scale z) + x)
        (least_is scale symbols (next_state state z) (get_or behind (next_state state z) 0) levels
        (p (next_state state z) (next_small state z l)) q)

    least_of : (others : List ℕ) → length others ≡ suc (length symbols) → IsPath state others
        → cost scale (v ∷ symbols) (z ∷ levels) ≤ cost scale (v ∷ symbols) others
    least_of [] e path = absurd (omega arith)
    least_of (y ∷ ys) e path =
        let a = onto_below scale v symbols behind state y ys p l (omega arith) path.2 in
        let b = h.least y path.0 path.1 in
        omega (arith, a, b, value)

    first_of : (others : List ℕ) → length others ≡ suc (length symbols) → IsPath state others
        → cost scale (v ∷ symbols) others ≡ cost scale (v ∷ symbols) (z ∷ levels) → AreInOrder (z ∷ levels) others
    first_of [] e path t = absurd (omega arith)
    first_of (y ∷ ys) e path t =
        let a = onto_below scale v symbols behind state y ys p l (omega arith) path.2 in
        let b = h.least y path.0 path.1 in
        let c : onto scale v behind state y ≡ onto scale v behind state z = omega (arith, a, b, value, t) in
        go y ys (omega arith) path.2 t (by_order z y (h.first y path.0 path.1 c) (cases_lt z y))
      where
        by_order : (a b : ℕ) → a ≤ b → (a < b) ⊎ (b ≤ a) → (a < b) ⊎ (a ≡ b)
        by_order a b k (inl m) = inl m
        by_order a b k (inr m) = inr (omega arith)

        go : (y : ℕ) (ys : List ℕ) → length ys ≡ length symbols → IsPath (next_state state y) ys
            → cost scale (v ∷ symbols) (y ∷ ys) ≡ cost scale (v ∷ symbols) (z ∷ levels) → (z < y) ⊎ (z ≡ y)
            → (z < y) ⊎ ((z ≡ y) × AreInOrder levels ys)
        go y ys n path t (inl k) = inl k
        go y ys n path t (inr k) = grind (arith, cost-cons)

pub potential_more : (scale : ℕ) (v : ℤ) (symbols : List ℤ) (behind : List ℕ) (state z : ℕ)
    → ArePotentialsAt scale symbols behind → state < 4 → IsFirstLeast scale v behind state z
    → IsPotential scale (v ∷ symbols) state (onto scale v behind state z)
potential_more scale v symbols behind state z p l h = record {
  below = below_of;
  met = (
    z ∷ rest.met.0,
    ap suc rest.met.1,
    (h.small, h.begins, rest.met.2),
    cost-cons scale v symbols z rest.met.0 ∙ ap (λ x. squared v (symbol_at scale z) + x) rest.met.3,
  );
}
  where
    rest : IsPotential scale symbols (next_state state z) (get_or behind (next_state state z) 0)
    rest = p (next_state state z) (next_small state z l)

    below_of : (others : List ℕ) → length others ≡ suc (length symbols) → IsPath state others
        → onto scale v behind state z ≤ cost scale (v ∷ symbols) others
    below_of [] e path = absurd (omega arith)
    below_of (y ∷ ys) e path = grind (arith, onto_below)

-- no symbols
pub nothing_least : (scale state : ℕ) → IsLeastFrom scale [] state []
nothing_least scale state = grind (arith, nothing_costs)

pub nothing_potential : (scale state : ℕ) → IsPotential scale [] state 0
nothing_potential scale state = grind (arith, nothing_costs)
