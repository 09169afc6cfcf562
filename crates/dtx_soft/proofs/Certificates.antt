-- Paths that cost so much, one step on; and why a certificate proves its path a least one.
use Rattle.std.proofs.Common.{◌≡◌, ℕ, suc, ℤ, pos, ◌+◌, ◌-◌, ◌/◌, ◌%◌, ◌<◌, ◌≤◌, List, [], ◌∷◌, length, get_or, drop}
use Rattle.std.proofs.Common.{sym, ap, ◌∙◌, subst, arith}
use Rattle.std.proofs.lemmas.List.{drop_all, drop_more}
use Rattle.dtx_soft.specs.Paths.{IsPath, cost, next_state, squared, symbol_at}
use Rattle.dtx_soft.specs.Least.{ArePotentials, IsLeast, IsPotential, NoneCostsLess, IsCertificate}
use Rattle.dtx_soft.proofs.LeastPathLemmas.{next_small}
use Rattle.dtx_soft.proofs.MovedLemmas.{cost-cons, nothing_costs}

-- a path from a state that costs so much
abbrev pub Costs : ℕ → List ℤ → List ℕ → ℕ → Type 0
Costs state symbols levels left = IsPath state levels × (cost 1 symbols levels ≡ left)

-- a step may be made, and the rest costs what is left
pub record Steps (state : ℕ) (symbol : ℤ) (symbols : List ℤ) (z : ℕ) (levels : List ℕ) (left : ℕ) : Type 0 where
  pub level : z < 8
  pub begins : z % 2 ≡ state / 2
  pub enough : squared symbol (symbol_at 1 z) ≤ left
  pub rest : Costs (next_state state z) symbols levels (left - squared symbol (symbol_at 1 z))

stepped : (state : ℕ) (v : ℤ) (symbols : List ℤ) (z : ℕ) (levels : List ℕ) (left : ℕ)
    → Costs state (v ∷ symbols) (z ∷ levels) left → Steps state v symbols z levels left
stepped state v symbols z levels left h =
    let e = cost-cons 1 v symbols z levels in
    record {
      level = h.0.0;
      begins = h.0.1;
      enough = omega (arith, e, h.1);
      rest = (h.0.2, omega (arith, e, h.1));
    }

joined : (state : ℕ) (v : ℤ) (symbols : List ℤ) (z : ℕ) (levels : List ℕ) (left : ℕ)
    → Steps state v symbols z levels left → Costs state (v ∷ symbols) (z ∷ levels) left
joined state v symbols z levels left h =
    let e = cost-cons 1 v symbols z levels in
    ((h.level, h.begins, h.rest.0), omega (arith, e, h.enough, h.rest.1))

-- from place t of both lists
pub stepped_at : (state : ℕ) (symbols : List ℤ) (levels : List ℕ) (t left : ℕ) → t < length symbols
    → length levels ≡ length symbols → Costs state (drop t symbols) (drop t levels) left
    → Steps state (get_or symbols t (pos 0)) (drop (t + 1) symbols) (get_or levels t 0) (drop (t + 1) levels) left
stepped_at state symbols levels t left l e h =
    stepped state (get_or symbols t (pos 0)) (drop (t + 1) symbols) (get_or levels t 0) (drop (t + 1) levels) left
    (subst (λ symbols. Costs state symbols (get_or levels t 0 ∷ drop (t + 1) levels) left)
    (drop_more symbols t (pos 0) l)
    (subst (λ levels. Costs state (drop t symbols) levels left) (drop_more levels t 0 (omega arith)) h))

pub joined_at : (state : ℕ) (symbols : List ℤ) (levels : List ℕ) (t left : ℕ) → t < length symbols
    → length levels ≡ length symbols
    → Steps state (get_or symbols t (pos 0)) (drop (t + 1) symbols) (get_or levels t 0) (drop (t + 1) levels) left
    → Costs state (drop t symbols) (drop t levels) left
joined_at state symbols levels t left l e h =
    subst (λ levels. Costs state (drop t symbols) levels left) (sym (drop_more levels t 0 (omega arith)))
    (subst (λ symbols. Costs state symbols (get_or levels t 0 ∷ drop (t + 1) levels) left)
    (sym (drop_more symbols t (pos 0) l))
    (joined state (get_or symbols t (pos 0)) (drop (t + 1) symbols) (get_or levels t 0) (drop (t + 1) levels) left h))

-- behind the last symbol
pub nothing_left : (state : ℕ) (symbols : List ℤ) (levels : List ℕ) (t left : ℕ) → length symbols ≤ t
    → length levels ≡ length symbols → Costs state (drop t symbols) (drop t levels) left → left ≡ 0
nothing_left state symbols levels t left l e h = grind (arith, drop_all, nothing_costs)

pub all_left : (state : ℕ) (symbols : List ℤ) (levels : List ℕ) (t : ℕ) → length symbols ≤ t
    → length levels ≡ length symbols → Costs state (drop t symbols) (drop t levels) 0
all_left state symbols levels t l e = (
  subst (IsPath state) (sym (drop_all t levels (omega arith))) tt,
  ap (λ symbols. cost 1 symbols (drop t levels)) (drop_all t symbols l) ∙ nothing_costs 1 (drop t levels),
)

-- entries that no step goes below are no more than what any path from there costs
pub entries_below : (symbols : List ℤ) (entry : ℕ → ℕ → ℕ) → ((s : ℕ) → s < 4 → entry (length symbols) s ≡ 0)
    → ((t s z : ℕ) → t < length symbols → s < 4 → z < 8 → z % 2 ≡ s / 2
    → entry t s ≤ squared (get_or symbols t (pos 0)) (symbol_at 1 z) + entry (t + 1) (next_state s z))
    → (s : ℕ) (levels : List ℕ) → s < 4 → length levels ≡ length symbols → IsPath s levels
    → entry 0 s ≤ cost 1 symbols levels
entries_below [] entry zeros steps s levels l n path = (let e = zeros s l in omega arith)
entries_below (v ∷ symbols) entry zeros steps s [] l n path = absurd (omega arith)
entries_below (v ∷ symbols) entry zeros steps s (z ∷ levels) l n path =
    let a = steps 0 s z (omega arith) l path.0 path.1 in
    let b = entries_below symbols (λ t. entry (t + 1)) (λ s l. ap (λ t. entry t s) (more (length symbols)) ∙ zeros s l)
    (λ t s z k l m e. shifted t s z (steps (t + 1) s z (omega arith) l m e))
    (next_state s z) levels (next_small s z l) (omega arith) path.2 in
    let c = cost-cons 1 v symbols z levels in
    omega (arith, a, b, c)
  where
    more : (n : ℕ) → n + 1 ≡ suc n
    more n = omega arith

    shifted : (t s z : ℕ) → entry (t + 1) s ≤ squared (get_or (v ∷ symbols) (t + 1) (pos 0)) (symbol_at 1 z)
        + entry (t + 1 + 1) (next_state s z)
        → entry (t + 1) s ≤ squared (get_or symbols t (pos 0)) (symbol_at 1 z) + entry (t + 1 + 1) (next_state s z)
    shifted t s z h = subst (λ v. entry (t + 1) s ≤ squared v (symbol_at 1 z) + entry (t + 1 + 1) (next_state s z))
        (ap (λ k. get_or (v ∷ symbols) k (pos 0)) (more t)) h

pub no_less : (symbols : List ℤ) (start : ℕ) (levels : List ℕ) (potentials : List (List ℕ))
    → IsCertificate symbols start levels potentials → NoneCostsLess 1 symbols levels
no_less symbols start levels potentials h s others l n path =
    let a = entries_below symbols (λ t s. get_or (get_or potentials t []) s 0) h.zeros
    (λ t s z k. h.steps t k s z) s others l n path in
    let b = h.least s l in
    omega (arith, a, b, h.met)

-- the least costs over the symbols from each place on are such entries
pub potentials_certify : (symbols : List ℤ) (start : ℕ) (levels : List ℕ) (potentials : List (List ℕ))
    → IsLeast 1 symbols start levels → ArePotentials 1 symbols potentials
    → IsCertificate symbols start levels potentials
potentials_certify symbols start levels potentials h p = record {
  begins = h.begins;
  long = h.long;
  entries = p.long;
  zeros = λ s l. none (p.least (length symbols) s (omega arith) l);
  steps = λ t k s z l m e. step t s z k m e (p.least t s (omega arith) l)
      (p.least (t + 1) (next_state s z) (omega arith) (next_small s z l));
  least = λ s l. no_higher s l (front start h.begins) (front s l);
  path = h.path;
  met = met (front start h.begins);
}
  where
    none : {s n : ℕ} → IsPotential 1 (drop (length symbols) symbols) s n → n ≡ 0
    none {s} {n} q = grind (arith, drop_all, nothing_costs)

    step : (t s z : ℕ) → t < length symbols → z < 8 → z % 2 ≡ s / 2
        → IsPotential 1 (drop t symbols) s (get_or (get_or potentials t []) s 0)
        → IsPotential 1 (drop (t + 1) symbols) (next_state s z)
        (get_or (get_or potentials (t + 1) []) (next_state s z) 0) → get_or (get_or potentials t []) s 0
        ≤ squared (get_or symbols t (pos 0)) (symbol_at 1 z) + get_or (get_or potentials (t + 1) []) (next_state s z) 0
    step t s z k m e q r =
        let q : IsPotential 1 (get_or symbols t (pos 0) ∷ drop (t + 1) symbols) s
        (get_or (get_or potentials t []) s 0) =
        subst (λ symbols. IsPotential 1 symbols s (get_or (get_or potentials t []) s 0))
        (drop_more symbols t (pos 0) k) q in
        let a = q.below (z ∷ r.met.0) (ap suc r.met.1) (m, e, r.met.2) in
        let b = cost-cons 1 (get_or symbols t (pos 0)) (drop (t + 1) symbols) z r.met.0 in
        omega (arith, a, b, r.met.3)

    front : (s : ℕ) → s < 4 → IsPotential 1 symbols s (get_or (get_or potentials 0 []) s 0)
    front s l = p.least 0 s (omega arith) l

    met : IsPotential 1 symbols start (get_or (get_or potentials 0 []) start 0)
        → cost 1 symbols levels ≡ get_or (get_or potentials 0 []) start 0
    met q =
        let a = q.below levels h.long h.path in
        let b = h.least start q.met.0 h.begins q.met.1 q.met.2 in
        omega (arith, a, b, q.met.3)

    no_higher : (s : ℕ) → s < 4 → IsPotential 1 symbols start (get_or (get_or potentials 0 []) start 0)
        → IsPotential 1 symbols s (get_or (get_or potentials 0 []) s 0)
        → get_or (get_or potentials 0 []) start 0 ≤ get_or (get_or potentials 0 []) s 0
    no_higher s l q r =
        let b = h.least s r.met.0 l r.met.1 r.met.2 in
        omega (arith, b, met q, r.met.3)
