-- The steps of the walk on through a segment.
use Rattle.std.proofs.Common.{◌≡◌, ℕ, zero, suc, ℤ, ◌+◌, ◌-◌, ◌*◌, ◌%◌, ◌<◌, ◌≤◌, sym, subst, arith}
use Rattle.dtx_pins.specs.declared.start.Stand.{Stand}
use Rattle.dtx_pins.specs.Trace.{IsNext, IsStand, IsTraced}

pub stands_further : (scale : ℕ) (symbol : ℤ) (t u mark : ℕ) (old new : Stand) (written : ℤ) → u ≡ t + 1
    → IsNext scale symbol mark old new written → IsStand t old → IsStand u new
stands_further scale symbol t u mark old new written e next h = grind arith

pub stands_within : (t n : ℕ) (stand : Stand) → t ≤ n → IsStand t stand → IsStand n stand
stands_within t n stand l h = grind arith

-- where what is written stands elsewhere
traced_elsewhere : (scale : ℕ) (symbols : ℕ → ℤ) (marks : ℕ → ℕ) (written other : ℕ → ℤ) (n : ℕ) (old new : Stand)
    → ((k : ℕ) → k < n → other k ≡ written k) → IsTraced scale symbols marks written n old new
    → IsTraced scale symbols marks other n old new
traced_elsewhere scale symbols marks written other zero old new e h = h
traced_elsewhere scale symbols marks written other (suc n) old new e h = (
  h.0,
  traced_elsewhere scale symbols marks written other n old h.0 (λ k l. e k (omega arith)) h.1,
  subst (IsNext scale (symbols n) (marks n) h.0 new) (sym (e n (omega arith))) h.2,
)

-- one step more
pub traced_more : (scale : ℕ) (symbols : ℕ → ℤ) (marks : ℕ → ℕ) (written other : ℕ → ℤ) (n : ℕ)
    (old now new : Stand) → ((k : ℕ) → k < n → other k ≡ written k) → IsTraced scale symbols marks written n old now
    → IsNext scale (symbols n) (marks n) now new (other n) → IsTraced scale symbols marks other (n + 1) old new
traced_more scale symbols marks written other n old now new e h next = grind (arith, traced_elsewhere)

-- which coder stands there
pub turned_back : (turn e : ℕ) → turn < 3 → e < 12 → ((e + 12 - 4 * turn) % 12 + 4 * turn) % 12 ≡ e
turned_back turn e l m = omega arith
