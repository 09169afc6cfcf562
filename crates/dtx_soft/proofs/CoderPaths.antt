-- The levels of a trellis coder are a path.
use Rattle.std.proofs.Common.{◌≡◌, ℕ, zero, suc, ◌+◌, ◌*◌, ◌/◌, ◌%◌, ◌<◌, List, length, get_or, map, sym, subst, arith}
use Rattle.std.specs.List.{range_with_len}
use Rattle.dtx_trellis.specs.Trellis.{AreBits, State, level, level_of, next_of, state_after}
use Rattle.dtx_trellis.proofs.StepsLemmas.{after_zero, level_step, state_step}
use Rattle.dtx_trellis.proofs.GoesOnLemmas.{after_bits}
use Rattle.dtx_soft.specs.Paths.{IsPath, next_state}

-- a level that may follow a state, and the state behind it
record Follows (states levels : ℕ → ℕ) (t : ℕ) : Type 0 where
  small : levels t < 8
  begins : levels t % 2 ≡ states t / 2
  next : next_state (states t) (levels t) ≡ states (t + 1)

path_from : (states levels : ℕ → ℕ) (from n : ℕ) → ((t : ℕ) → t < from + n → Follows states levels t)
    → IsPath (states from) (map levels (range_with_len from n))
path_from states levels from zero h = tt
path_from states levels from (suc n) h =
    let f = h from (omega arith) in (
      f.small,
      f.begins,
      subst (λ s. IsPath s (map levels (range_with_len (from + 1) n))) (sym f.next)
          (path_from states levels (from + 1) n (λ t l. h t (omega arith))),
    )

-- a state without its precoder's bit
abbrev low_bits : State → ℕ
low_bits q = 2 * q.q1 + q.q0

level_small : (q : State) (x2 x1 : ℕ) → AreBits q → x1 < 2 → level_of q x2 x1 < 8
level_small q x2 x1 h l = let m : q.q1 < 2 = h.q1 in omega arith

level_begins : (q : State) (x2 x1 : ℕ) → AreBits q → level_of q x2 x1 % 2 ≡ low_bits q / 2
level_begins q x2 x1 h = let m : q.q1 < 2 = h.q1 in let n : q.q0 < 2 = h.q0 in omega arith

level_next : (q : State) (x2 x1 : ℕ) → AreBits q → x1 < 2
    → next_state (low_bits q) (level_of q x2 x1) ≡ low_bits (next_of q x2 x1)
unfolding next_state
level_next q x2 x1 h l = grind arith

pub coder_path : (q : State) (a b : List ℕ) → AreBits q → ((t : ℕ) → t < length a → get_or b t 0 < 2)
    → IsPath (2 * q.q1 + q.q0) (map (level q a b) (range_with_len 0 (length a)))
coder_path q a b h small =
    subst (λ s. IsPath (low_bits s) (map (level q a b) (range_with_len 0 (length a)))) (after_zero q a b)
    (path_from (λ t. low_bits (state_after q a b t)) (level q a b) 0 (length a) (λ t l. follows t (omega arith)))
  where
    follows : (t : ℕ) → t < length a → Follows (λ t. low_bits (state_after q a b t)) (level q a b) t
    follows t l = grind (arith, level_small, level_begins, level_next, state_step, level_step, after_bits)
