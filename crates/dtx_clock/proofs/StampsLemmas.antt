-- Stamps of two frames.
use Rattle.std.proofs.Common.{◌≡◌, ℕ, ◌+◌, ◌-◌, ◌*◌, ◌/◌, ◌%◌, ◌<◌, ◌≤◌, ◌⊎◌, true, inl, inr, ap, ◌∙◌, arith}
use Rattle.std.proofs.lemmas.Bool.{eq-eqb, cases_lt, or_left, or_right}
use Rattle.dtx_clock.specs.Clock.{stamp_of, runs}

-- the ticks from one number of them to a greater one, within a second
within : (t q : ℕ) → ((t + q) % 10000000 + 10000000 - t % 10000000 % 10000000) % 10000000 ≡ q % 10000000
within t q = omega arith

-- behind some grains others last their own whole ticks, or one more
lasting : (a b : ℕ) → ((a + b) / 1539 ≡ a / 1539 + b / 1539) ⊎ ((a + b) / 1539 ≡ a / 1539 + (b + 1538) / 1539)
lasting a b = by_rest (cases_lt (a % 1539 + b % 1539) 1539)
  where
    by_rest : (a % 1539 + b % 1539 < 1539) ⊎ (1539 ≤ a % 1539 + b % 1539)
        → ((a + b) / 1539 ≡ a / 1539 + b / 1539) ⊎ ((a + b) / 1539 ≡ a / 1539 + (b + 1538) / 1539)
    by_rest (inl l) = inl (omega (arith, l))
    by_rest (inr l) = inr (omega (arith, l))

ticks_run : (s t q : ℕ) → s / 1539 ≡ t + q
    → (s / 1539 % 10000000 + 10000000 - t % 10000000 % 10000000) % 10000000 ≡ q % 10000000
ticks_run s t q e = ap (λ (n : ℕ). (n % 10000000 + 10000000 - t % 10000000 % 10000000) % 10000000) e ∙ within t q

pub stamps_run : (start frame frames : ℕ)
    → runs (stamp_of start frame) (stamp_of start (frame + frames)) frames ≡ true
stamps_run start frame frames = by_rest (lasting a b)
  where
    a : ℕ
    a = start * 1539 + frame * 744789760

    b : ℕ
    b = frames * 744789760

    all : start * 1539 + (frame + frames) * 744789760 ≡ a + b
    all = omega arith

    ticks : (q : ℕ) → (a + b) / 1539 ≡ a / 1539 + q
        → (stamp_of start (frame + frames) + 10000000 - stamp_of start frame % 10000000) % 10000000 ≡ q % 10000000
    ticks q e = ticks_run (start * 1539 + (frame + frames) * 744789760) (a / 1539) q
        (ap (λ (n : ℕ). n / 1539) all ∙ e)

    by_rest : ((a + b) / 1539 ≡ a / 1539 + b / 1539) ⊎ ((a + b) / 1539 ≡ a / 1539 + (b + 1538) / 1539)
        → runs (stamp_of start frame) (stamp_of start (frame + frames)) frames ≡ true
    by_rest (inl e) = or_left _ _ (eq-eqb _ _ (ticks (b / 1539) e))
    by_rest (inr e) = or_right _ _ (eq-eqb _ _ (ticks ((b + 1538) / 1539) e))
