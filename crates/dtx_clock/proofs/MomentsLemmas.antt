-- Moments within their second.
use Rattle.std.proofs.Common.{◌≡◌, ℕ, ◌/◌, ℤ, pos, negsuc, ◌+ℤ◌, ◌-ℤ◌, ◌*ℤ◌, unsigned_abs, arith}
use Rattle.std.proofs.lemmas.Int.{ints}
use Rattle.std.specs.Int.{int_rem_euclid}
use Rattle.dtx_clock.specs.Clock.{count_of, grains_of, DifferBy}

-- a number is its remainder and some whole seconds
whole_seconds : (z : ℤ)
    → (q : ℤ) × (z ≡ (pos (unsigned_abs (int_rem_euclid z (pos 15390000000))) +ℤ (q *ℤ pos 15390000000)))
whole_seconds (pos a) = (pos (a / 15390000000), omega (arith, ints))
whole_seconds (negsuc a) = (negsuc (a / 15390000000), omega (arith, ints))

pub moments_differ : (stamp max place : ℕ) (a b : ℤ)
    → DifferBy (grains_of stamp max a place) (grains_of stamp max b place) ((a -ℤ b) *ℤ pos 1539)
moments_differ stamp max place a b =
    let s = whole_seconds (count_of stamp max a place) in
    let t = whole_seconds (count_of stamp max b place) in
    let u = s.1 in
    let v = t.1 in
    (t.0 -ℤ s.0, omega (arith, ints))
