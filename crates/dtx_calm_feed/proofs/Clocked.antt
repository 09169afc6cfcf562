-- The stamps of a calm feed follow each other, and so do the moments that exciters make of them.
use Rattle.std.proofs.Common.{◌≡◌, ℕ, ℤ, pos, negsuc, ◌+◌, ◌-◌, ◌*◌, ◌/◌, ◌%◌, ◌+ℤ◌, ◌-ℤ◌, ◌*ℤ◌, Some, List, refl}
use Rattle.std.proofs.Common.{arith, unsigned_abs}
use Rattle.std.specs.Int.{int_rem_euclid}
use Rattle.std.proofs.lemmas.Int.{ints}
use Rattle.dtx_clock.specs.Clock.{DifferBy, count_of, grains_of}
use Rattle.dtx_ops.specs.declared.fields.Ops.{Ops}
use Rattle.dtx_exciter.specs.Order.{ordered_at}
use Rattle.dtx_exciter.specs.Packets.{readings}
use Rattle.dtx_watch.specs.Clock.{frames_between}
use Rattle.dtx_calm_feed.specs.Calm.{IsCalmFeed, IsBelowTick, air_between}
use Rattle.dtx_calm_feed.specs.Said.{Follows, latest_before}
use Rattle.dtx_calm_feed.proofs.Noted.{ordered_calm}
use Rattle.dtx_calm_feed.proofs.Told.{clock_follows}

pub stamps_follow : (feed : List (List ℕ)) (k : ℕ) (before ops : Ops) → IsCalmFeed feed
    → ordered_at (readings feed) k ≡ Some ops → latest_before feed k ≡ Some before → Follows before ops
stamps_follow feed k before ops c e b = clock_follows feed k before ops b (ordered_calm feed k ops c e).1

-- a number is its remainder and some whole seconds
whole_seconds : (z : ℤ)
    → (q : ℤ) × (z ≡ (pos (unsigned_abs (int_rem_euclid z (pos 15390000000))) +ℤ (q *ℤ pos 15390000000)))
whole_seconds (pos a) = (pos (a / 15390000000), omega (arith, ints))
whole_seconds (negsuc a) = (negsuc (a / 15390000000), omega (arith, ints))

-- the ticks from one stamp to another, and some whole seconds
ticks_between : (s t gone : ℕ) → gone ≡ (t + 10000000 - s % 10000000) % 10000000
    → (q : ℤ) × ((pos t -ℤ pos s) ≡ (pos gone +ℤ (q *ℤ pos 10000000)))
ticks_between s t gone e =
    (pos ((t + 10000000 - s % 10000000) / 10000000) -ℤ pos (s / 10000000 + 1), omega (arith, ints, e))

-- so many ticks are the length of the frames, but for less than a tick and some whole seconds
record AreLength (grains gone : ℕ) : Type 0 where
  pub seconds : ℤ
  pub rest : ℤ
  pub below : IsBelowTick rest
  pub is : (pos gone *ℤ pos 1539) ≡ ((pos grains +ℤ rest) +ℤ (seconds *ℤ pos 15390000000))

rounded_down : (grains gone : ℕ) → gone ≡ grains / 1539 % 10000000 → AreLength grains gone
rounded_down grains gone e = record {
  seconds = pos 0 -ℤ pos (grains / 1539 / 10000000);
  rest = pos 0 -ℤ pos (grains % 1539);
  below = (omega (arith, ints), omega (arith, ints));
  is = omega (arith, ints, e);
}

rounded_up : (grains gone : ℕ) → gone ≡ (grains + 1538) / 1539 % 10000000 → AreLength grains gone
rounded_up grains gone e = record {
  seconds = pos 0 -ℤ pos ((grains + 1538) / 1539 / 10000000);
  rest = pos (1539 * ((grains + 1538) / 1539)) -ℤ pos grains;
  below = (omega (arith, ints), omega (arith, ints));
  is = omega (arith, ints, e);
}

apart : (s t most later i j frames : ℕ) (offset : ℤ) → later ≡ most
    → AreLength (frames * 744789760) ((t + 10000000 - s % 10000000) % 10000000) → (rest : ℤ) × IsBelowTick rest
    × DifferBy (grains_of t later offset j) (grains_of s most offset i) (air_between frames i j +ℤ rest)
apart s t most later i j frames offset same l =
    let x = whole_seconds (count_of t later offset j) in
    let y = whole_seconds (count_of s most offset i) in
    let z = ticks_between s t ((t + 10000000 - s % 10000000) % 10000000) refl in
    let x1 = x.1 in
    let y1 = y.1 in
    let z1 = z.1 in
    let is = l.is in (l.rest, l.below, (((l.seconds +ℤ z.0) +ℤ y.0) -ℤ x.0, omega (arith, ints, same)))

pub moments_follow : (before ops : Ops) (offset : ℤ) (i j : ℕ) → Follows before ops → (rest : ℤ) × IsBelowTick rest
    × DifferBy (grains_of ops.stamp ops.max_delay offset j) (grains_of before.stamp before.max_delay offset i)
    (air_between (frames_between before.frame ops.frame) i j +ℤ rest)
moments_follow before ops offset i j f = grind (arith, apart, rounded_down, rounded_up)
