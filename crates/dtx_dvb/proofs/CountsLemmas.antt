-- What is counted of packets that are read in parts.
use Rattle.std.proofs.Common.{◌≡◌, ℕ, ◌+◌, ◌++◌, List, refl, arith}
use Rattle.std.proofs.lemmas.List.Sums.{sum_by-append}
use Rattle.dtx_outer.specs.declared.inner.Taken.{Taken}
use Rattle.dtx_outer.specs.declared.inner.Taken.TheVariants.{None, Good, Bad}
use Rattle.dtx_dvb.specs.Given.{given}
use Rattle.dtx_dvb.specs.Read.{Read, fixed_of, flag_of, fixed_in, flagged_in}

pub fixed-append : (xs ys : List Read) → fixed_in (xs ++ ys) ≡ fixed_in xs + fixed_in ys
unfolding fixed_in
fixed-append xs ys = sum_by-append (λ (r : Read). fixed_of r.taken) xs ys

pub flagged-append : (xs ys : List Read) → flagged_in (xs ++ ys) ≡ flagged_in xs + flagged_in ys
unfolding flagged_in
flagged-append xs ys = sum_by-append (λ (r : Read). flag_of r.taken) xs ys

pub fixed_one : (taken : Taken) (packet : List ℕ) → fixed_in (given taken packet) ≡ fixed_of taken
unfolding fixed_in
fixed_one None packet = refl
fixed_one (Good fixed) packet = let e : 0 + fixed ≡ fixed = omega arith in e
fixed_one Bad packet = refl

pub flagged_one : (taken : Taken) (packet : List ℕ) → flagged_in (given taken packet) ≡ flag_of taken
unfolding flagged_in
flagged_one None packet = refl
flagged_one (Good fixed) packet = refl
flagged_one Bad packet = refl
