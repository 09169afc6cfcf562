use Rattle.std.proofs.Common.{◌≡◌, ◌+◌, ◌*◌, ◌++◌, ◌≤◌, ℕ, ℤ, Bool, true, List, length, length-append, take, ap, ◌∙◌}
use Rattle.std.proofs.Common.{arith, sym, subst}
use Rattle.std.proofs.lemmas.List.{length-take-le}
use Rattle.dtx_acquire.proofs.PlacesLemmas.{whole_there}
use Rattle.dtx_level.specs.Shown.{shows}
use Rattle.dtx_level.proofs.Shows.{past_end}
use Rattle.dtx_level.specs.Leveller.{Holding}
use Rattle.dtx_level.proofs.Shows.{shows_front}
use Rattle.dtx_level.proofs.leveller.Leveller.hold.Goals as goal

held_more : (held more taken : List ℤ) (syncs slips last silent n symbols all : ℕ) (on : Bool)
    → 832 * syncs + length held ≤ symbols → slips ≤ syncs → last + length held ≤ symbols
    → silent + length held ≤ symbols → (on ≡ true → shows held 0 ≡ true) → taken ≡ held ++ more → length more ≡ n
    → symbols + all ≤ 520832000000 → n ≤ all
    → (832 * syncs + length taken ≤ symbols + n) × (symbols + n ≤ 520832000000) × (slips ≤ syncs)
    × (last + length taken ≤ symbols + n) × (silent + length taken ≤ symbols + n) × (on ≡ true → shows taken 0 ≡ true)
held_more held more taken syncs slips last silent n symbols all on room fewer far quiet front e long most few =
    let is : length taken ≡ length held + n = omega (arith, ap length e, length-append held more, long) in (
      omega (arith, is, room),
      omega (arith, most, few),
      fewer,
      omega (arith, is, far),
      omega (arith, is, quiet),
      λ t.
          ap (λ (xs : List ℤ). shows xs 0) e
          ∙ shows_front held more 0 (whole_there shows past_end held 0 (front t)) ∙ front t,
    )

pub invariant_of-self : goal.invariant_of-self
invariant_of-self c =
    held_more c.self.inside.held (take c.take-count.result c.args.symbols.now) c.take-count.new.self
    c.self.inside.tally.syncs c.self.inside.tally.slips c.self.inside.tally.last c.self.inside.silent
    c.take-count.result c.self.inside.symbols (length c.args.symbols.now) c.self.inside.on
    c.self.invariant.0 c.self.invariant.2 c.self.invariant.3 c.self.invariant.4 c.self.invariant.5
    c.take-count.ensures.held (length-take-le c.take-count.result c.args.symbols.now c.take-count.ensures.within)
    (subst (λ (x : Holding). x.symbols + length c.args.symbols.now ≤ 520832000000) (sym c.self.view_is) c.requires)
    c.take-count.ensures.within

pub returns-clause-fed : goal.returns-clause-fed
returns-clause-fed c =
    let long = length-take-le c.take-count.result c.args.symbols.now c.take-count.ensures.within in
    rw (← c.self.view_is) (cc (long, c.take-count.ensures.held))
