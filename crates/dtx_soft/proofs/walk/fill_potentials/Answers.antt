use Rattle.std.proofs.Common.{◌≡◌, ℕ, ◌-◌, ◌*◌, ◌<◌, ◌≤◌, List, [], ◌∷◌, drop, get_or, length, pos, refl, arith}
use Rattle.std.proofs.Common.{rules, slice_set, sym, ap, ◌∙◌, subst, w8}
use mir.Val.{SFits}
use Rattle.std.proofs.lemmas.Int.{to_z-of_z}
use Rattle.std.proofs.lemmas.List.{get_or-set_same, length-set}
use Rattle.dtx_soft.specs.Nearest.{AreNearest}
use Rattle.dtx_soft.proofs.WritesLemmas.{four, written_above}
use Rattle.dtx_soft.proofs.Paths.{ArePotentialsAt}
use Rattle.dtx_soft.proofs.Potentials.{cheapest_small, no_potentials, potentials_more}
use Rattle.dtx_soft.proofs.walk.fill_potentials.Goals as goal

abbrev zeros : List ℕ
zeros = 0 ∷ 0 ∷ 0 ∷ 0 ∷ []

are_zeros : (s : ℕ) → s < 4 → get_or zeros s 0 ≡ 0
are_zeros = four (λ s. get_or zeros s 0 ≡ 0) refl refl refl refl

pub loop-t-init : goal.loop-t-init
loop-t-init c = record {
  long = (let e = length-set c.args.potentials.now (length c.args.symbols.now) zeros in
      omega (arith, e, c.requires.room));
  bounded = λ s l. subst (λ x. x ≤ 64516 * (length c.args.symbols.now - length c.args.symbols.now))
      (sym (are_zeros s l)) (omega arith);
  behind = no_potentials c.args.table.now.scale c.args.symbols.now (length c.args.symbols.now) zeros (omega arith)
      are_zeros;
  done = λ k d l m. no_potentials c.args.table.now.scale c.args.symbols.now k _ l
      (λ s n. ap (λ e. get_or e s 0) (at k d (omega arith)) ∙ are_zeros s n);
  bounds = λ k d l m s n. subst (λ x. x ≤ 64516 * length c.args.symbols.now)
      (sym (ap (λ e. get_or e s 0) (at k d (omega arith)) ∙ are_zeros s n)) (omega arith);
}
  where
    at : (k : ℕ) (d : List ℕ) → k ≡ length c.args.symbols.now
        → get_or (slice_set c.args.potentials.now (length c.args.symbols.now) zeros) k d ≡ zeros
    at k d e = ap (λ i. get_or (slice_set c.args.potentials.now (length c.args.symbols.now) zeros) i d) e
        ∙ get_or-set_same c.args.potentials.now (length c.args.symbols.now) zeros d (omega (arith, c.requires.room))

pub loop-t-preserved : goal.loop-t-preserved
loop-t-preserved c = record {
  long = (let e = length-set c.loop-t.potentials (c.loop-t.t - 1) c.before-behind.result in
      omega (arith, e, c.loop-t.invariant.long));
  bounded = λ s l. small s l;
  behind = before;
  done = λ k d l m. written_above (λ k x. k ≤ length c.args.symbols.now
      → ArePotentialsAt c.args.table.now.scale (drop k c.args.symbols.now) x)
      c.loop-t.potentials (c.loop-t.t - 1) c.before-behind.result (omega (arith, c.loop-t.invariant.long))
      (λ k d l m. c.loop-t.invariant.done k d (omega arith) m) (λ _. before) k d l m;
  bounds = λ k d l m. written_above (λ k x. k ≤ length c.args.symbols.now
      → (s : ℕ) → s < 4 → get_or x s 0 ≤ 64516 * length c.args.symbols.now)
      c.loop-t.potentials (c.loop-t.t - 1) c.before-behind.result (omega (arith, c.loop-t.invariant.long))
      (λ k d l m. c.loop-t.invariant.bounds k d (omega arith) m) (λ _ s n. (let a = small s n in omega arith)) k d l m;
}
  where
    fits : SFits w8 (get_or c.args.symbols.now (c.loop-t.t - 1) (pos 0))
    fits = search rules

    row : AreNearest c.args.table.now.scale (get_or c.args.symbols.now (c.loop-t.t - 1) (pos 0)) c.row.result.now
    row = subst (λ v. AreNearest c.args.table.now.scale v c.row.result.now)
        (to_z-of_z w8 (get_or c.args.symbols.now (c.loop-t.t - 1) (pos 0)) fits) c.row.ensures

    before : ArePotentialsAt c.args.table.now.scale (drop (c.loop-t.t - 1) c.args.symbols.now) c.before-behind.result
    before = potentials_more c.args.table.now.scale c.args.symbols.now (c.loop-t.t - 1) c.loop-t.t c.row.result.now
        c.loop-t.behind c.before-behind.result (omega arith) (omega arith) row c.loop-t.invariant.behind
        c.before-behind.ensures.potentials

    small : (s : ℕ) → s < 4 → get_or c.before-behind.result s 0 ≤ 64516 * (length c.args.symbols.now - (c.loop-t.t - 1))
    small s l =
        let a = cheapest_small c.args.table.now.scale (get_or c.args.symbols.now (c.loop-t.t - 1) (pos 0))
        c.row.result.now c.loop-t.behind (64516 * (length c.args.symbols.now - c.loop-t.t)) s row
        c.loop-t.invariant.bounded l in
        let b = c.before-behind.ensures.potentials s l in
        omega arith

pub returns-clause-potentials : goal.returns-clause-potentials
returns-clause-potentials c t s l m = c.loop-t.invariant.done t [] (omega arith) l s m
