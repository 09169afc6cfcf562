use Rattle.std.proofs.Common.{◌≡◌, ◌≢◌, ℕ, ℤ, pos, ◌+◌, ◌*◌, ◌<◌, ◌≤◌, ◌⊎◌, inl, inr, ◌+ℤ◌, ◌≤ℤ◌, List}
use Rattle.std.proofs.Common.{get_or, length, slice_set, refl, sym, ap, ap₂, ◌∙◌, subst, w8, arith, rules}
use mir.Val.{SFits}
use Rattle.std.proofs.lemmas.Bool.{cases_eq}
use Rattle.std.proofs.lemmas.Int.{to_z-of_z}
use Rattle.std.proofs.lemmas.List.{get_or-set_same, get_or-set_other, length-set}
use Rattle.dtx_soft.specs.Paths.{squared, symbol_at}
use Rattle.dtx_soft.proofs.WrapsLemmas.{read}
use Rattle.dtx_pins.specs.declared.start.Stand.{Stand}
use Rattle.dtx_pins.specs.declared.start.Stands.{Stands}
use Rattle.dtx_pins.specs.Trace.{IsMoved, IsNext, IsStand, stand_at, state_of}
use Rattle.dtx_pins.specs.Steps.{number_of}
use Rattle.dtx_pins.proofs.ScaledSymbols.{IsScaled, computed, is_scaled}
use Rattle.dtx_pins.proofs.forth.trace_all.Goals as goal

pub loop-e-init : goal.loop-e-init
loop-e-init c = record {
  written_long = refl;
  done = λ k l. absurd (omega arith);
  left = λ k l m. c.move_all-levels.ensures k m;
}

level_small : (mark level t : ℕ) (old new : Stand) → IsStand t old → IsMoved mark old new level → level < 8
level_small mark level t old new s h =
    let a = h.level_is in
    let b = h.small in
    let d = s.q1 in
    omega arith

-- the level of this lane
low : (c : goal.After-square-arg-1) → get_or c.move_all-levels.result c.loop-e.e 0 < 8
low c =
    let e = c.loop-e.e in
    level_small (get_or c.args.marks.now e 0) (get_or c.move_all-levels.result e 0) 21527 (stand_at c.args.stands.now e)
    (stand_at c.loop-e.stands e) (c.requires.stands e c.loop-e-test.true)
    (c.loop-e.invariant.left e (omega arith) c.loop-e-test.true)

scaled : (c : goal.After-square-arg-1) → IsScaled c.args.scale (get_or c.move_all-levels.result c.loop-e.e 0)
scaled c = is_scaled c.args.scale (get_or c.move_all-levels.result c.loop-e.e 0) c.requires.scale (low c)

pub overflow_mul-scale : goal.overflow_mul-scale
overflow_mul-scale c = (scaled c).fits

pub square-requires-clause-from : goal.square-requires-clause-from
square-requires-clause-from c = subst (λ v. pos 0 ≤ℤ (v +ℤ pos 126)) (sym (scaled c).symbol) (scaled c).from

pub square-requires-clause-to : goal.square-requires-clause-to
square-requires-clause-to c = subst (λ v. v ≤ℤ pos 126) (sym (scaled c).symbol) (scaled c).to

pub overflow_add-stands : goal.overflow_add-stands
overflow_add-stands c = record {
  fits = sum (c.requires.stands e c.loop-e-test.true).cost
      (c.loop-e.invariant.left e (omega arith) c.loop-e-test.true).cost c.square.ensures.small;
}
  where
    e : ℕ
    e = c.loop-e.e

    sum : {old now more : ℕ} → old ≤ 64516 * 21527 → now ≡ old → more ≤ 64516 → now + more < 4294967296
    sum l f m = omega arith

pub loop-e-preserved : goal.loop-e-preserved
loop-e-preserved c = record {
  written_long = length-set c.loop-e.written c.loop-e.e _ ∙ c.loop-e.invariant.written_long;
  done = λ k l. done k l (cases_eq k c.loop-e.e);
  left = λ k l m. (let h = c.loop-e.invariant.left k (omega arith) m in record {
    former = h.former;
    q1 = h.q1;
    q0 = h.q0;
    level_is = h.level_is;
    small = h.small;
    cost = get_or-set_other c.loop-e.stands.cost c.loop-e.e k _ 0 (λ e. absurd (omega arith)) ∙ h.cost;
  });
}
  where
    e : ℕ
    e = c.loop-e.e

    symbol : ℤ
    symbol = get_or c.args.symbols.now c.loop-e.e (pos 0)

    level : ℕ
    level = get_or c.move_all-levels.result c.loop-e.e 0

    h : IsMoved (get_or c.args.marks.now e 0) (stand_at c.args.stands.now e) (stand_at c.loop-e.stands e) level
    h = c.loop-e.invariant.left e (omega arith) c.loop-e-test.true

    small : IsStand 21527 (stand_at c.args.stands.now e)
    small = c.requires.stands e c.loop-e-test.true

    is : IsScaled c.args.scale level
    is = is_scaled c.args.scale level c.requires.scale
        (level_small (get_or c.args.marks.now e 0) level 21527 (stand_at c.args.stands.now e)
        (stand_at c.loop-e.stands e) small h)

    symbol_fits : SFits w8 (get_or c.args.symbols.now c.loop-e.e (pos 0))
    symbol_fits = search rules

    square : c.square.result ≡ squared symbol (symbol_at c.args.scale
        (2 * number_of (get_or c.args.marks.now e 0) (stand_at c.args.stands.now e).former
        (state_of (stand_at c.args.stands.now e)) + (stand_at c.args.stands.now e).q1))
    square =
        c.square.ensures.square ∙ ap₂ squared (to_z-of_z w8 symbol symbol_fits) is.symbol
        ∙ ap (λ z. squared symbol (symbol_at c.args.scale z)) h.level_is

    long : length c.loop-e.stands.cost ≡ 16
    long = search rules

    costs : List ℕ
    costs = slice_set c.loop-e.stands.cost c.loop-e.e (get_or c.loop-e.stands.cost c.loop-e.e 0 + c.square.result)

    stands : Stands
    stands = record {
      former = c.loop-e.stands.former;
      q1 = c.loop-e.stands.q1;
      q0 = c.loop-e.stands.q0;
      cost = costs;
    }

    written : List ℤ
    written = slice_set c.loop-e.written c.loop-e.e (read w8 (computed level))

    next : IsNext c.args.scale symbol (get_or c.args.marks.now c.loop-e.e 0) (stand_at c.args.stands.now c.loop-e.e)
        (stand_at stands c.loop-e.e) (get_or written c.loop-e.e (pos 0))
    next = record {
      former = h.former;
      q1 = h.q1;
      q0 = h.q0;
      written_is = get_or-set_same c.loop-e.written c.loop-e.e (read w8 (computed level)) (pos 0)
          (omega (arith, c.loop-e.invariant.written_long)) ∙ is.written ∙ ap (symbol_at 1) h.level_is;
      number_small = h.small;
      cost = get_or-set_same c.loop-e.stands.cost c.loop-e.e _ 0 (omega (arith, long))
          ∙ ap₂ (λ cost square. cost + square) h.cost square;
      small = subst (λ square. square ≤ 64516) square c.square.ensures.small;
    }

    done : (k : ℕ) → k < c.loop-e.e + 1 → (k ≡ c.loop-e.e) ⊎ (k ≢ c.loop-e.e)
        → IsNext c.args.scale (get_or c.args.symbols.now k (pos 0)) (get_or c.args.marks.now k 0)
        (stand_at c.args.stands.now k) (stand_at stands k) (get_or written k (pos 0))
    done k l (inl f) =
        subst (λ k. IsNext c.args.scale (get_or c.args.symbols.now k (pos 0)) (get_or c.args.marks.now k 0)
        (stand_at c.args.stands.now k) (stand_at stands k) (get_or written k (pos 0))) (sym f) next
    done k l (inr n) =
        let h = c.loop-e.invariant.done k (omega arith) in record {
          former = h.former;
          q1 = h.q1;
          q0 = h.q0;
          written_is = get_or-set_other c.loop-e.written c.loop-e.e k _ (pos 0) n ∙ h.written_is;
          number_small = h.number_small;
          cost = get_or-set_other c.loop-e.stands.cost c.loop-e.e k _ 0 n ∙ h.cost;
          small = h.small;
        }
