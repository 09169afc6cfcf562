use Rattle.std.proofs.Common.{◌≡◌, ◌≢◌, ◌⊎◌, inl, inr, ℕ, ◌+◌, ◌<◌, List, [], get_or, replicate, sym, subst, arith, ap}
use Rattle.std.proofs.Common.{◌∙◌, length, rules}
use Rattle.std.proofs.lemmas.Bool.{cases_eq}
use Rattle.std.proofs.lemmas.List.{get_or-replicate, get_or_default}
use Rattle.dtx_pins.specs.Pins.{pin_at}
use Rattle.dtx_pins.specs.declared.start.Stand.{Stand}
use Rattle.dtx_pins.specs.Trace.{IsStand, IsStart, stand_at, x2_of}
use Rattle.dtx_pins.proofs.start.starts.Goals as goal

none : (k x : ℕ) → k < 16 → get_or (replicate 16 x) k 0 ≡ x
none k x l = get_or-replicate 16 k x 0 l

pub loop-e-init : goal.loop-e-init
loop-e-init c = record {
  starts = λ k l. absurd (omega arith);
  stands = λ k l. record {
    former = (let e = none k 0 l in omega arith);
    q1 = (let e = none k 0 l in omega arith);
    q0 = (let e = none k 0 l in omega arith);
    cost = (let e = none k 0 l in omega arith);
  };
}

-- a stand from which a path starts
starting : {pin : ℕ} {behind : List (List ℕ)} {stand : Stand} → IsStart pin behind stand → IsStand 0 stand
starting h = record { former = h.former; q1 = h.q1; q0 = h.q0; cost = (let e = h.cost in omega arith) }

pub loop-e-preserved : goal.loop-e-preserved
loop-e-preserved c = record {
  starts = λ k l. by_coder k l (cases_eq k c.loop-e.e);
  stands = λ k l. stand k l (cases_eq k c.loop-e.e);
}
  where
    long : length c.args.first.now ≡ 12
    long = search rules

    begun : IsStart (pin_at c.args.first.now c.loop-e.e) (get_or c.args.behind.now c.loop-e.e [])
        (stand_at c.put_stand.new.stands c.loop-e.e)
    begun =
        subst (IsStart (pin_at c.args.first.now c.loop-e.e) (get_or c.args.behind.now c.loop-e.e []))
        (sym c.put_stand.ensures.written)
        (c.start_of.ensures (pin_at c.args.first.now c.loop-e.e)
        (ap x2_of (get_or_default c.args.first.now c.loop-e.e 4 0 (omega (arith, long))) ∙ sym c.first_x2.ensures))

    by_coder : (k : ℕ) → k < c.loop-e.e + 1 → (k ≡ c.loop-e.e) ⊎ (k ≢ c.loop-e.e)
        → IsStart (pin_at c.args.first.now k) (get_or c.args.behind.now k []) (stand_at c.put_stand.new.stands k)
    by_coder k l (inl e) =
        subst (λ k. IsStart (pin_at c.args.first.now k) (get_or c.args.behind.now k [])
        (stand_at c.put_stand.new.stands k)) (sym e) begun
    by_coder k l (inr n) =
        subst (IsStart (pin_at c.args.first.now k) (get_or c.args.behind.now k []))
        (sym (c.put_stand.ensures.others k n)) (c.loop-e.invariant.starts k (omega arith))

    stand : (k : ℕ) → k < 16 → (k ≡ c.loop-e.e) ⊎ (k ≢ c.loop-e.e) → IsStand 0 (stand_at c.put_stand.new.stands k)
    stand k l (inl e) = subst (λ k. IsStand 0 (stand_at c.put_stand.new.stands k)) (sym e) (starting begun)
    stand k l (inr n) = subst (IsStand 0) (sym (c.put_stand.ensures.others k n)) (c.loop-e.invariant.stands k l)
