use Rattle.std.proofs.Common.{length, ◌≡◌, ℕ, ◌*◌, ◌<◌, ◌^◌, sym, ap, ◌∙◌, arith, subst, rules, below_more, get_or}
use Rattle.std.proofs.lemmas.List.{get_or_push, get_or_append_left}
use Rattle.dtx_galois.specs.Field.{remainder}
use Rattle.dtx_whiten.specs.Randomizer.{polynomial, tapped, randomizer_byte}
use Rattle.dtx_whiten.proofs.BytesLemmas.{byte_small, randomizer_bytes_by}
use Rattle.dtx_whiten.proofs.Shifts.{register_next, register_small, register_zero}
use Rattle.dtx_whiten.proofs.randomizer.Atsc.new.Goals as goal

pub tapped-requires : goal.tapped-requires
tapped-requires c =
    subst (λ (x : ℕ). x < 2 ^ 16) (sym c.loop-shifts.invariant.register) (register_small c.loop-shifts._shifts)

pub shifted-register-requires : goal.shifted-register-requires
shifted-register-requires c =
    subst (λ (x : ℕ). x < 2 ^ 16) (sym c.loop-shifts.invariant.register) (register_small c.loop-shifts._shifts)

pub loop-shifts-init : goal.loop-shifts-init
loop-shifts-init c = record { long = search rules; each = λ k h. absurd (omega arith); register = sym register_zero }

pub loop-shifts-preserved : goal.loop-shifts-preserved
unfolding randomizer_byte
loop-shifts-preserved c = record {
  long = search rules;
  each = below_more (λ k. get_or c.push.new.self.items k 0 ≡ randomizer_byte k) c.loop-shifts._shifts
      (λ k h. ap (λ xs. get_or xs k 0) c.in_ok-push.ensures.items
      ∙ get_or_append_left c.loop-shifts.bytes.items _ 0 k (omega (
        arith,
        c.loop-shifts.invariant.long,
        c.loop-shifts.bytes.ok.0,
      )) ∙ c.loop-shifts.invariant.each k h)
      (ap (λ xs. get_or xs c.loop-shifts._shifts 0) c.in_ok-push.ensures.items
      ∙ get_or_push c.loop-shifts.bytes.items _ 0 c.loop-shifts._shifts (omega (
        arith,
        c.loop-shifts.invariant.long,
        c.loop-shifts.bytes.ok.0,
      )) ∙ c.tapped.ensures ∙ ap tapped c.loop-shifts.invariant.register);
  register = c.shifted-register.ensures
      ∙ ap (λ (x : ℕ). remainder 16 polynomial 1 (x * 2)) c.loop-shifts.invariant.register
      ∙ sym (register_next c.loop-shifts._shifts);
}

pub invariant_of-result : goal.invariant_of-result
invariant_of-result c =
    let long : length c.loop-shifts.bytes.items ≡ 187 * 312 =
    omega (
      arith,
      c.loop-shifts.invariant.long,
      c.loop-shifts-test.false,
      c.loop-shifts.auto._shifts-end,
      c.loop-shifts.bytes.ok.0,
    ) in
    let each = λ (at : ℕ) (l : at < 187 * 312). c.loop-shifts.invariant.each at (omega (arith, l, long)) in
    record {
      long = long;
      all = randomizer_bytes_by c.loop-shifts.bytes.items long each;
      small = λ at l. subst (λ (x : ℕ). x < 256) (sym (each at (omega (arith, l, long)))) (byte_small at);
    }
