use Rattle.std.proofs.Common.{◌≡◌, ℕ, ◌+◌, ◌++◌, [], ◌∷◌, List, length, get_or, bit_xor, sym, ap, ap₂, ◌∙◌}
use Rattle.std.proofs.Common.{arith, add-one}
use Rattle.std.proofs.lemmas.List.{get_or_default}
use Rattle.dtx_dvb.specs.Randomizer.{loaded, sequence}
use Rattle.dtx_dvb.proofs.RandomizerLemmas.{length-sequence}
use Rattle.dtx_dvb.proofs.RandomizerLemmas.{sequence_next}
use Rattle.dtx_dvb.proofs.randomizer.period_bits.Goals as goal

pub loop-t-init : goal.loop-t-init
unfolding sequence loaded
loop-t-init c = c.in_ok-bits.ensures.items

long : (n : ℕ) (bits : List ℕ) → bits ≡ sequence n → length bits ≡ 15 + n
long n bits e = ap length e ∙ length-sequence n

pub index-requires : goal.index-requires
index-requires c = omega (arith, long c.loop-t.t c.loop-t.bits.items c.loop-t.invariant, c.loop-t.bits.ok.0)

pub index-requires-in-loop-t : goal.index-requires-in-loop-t
index-requires-in-loop-t c = omega (arith, long c.loop-t.t c.loop-t.bits.items c.loop-t.invariant, c.loop-t.bits.ok.0)

next : (n : ℕ) (bits : List ℕ) (a b : ℕ) → bits ≡ sequence n → a ≡ get_or bits (n + 1) a → b ≡ get_or bits n b
    → bits ++ (bit_xor a b) ∷ [] ≡ sequence (n + 1)
next n bits a b e f g =
    ap₂ (λ (i j : ℕ). bits ++ (bit_xor i j) ∷ [])
    (f ∙ get_or_default bits (n + 1) a 0 (omega (arith, long n bits e)))
    (g ∙ get_or_default bits n b 0 (omega (arith, long n bits e)))
    ∙ ap (λ s. s ++ (bit_xor (get_or s (n + 1) 0) (get_or s n 0)) ∷ []) e
    ∙ sym (sequence_next n)
    ∙ ap sequence (sym (add-one n))

pub loop-t-preserved : goal.loop-t-preserved
loop-t-preserved c =
    c.in_ok-push.ensures.items
    ∙ next c.loop-t.t c.loop-t.bits.items c.index.result.now c.index-in-loop-t.result.now c.loop-t.invariant
    c.index.ensures c.index-in-loop-t.ensures
