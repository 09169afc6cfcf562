use Rattle.std.proofs.Common.{◌≡◌, ℕ, ◌+◌, ◌-◌, ◌*◌, ◌<◌, List, length, get_or, sym, ap, ◌∙◌, subst, arith}
use Rattle.dtx_dvb.specs.Randomizer.{sequence, eight_bits}
use Rattle.dtx_dvb.proofs.RandomizerLemmas.{byte_first, byte_sync, byte_else}
use Rattle.dtx_dvb.proofs.RandomizerLemmas.{length-sequence, small_bits}
use Rattle.dtx_dvb.proofs.randomizer.byte_at.Goals as goal

pub returns-then-t-eq0 : goal.returns-then-t-eq0
returns-then-t-eq0 c = byte_first c.args.t c.if-t-eq0.true

pub returns-then-t-eq0-2 : goal.returns-then-t-eq0-2
returns-then-t-eq0-2 c = byte_sync c.args.t c.if-t-eq0.false c.if-t-eq0-2.true

long : (n : ℕ) (bits : List ℕ) → bits ≡ sequence n → length bits ≡ 15 + n
long n bits e = ap length e ∙ length-sequence n

pub byte_of-requires-clause-within : goal.byte_of-requires-clause-within
byte_of-requires-clause-within c =
    omega (arith, c.requires.within, long 12024 c.args.bits.now c.requires.bits)

pub byte_of-requires-clause-small : goal.byte_of-requires-clause-small
byte_of-requires-clause-small c = λ i l.
    subst (λ (s : List ℕ). get_or s i 0 < 2) (sym c.requires.bits)
    (small_bits 12024 i (subst (λ (s : List ℕ). i < length s) c.requires.bits l))

pub returns : goal.returns
returns c =
    c.byte_of.ensures
    ∙ ap (λ (s : List ℕ). eight_bits (λ i. get_or s (15 + 8 * (c.args.t - 1) + i) 0)) c.requires.bits
    ∙ sym (byte_else 12024 c.args.t c.if-t-eq0.false c.if-t-eq0-2.false
    (omega (arith, c.requires.within, c.if-t-eq0.false)))
