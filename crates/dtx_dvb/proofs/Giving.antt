-- What a block gives.
use Rattle.std.proofs.Common.{◌≡◌, ℕ, ◌*◌, ◌/◌, ◌%◌, ◌<◌, List, ◌++◌, length, sym, ap, ◌∙◌, subst, lit<, arith}
use Rattle.dtx_outer.specs.Inner.{IsTaken, waiting}
use Rattle.dtx_outer.proofs.MadeLemmas.{IsTold, made_told}
use Rattle.dtx_outer.specs.declared.inner.Taken.{Taken}
use Rattle.dtx_outer.specs.declared.inner.Taken.TheVariants.{None}
use Rattle.dtx_dvb.specs.Read.{Read}
use Rattle.dtx_dvb.specs.Randomizer.{randomizer_bytes}
use Rattle.dtx_dvb.proofs.RandomizerLemmas.{length-randomizer_bytes}
use Rattle.dtx_dvb.specs.Reading.{read_by, read_dvb}
use Rattle.dtx_dvb.proofs.ReadingLemmas.{waiting_dvb, read_word, read_made}
use Rattle.dtx_dvb.specs.Given.{given, finished}

pub few_blocks : (bytes : List ℕ) → length bytes < 204 * 11 → length bytes < 204 * waiting 204 12 17
few_blocks bytes l = subst (λ w. length bytes < 204 * w) (sym waiting_dvb) l

-- what a block gave, with the bytes of its packet finished
abbrev told : Taken → List ℕ → List Read
told taken bytes = given taken (finished taken bytes)

-- where the data of packet k stand in the randomizer's period
place_is : (k : ℕ) → 188 * (k % (length randomizer_bytes / 188)) ≡ 188 * (k % 8)
place_is k = ap (λ n. 188 * (k % (n / 188))) length-randomizer_bytes

is_told : IsTold 204 188 randomizer_bytes read_word told
is_told = grind (arith, place_is)

-- what the block behind s others brings, by what was taken of it
pub gives : (white before block old new : List ℕ) (s : ℕ) (taken : Taken) → white ≡ randomizer_bytes
    → length before ≡ 204 * s → length block ≡ 204 → IsTaken 204 188 12 17 white before block old new taken
    → read_dvb (before ++ block) ≡ read_dvb before ++ given taken (finished taken new)
gives white before block old new s taken w g l t = sym (read_made (before ++ block))
    ∙ made_told 204 188 12 17 randomizer_bytes read_word told before block old new s taken (lit< tt) (omega arith)
    (lit< tt) is_told g l (grind arith) ∙ ap (λ xs. xs ++ told taken new) (read_made before)

-- what a block that gives nothing leaves
pub nothing_finished : (taken : Taken) (old new : List ℕ) → taken ≡ None → new ≡ old → finished taken new ≡ old
nothing_finished taken old new e f = ap (λ t. finished t new) e ∙ f
