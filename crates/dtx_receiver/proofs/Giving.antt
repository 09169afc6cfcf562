-- What a block of a run's bytes gives.
use Rattle.std.proofs.Common.{◌≡◌, ℕ, ◌*◌, ◌/◌, ◌%◌, List, ◌++◌, length, sym, ap, ◌∙◌, append_assoc, lit<, arith}
use Rattle.dtx_whiten.specs.Randomizer.{randomizer_bytes}
use Rattle.dtx_whiten.proofs.BytesLemmas.{length-randomizer_bytes}
use Rattle.dtx_outer.specs.Inner.{IsTaken}
use Rattle.dtx_outer.proofs.MadeLemmas.{IsTold, made_told}
use Rattle.dtx_outer.specs.declared.inner.Taken.{Taken}
use Rattle.dtx_receiver.specs.declared.batch.Received.{Received}
use Rattle.dtx_receiver.specs.Packets.{early_of}
use Rattle.dtx_receiver.proofs.EarlyLemmas.{received_word, early_made}
use Rattle.dtx_receiver.specs.Handed.{handed}

-- where the data of packet k stand in the randomizer's period
place_is : (k : ℕ) → 187 * (k % (length randomizer_bytes / 187)) ≡ 187 * (k % 312)
place_is k = ap (λ n. 187 * (k % (n / 187))) length-randomizer_bytes

is_told : IsTold 207 187 randomizer_bytes received_word handed
is_told = grind (arith, place_is)

-- what the block behind s others brings, by what was taken of it
pub gives : (white before block old head : List ℕ) (s : ℕ) (taken : Taken) → white ≡ randomizer_bytes
    → length before ≡ 207 * s → length block ≡ 207 → IsTaken 207 187 52 4 white before block old head taken
    → early_of (before ++ block) ≡ early_of before ++ handed taken head
gives white before block old head s taken w g l t = sym (early_made (before ++ block))
    ∙ made_told 207 187 52 4 randomizer_bytes received_word handed before block old head s taken (lit< tt)
    (omega arith) (lit< tt) is_told g l (grind arith) ∙ ap (λ xs. xs ++ handed taken head) (early_made before)

-- a batch that holds some of the early packets, with what a block gave
pub with_more : (before after : List ℕ) (given old new brought : List Received)
    → early_of after ≡ early_of before ++ brought → new ≡ old ++ brought
    → early_of before ≡ given ++ old → early_of after ≡ given ++ new
with_more before after given old new brought e f g = rw (e, g, append_assoc given old brought, ← f)
