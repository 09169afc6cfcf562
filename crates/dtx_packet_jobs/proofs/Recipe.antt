-- A made stream that is written packet by packet, and how that ends.
use Rattle.std.proofs.Common.{◌≡◌, ℕ, ◌+◌, ◌-◌, ◌≤◌, List, [], ◌∷◌, ◌++◌, sym, ap, subst, ◌∙◌, arith, inr}
use Rattle.std.specs.Prelude.{Option}
use Rattle.dtx_make.proofs.StreamsLemmas.{made_stream_none, made_stream_more, made_stream-parts}
use Rattle.dtx_make.specs.Made.{made_packet, made_stream}
use Rattle.dtx_meaning.proofs.MeaningLemmas.{carried_part}
use Rattle.dtx_meaning.specs.Meaning.{ArePartWritten, IsCarriedOut}
use Rattle.dtx_meaning.specs.Status.{IsFault, ended, of_write}
use Rattle.dtx_meaning.specs.declared.status.Outcome.{Outcome}
use Rattle.dtx_meaning.specs.declared.status.Status.{Status}
use Rattle.dtx_outside.specs.Shelf.{Files, IsWritten, IsGathered, IsPartWritten}
use Rattle.dtx_outside.proofs.WrittenLemmas.{gathered_of_written, part_of_more}
use Rattle.dtx_outside.specs.declared.shelf.WriteNo.{WriteNo}
use Rattle.dtx_outside.specs.declared.shelf.WriteNo.TheVariants.{Failed, Memory}
use Rattle.dtx_recipes.specs.Make.{made_file}

-- nothing is made yet
pub made_none : (start now : Option Files) (output gathered : List ℕ) (seed : ℕ) → gathered ≡ []
    → IsWritten start output [] now → IsGathered start output (made_stream seed 0) gathered now
made_none start now output gathered seed empty is = grind (arith, made_stream_none, gathered_of_written)

-- one more packet
pub made_on : (start now : Option Files) (output gathered bytes : List ℕ) (seed i : ℕ) → bytes ≡ made_packet seed i
    → IsGathered start output (made_stream seed i ++ bytes) gathered now
    → IsGathered start output (made_stream seed (i + 1)) gathered now
made_on start now output gathered bytes seed i is given = grind (arith, made_stream_more)

-- a front part of fewer packets is one of more
pub made_part : (start now : Option Files) (output bytes : List ℕ) (seed i count : ℕ) → i + 1 ≤ count
    → bytes ≡ made_packet seed i → IsPartWritten start output (made_stream seed i ++ bytes) now
    → IsPartWritten start output (made_stream seed count) now
made_part start now output bytes seed i count within is (rest, given) =
    let all : (i + 1) + (count - (i + 1)) ≡ count = omega arith in
    subst (λ b. IsPartWritten start output b now)
    (sym (made_stream-parts seed (i + 1) (count - (i + 1))) ∙ ap (made_stream seed) all)
    (grind (arith, part_of_more, made_on))

write_is_fault : (cause : WriteNo) → IsFault (of_write cause)
write_is_fault Failed = tt
write_is_fault Memory = tt

part_output : (start now : Option Files) (name bytes : List ℕ) → IsPartWritten start name bytes now
    → ArePartWritten ((name, bytes) ∷ []) start now
part_output start now name bytes (rest, is) = inr (is.front, (rest, is.whole), is.file)

-- writing was refused
pub made_unwritten : (start now : Option Files) (output : List ℕ) (seed count : ℕ) (cause : WriteNo) (status : Status)
    (outcome : Outcome) → status ≡ of_write cause → outcome ≡ ended status
    → IsPartWritten start output (made_stream seed count) now
    → IsCarriedOut (made_file seed count output) start outcome now
made_unwritten start now output seed count cause status outcome same is part =
    grind (arith, carried_part, write_is_fault, part_output)
