-- Lemmas of a file that is written: how a call brings it on, and what stays as it was.
use Rattle.std.specs.Prelude.{◌≡◌, ◌≢◌, ◌⊎◌, ℕ, List, [], ◌++◌, take, drop, Option, Some, None, unwrap_or}
use Rattle.std.specs.Prelude.{Result, Ok, Err, refl}
use Rattle.std.specs.Option.{option_map}
use Rattle.std.specs.FinMap.{get, insert}
use Rattle.std.proofs.Common.{sym, ap, ◌∙◌, subst, inl, inr}
use Rattle.std.proofs.lemmas.List.{append_assoc, append-nil, take-append-drop}
use Rattle.dtx_outside.specs.Shelf.{Files, with_file, added, IsSameAt, IsBegun, IsAppended, IsWritten, IsGathered}
use Rattle.dtx_outside.specs.Shelf.{IsPartWritten, IsFlushOf}
use Rattle.dtx_outside.proofs.FilesLemmas.{get-insert_same, get-insert_other, insert-insert}
use Rattle.dtx_outside.specs.declared.shelf.WriteNo.{WriteNo}
use Rattle.dtx_outside.specs.declared.shelf.WriteNo.TheVariants.{Failed, Memory}

-- bytes added to a file that was set
pub added-with_file : (held : Files) (name bytes more : List ℕ)
    → added name more (with_file name bytes held) ≡ with_file name (bytes ++ more) held
added-with_file held name bytes more =
    insert-insert held name bytes _
    ∙ ap (λ found. insert held name (unwrap_or found [] ++ more)) (get-insert_same held name bytes)

-- every other file stands as it stood when this one was begun
pub IsSameAt-written : (start now : Option Files) (name bytes other : List ℕ) → other ≢ name
    → IsWritten start name bytes now → IsSameAt other start now
IsSameAt-written None now name bytes other apart is = ap (option_map (λ held. get held other)) is
IsSameAt-written (Some held) now name bytes other apart is =
    ap (option_map (λ held. get held other)) is ∙ ap Some (get-insert_other held name bytes other apart)

-- bytes that are added to a file that was written
pub written_more : (start now after : Option Files) (name bytes more : List ℕ) → IsWritten start name bytes now
    → after ≡ option_map (added name more) now → IsWritten start name (bytes ++ more) after
written_more None now after name bytes more is then = then ∙ ap (option_map (added name more)) is
written_more (Some held) now after name bytes more is then =
    then ∙ ap (option_map (added name more)) is ∙ ap Some (added-with_file held name bytes more)

-- what `begin` leaves: the files as they were, or that one written with nothing
pub begun_written : (name : List ℕ) (old : Option Files) (result : Result (Unit {0}) WriteNo) (new : Option Files)
    → IsBegun name old result new
    → (new ≡ old) ⊎ IsWritten old name [] new
begun_written name old (Ok _) new is = inr is
begun_written name old (Err Failed) new is = is
begun_written name old (Err Memory) new is = inl is

-- what `append` leaves of a file that was written
pub written_appended : (start now : Option Files) (name bytes more : List ℕ) (result : Result (Unit {0}) WriteNo)
    (after : Option Files)
    → IsWritten start name bytes now → IsAppended name more now result after
    → IsFlushOf start name (bytes ++ more) result after
written_appended start now name bytes more (Ok _) after is then = written_more start now after name bytes more is then
written_appended start now name bytes more (Err Failed) after is (n, le, then) = (
  drop n more,
  record {
    front = bytes ++ take n more;
    whole = append_assoc bytes (take n more) (drop n more) ∙ ap (λ z. bytes ++ z) (take-append-drop n more);
    file = written_more start now after name bytes (take n more) is then;
  },
)
written_appended start now name bytes more (Err Memory) after is then =
    (more, record { front = bytes; whole = refl; file = then ∙ is })

-- all is written: nothing is gathered
pub gathered_of_written : (start now : Option Files) (name bytes : List ℕ) → IsWritten start name bytes now
    → IsGathered start name bytes [] now
gathered_of_written start now name bytes is = record { front = bytes; whole = append-nil bytes; file = is }

-- more bytes are gathered
pub gathered_more : (start now : Option Files) (name bytes gathered more : List ℕ)
    → IsGathered start name bytes gathered now
    → IsGathered start name (bytes ++ more) (gathered ++ more) now
gathered_more start now name bytes gathered more is = record {
  front = is.front;
  whole = sym (append_assoc is.front gathered more) ∙ ap (λ z. z ++ more) is.whole;
  file = is.file;
}

-- a front part of some bytes is one of more bytes
pub part_of_more : (start now : Option Files) (name bytes more : List ℕ) → IsPartWritten start name bytes now
    → IsPartWritten start name (bytes ++ more) now
part_of_more start now name bytes more (rest, is) = (rest ++ more, gathered_more start now name bytes rest more is)

-- what is gathered, once it is added
pub gathered_appended : (start now : Option Files) (name bytes gathered : List ℕ) (result : Result (Unit {0}) WriteNo)
    (after : Option Files)
    → IsGathered start name bytes gathered now → IsAppended name gathered now result after
    → IsFlushOf start name bytes result after
gathered_appended start now name bytes gathered result after is then =
    rw (← is.whole) (written_appended start now name is.front gathered result after is.file then)

-- what is given is written as far as a front part of it, and the rest is gathered
pub gathered_of_rest : (start now : Option Files) (name given front rest : List ℕ)
    → IsWritten start name (given ++ front) now
    → IsGathered start name (given ++ (front ++ rest)) rest now
gathered_of_rest start now name given front rest is =
    record { front = given ++ front; whole = append_assoc given front rest; file = is }

-- a part of a front part of what is given
pub part_of_front : (start now : Option Files) (name given front rest : List ℕ)
    → IsPartWritten start name (given ++ front) now
    → IsPartWritten start name (given ++ (front ++ rest)) now
part_of_front start now name given front rest is =
    subst (λ bytes. IsPartWritten start name bytes now) (append_assoc given front rest)
    (part_of_more start now name (given ++ front) rest is)
