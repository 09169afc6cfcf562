-- What a sink has taken after several calls.
use Rattle.std.proofs.Common.{◌≡◌, ℕ, ◌+◌, ◌≤◌, ◌<◌, ◌-◌, suc, List, ◌++◌, ◌∷◌, length, take, drop, refl, sym, ap, ◌∙◌}
use Rattle.std.proofs.Common.{append_assoc, arith, get_or}
use Rattle.std.specs.Prelude.{Option, Some, None, Result, Ok, Err}
use Rattle.std.specs.Borrow.{Bor}
use Rattle.std.proofs.Math.Seq.{take-add, take-append-add, drop-cons}
use Rattle.std.proofs.lemmas.Slice.{between_to_end}
use Rattle.std.proofs.lemmas.Grind.{flat_map-append}
use Rattle.std.proofs.lemmas.List.Concat.{flat_map-cons}
use Rattle.std.proofs.Common.{[], append-nil}
use Rattle.std.proofs.lemmas.List.{length-drop, length-append, take-append-le, take-append-drop, take_more}
use Rattle.dtx_outside.specs.declared.sink.SinkNo.{SinkNo}
use Rattle.dtx_outside.specs.declared.sink.SinkNo.TheVariants.{Failed, Memory}
use Rattle.dtx_outside.specs.Sink.{IsPrinted}
use Rattle.dtx_words.specs.Printed.{printed, text_of, IsPut}

-- one text behind another
pub printed-printed : (o : Option (List ℕ)) (first second : List ℕ)
    → printed second (printed first o) ≡ printed (first ++ second) o
printed-printed None first second = refl
printed-printed (Some before) first second = ap Some (append_assoc before first second)

-- a loop that prints what is left
pub put_more : (bytes : List ℕ) (done n : ℕ) (w0 w1 w2 : Option (List ℕ)) → w1 ≡ printed (take done bytes) w0
    → w2 ≡ printed (take n (drop done bytes)) w1 → w2 ≡ printed (take (done + n) bytes) w0
put_more bytes done n w0 w1 w2 first next = grind (arith, printed-printed, take-add)

-- where such a loop is refused
pub put_refused : (bytes rest : List ℕ) (done : ℕ) (cause : SinkNo) (w0 w1 w2 : Option (List ℕ))
    → rest ≡ drop done bytes → done ≤ length bytes → w1 ≡ printed (take done bytes) w0
    → IsPrinted rest w1 (Err cause) w2 → (n : ℕ) × (n ≤ length bytes) × (w2 ≡ printed (take n bytes) w0)
put_refused bytes rest done Failed w0 w1 w2 is within first left = (
  done + left.0,
  omega (arith, left.1, ap length is, length-drop done bytes),
  put_more bytes done left.0 w0 w1 w2 first (left.2 ∙ ap (λ z. printed (take left.0 z) w1) is),
)
put_refused bytes rest done Memory w0 w1 w2 is within first left = (done, within, left ∙ first)

front : (a p r : List ℕ) (n : ℕ) → n ≤ length p → a ++ take n p ≡ take (length a + n) (a ++ (p ++ r))
front a p r n within = sym (take-append-add a (p ++ r) n ∙ ap (λ z. a ++ z) (take-append-le n p r within))

-- where a loop over pieces is refused
pub put_all_refused : (all before piece after : List ℕ) (cause : SinkNo) (w0 w1 w2 : Option (List ℕ))
    → all ≡ before ++ (piece ++ after) → w1 ≡ printed before w0
    → IsPut piece w1 (Err cause) w2 → (n : ℕ) × (n ≤ length all) × (w2 ≡ printed (take n all) w0)
put_all_refused all before piece after cause w0 w1 w2 whole first left = (
  length before + left.0,
  omega (arith, left.1, ap length whole, length-append before (piece ++ after), length-append piece after),
  left.2 ∙ ap (printed (take left.0 piece)) first ∙ printed-printed w0 before (take left.0 piece)
      ∙ ap (λ t. printed t w0) (front before piece after left.0 left.1
      ∙ ap (take (length before + left.0)) (sym whole)),
)

-- a loop over pieces
pub put_all_more : (pieces : List (Bor (List ℕ))) (i : ℕ) (d : Bor (List ℕ)) (piece : List ℕ)
    (w0 w1 w2 : Option (List ℕ)) → i < length pieces → piece ≡ (get_or pieces i d).now
    → w1 ≡ printed (text_of (take i pieces)) w0
    → w2 ≡ printed piece w1 → w2 ≡ printed (text_of (take (i + 1) pieces)) w0
put_all_more pieces i d piece w0 w1 w2 within is first next =
    let before = text_of (take i pieces) in
    next ∙ ap (printed piece) first ∙ printed-printed w0 before piece ∙ ap (λ t. printed t w0) (ap (λ z. before ++ z) is
    ∙ sym (ap text_of (take_more pieces i d within)
    ∙ flat_map-append (λ piece. piece.now) (take i pieces) (get_or pieces i d ∷ [])
    ∙ ap (λ z. before ++ z) (append-nil (get_or pieces i d).now)))

-- the rest of a slice
pub rest_is : (bytes : List ℕ) (done : ℕ) → take (length bytes - done) (drop done bytes) ≡ drop done bytes
rest_is bytes done = between_to_end bytes done (length bytes) (omega arith)

-- the pieces before one, it, and those after it
pub text_of-split : (pieces : List (Bor (List ℕ))) (i : ℕ) (d : Bor (List ℕ)) → i < length pieces
    → text_of pieces ≡ text_of (take i pieces) ++ ((get_or pieces i d).now ++ text_of (drop (suc i) pieces))
text_of-split pieces i d within =
    ap text_of (sym (take-append-drop i pieces) ∙ ap (λ z. take i pieces ++ z) (drop-cons pieces i d within))
    ∙ grind (arith, flat_map-append, flat_map-cons)

-- ---- pieces of a text

-- nothing behind it
pub printed-none : (o : Option (List ℕ)) → printed [] o ≡ o
printed-none None = refl
printed-none (Some before) = ap Some (append-nil before)

-- a prefix of the text was printed, and `rest` is left
pub record IsSoFar (text rest : List ℕ) (old new : Option (List ℕ)) : Type 0 where
  pub front : List ℕ
  pub whole : front ++ rest ≡ text
  pub written : new ≡ printed front old

-- nothing was printed yet
pub so_far_none : (text : List ℕ) (old : Option (List ℕ)) → IsSoFar text text old old
so_far_none text old = record { front = []; whole = refl; written = sym (printed-none old) }

-- the next piece was printed
pub so_far_then : (text rest piece further : List ℕ) (w0 w1 w2 : Option (List ℕ)) → rest ≡ piece ++ further
    → IsSoFar text rest w0 w1 → w2 ≡ printed piece w1 → IsSoFar text further w0 w2
so_far_then text rest piece further w0 w1 w2 split so_far then = record {
  front = so_far.front ++ piece;
  whole = append_assoc so_far.front piece further ∙ ap (λ z. so_far.front ++ z) (sym split) ∙ so_far.whole;
  written = then ∙ ap (printed piece) so_far.written ∙ printed-printed w0 so_far.front piece;
}

-- the next piece was refused
pub so_far_refused : (text rest piece further : List ℕ) (cause : SinkNo) (w0 w1 w2 : Option (List ℕ))
    → rest ≡ piece ++ further → IsSoFar text rest w0 w1
    → IsPut piece w1 (Err cause) w2 → (n : ℕ) × (n ≤ length text) × (w2 ≡ printed (take n text) w0)
so_far_refused text rest piece further cause w0 w1 w2 split so_far put =
    put_all_refused text so_far.front piece further cause w0 w1 w2 (grind arith) so_far.written put

-- the same of what is left under another name
pub so_far_as : (text rest other : List ℕ) (w0 w1 : Option (List ℕ)) → rest ≡ other → IsSoFar text rest w0 w1
    → IsSoFar text other w0 w1
so_far_as text rest other w0 w1 same so_far = grind (arith, front)

-- all was printed
pub so_far_all : (text : List ℕ) (w0 w1 : Option (List ℕ)) → IsSoFar text [] w0 w1 → w1 ≡ printed text w0
so_far_all text w0 w1 so_far = so_far.written ∙ ap (λ z. printed z w0) (sym (append-nil so_far.front) ∙ so_far.whole)

-- the last piece
pub so_far_last : (text piece : List ℕ) (r : Result (Unit {0}) SinkNo) (w0 w1 w2 : Option (List ℕ))
    → IsSoFar text piece w0 w1 → IsPut piece w1 r w2 → IsPut text w0 r w2
so_far_last text piece (Ok u) w0 w1 w2 so_far put =
    so_far_all text w0 w2 (so_far_then text piece piece [] w0 w1 w2 (sym (append-nil piece)) so_far put)
so_far_last text piece (Err cause) w0 w1 w2 so_far put =
    so_far_refused text piece piece [] cause w0 w1 w2 (sym (append-nil piece)) so_far put
