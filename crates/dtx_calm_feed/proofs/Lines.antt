-- What is told of each packet is so.
use Rattle.std.proofs.Common.{◌≡◌, ℕ, zero, suc, ◌+◌, ◌-◌, ◌*◌, ◌/◌, ◌%◌, ◌<◌, ◌≤◌, Option, Some, None, Result, Ok, Err}
use Rattle.std.proofs.Common.{List, [], ◌∷◌, ◌++◌, length, take, drop, get_or, arith, eqb-true, get_or-drop}
use Rattle.std.proofs.Common.{length-take-le}
use Rattle.std.specs.List.{AllByRecursion, flat_map, range_with_len}
use Rattle.std.proofs.lemmas.Bool.{cond-false, cond-true, eqb-false}
use Rattle.dtx_ops.specs.Reading.{reading}
use Rattle.dtx_ops.specs.declared.fields.Ops.{Ops}
use Rattle.dtx_ops.specs.declared.refusal.OpsNo.{OpsNo}
use Rattle.dtx_ops.specs.declared.refusal.OpsNo.TheVariants.{NotOps, Uncorrectable, Kind, Pad, Stamp, Delay, Index}
use Rattle.dtx_ops.specs.declared.refusal.OpsNo.TheVariants.{Count, Twice, Fill, Page}
use Rattle.dtx_exciter.specs.Packets.{anchor_of}
use Rattle.dtx_watch.proofs.AnchorsLemmas.{below}
use Rattle.dtx_watch.specs.Notes.{one_or_none, packet_note}
use Rattle.dtx_watch.specs.Watch.{expected_at, note_under, notes_at, notes_to, reading_note, stamped_before, watch}
use Rattle.dtx_watch.specs.declared.notes.Note.{Note}
use Rattle.dtx_calm_feed.specs.Said.{IsSaid}
use Rattle.dtx_calm_feed.proofs.Told.{clock_said, states_said}

-- ---- what a packet reads as

-- under an anchor
locked_said : (d : List (List ℕ)) (k a : ℕ) (r : Result Ops OpsNo) → anchor_of (take (k + 1) d) ≡ Some a
    → reading (get_or d k []) ≡ r → AllByRecursion (IsSaid d) (one_or_none (packet_note k (Some ((k - a) % 624))
    (expected_at (drop a d) (4 * ((k - a) / 4))) (stamped_before (drop a d) (k - a)) r))
locked_said d k a (Ok ops) n e = grind (arith, cond-true, eqb-true, states_said, clock_said, cond-false, eqb-false)
locked_said d k a (Err NotOps) n e = tt
locked_said d k a (Err Uncorrectable) n e = ((e, λ q. cc), tt)
locked_said d k a (Err Kind) n e = ((e, λ q. cc), tt)
locked_said d k a (Err Pad) n e = ((e, λ q. cc), tt)
locked_said d k a (Err Stamp) n e = ((e, λ q. cc), tt)
locked_said d k a (Err Delay) n e = ((e, λ q. cc), tt)
locked_said d k a (Err Index) n e = ((e, λ q. cc), tt)
locked_said d k a (Err Count) n e = ((e, λ q. cc), tt)
locked_said d k a (Err Twice) n e = ((e, λ q. cc), tt)
locked_said d k a (Err Fill) n e = ((e, λ q. cc), tt)
locked_said d k a (Err Page) n e = ((e, λ q. cc), tt)

reading_said : (d : List (List ℕ)) (k : ℕ) (now : Option ℕ) → k < length d → anchor_of (take (k + 1) d) ≡ now
    → AllByRecursion (IsSaid d) (one_or_none (reading_note d k now))
unfolding note_under expected_at
reading_said d k None l n = grind arith
reading_said d k (Some a) l n = grind (arith, length-take-le, below, locked_said, get_or-drop)

-- ---- all packets

both : (P : Note → Type 0) (xs ys : List Note) → AllByRecursion P xs → AllByRecursion P ys → AllByRecursion P (xs ++ ys)
both P [] ys h k = k
both P (x ∷ xs) ys h k = (h.0, both P xs ys h.1 k)

range_said : (P : Note → Type 0) (f : ℕ → List Note) (a n : ℕ)
    → ((k : ℕ) → a ≤ k → k < a + n → AllByRecursion P (f k)) → AllByRecursion P (flat_map f (range_with_len a n))
range_said P f a zero h = tt
range_said P f a (suc n) h = both P (f a) (flat_map f (range_with_len (a + 1) n)) (h a (omega arith) (omega arith))
    (range_said P f (a + 1) n (λ k l m. h k (omega arith) (omega arith)))

pub all_said : (d : List (List ℕ)) → AllByRecursion (IsSaid d) (watch d)
unfolding notes_to notes_at
all_said d = range_said (IsSaid d) (notes_at d) 0 (length d) (λ k l m. (grind (arith, both, reading_said)))
