-- Lemmas of what is written of a feed: of more packets more is written behind.
use Rattle.std.proofs.Common.{◌≡◌, ℕ, zero, suc, ◌+◌, ◌-◌, ◌*◌, ◌<◌, ◌≤◌, Option, Some, None, List, [], ◌∷◌, ◌++◌}
use Rattle.std.proofs.Common.{length, take, get_or, sym, ap, ap₂, ◌∙◌, arith}
use Rattle.std.specs.List.{range_with_len, flat_map}
use Rattle.std.proofs.Math.Seq.{take-suc}
use Rattle.std.proofs.lemmas.List.{length-append, append-nil, append_assoc}
use Rattle.std.proofs.lemmas.List.Sums.{sum_by-append, sum_by-cons}
use Rattle.dtx_exciter.specs.Packets.{group_part}
use Rattle.dtx_watch.specs.Notes.{one_or_none}
use Rattle.dtx_watch.proofs.ToldLemmas.{to_parts}
use Rattle.dtx_watch.specs.Watch.{notes_at, notes_to, told, waiting}
use Rattle.dtx_watch.proofs.WatchLinesLemmas.{watch_text-append}
use Rattle.dtx_watch.specs.WatchText.{note_text, watch_text}
use Rattle.dtx_watch.specs.declared.notes.Note.{Note}
use Rattle.dtx_watch.specs.declared.notes.NoteKind.{NoteKind}
use Rattle.dtx_watch.specs.declared.notes.NoteKind.TheVariants.{Lock, Lost, Unread, Stray, Ops}
use Rattle.dtx_watch.specs.declared.notes.StatesNote.{StatesNote}
use Rattle.dtx_watch.specs.declared.notes.StatesNote.TheVariants as states
use Rattle.dtx_watch.specs.declared.notes.ClockNote.{ClockNote}
use Rattle.dtx_watch.specs.declared.notes.ClockNote.TheVariants as clock
use Rattle.dtx_recipes.specs.Watch.{waiting_bytes, count_of, watch_tally, one_ops, one_slip, one_jump, slips_of}
use Rattle.dtx_recipes.specs.Watch.{jumps_of, one_unread, one_stray, tally_of_one, tally_with, HasRoom}
use Rattle.dtx_recipes.specs.declared.watch_tally.WatchTally.{WatchTally}

-- ---- the bytes

pub waiting_is : (packets : List (List ℕ)) (given : List Note) → given ≡ waiting packets
    → watch_text given ≡ waiting_bytes packets
unfolding waiting_bytes
waiting_is packets given e = ap watch_text e

-- ---- how many notes there are

one_at_most : (o : Option Note) → length (one_or_none o) ≤ 1
one_at_most None = omega arith
one_at_most (Some note) = omega arith

two_at_most : (d : List (List ℕ)) (k : ℕ) → length (notes_at d k) ≤ 2
unfolding notes_at
two_at_most d k = grind (arith, length-append, one_at_most)

few_notes : (d : List (List ℕ)) (n : ℕ) → length (notes_to d n) ≤ 2 * n
unfolding notes_to
few_notes d zero = omega arith
few_notes d (suc n) =
    let e : n + 1 ≡ suc n = omega arith in
    omega (
      arith,
      ap (λ (m : ℕ). length (notes_to d m)) e,
      ap (λ (ns : List Note). length ns) (to_parts d n 1),
      length-append (notes_to d n) (flat_map (notes_at d) (range_with_len n 1)),
      ap (λ (ns : List Note). length ns) (append-nil (notes_at d n)),
      two_at_most d n,
      few_notes d n,
    )

pub few_told : (d : List (List ℕ)) → length (told d) ≤ 2 * length d
few_told d = omega (arith, few_notes d (length d - group_part d))

count_few : (one : NoteKind → ℕ) → ((w : NoteKind) → one w ≤ 1) → (notes : List Note)
    → count_of one notes ≤ length notes
count_few one h [] = omega arith
count_few one h (note ∷ notes) = omega (
  arith,
  h note.what,
  count_few one h notes,
  sum_by-cons (λ (x : Note). one x.what) note notes,
)

ops_few : (w : NoteKind) → one_ops w ≤ 1
ops_few Lock = omega arith
ops_few Lost = omega arith
ops_few (Unread refusal) = omega arith
ops_few (Stray frame index) = omega arith
ops_few (Ops o) = omega arith

slip_few : (x : StatesNote) → one_slip x ≤ 1
slip_few states.Early = omega arith
slip_few states.First = omega arith
slip_few states.Right = omega arith
slip_few states.Slip = omega arith

slips_few : (w : NoteKind) → slips_of w ≤ 1
slips_few Lock = omega arith
slips_few Lost = omega arith
slips_few (Unread refusal) = omega arith
slips_few (Stray frame index) = omega arith
slips_few (Ops o) = slip_few o.states

jump_few : (x : ClockNote) → one_jump x ≤ 1
jump_few clock.First = omega arith
jump_few clock.Right = omega arith
jump_few clock.Jump = omega arith

jumps_few : (w : NoteKind) → jumps_of w ≤ 1
jumps_few Lock = omega arith
jumps_few Lost = omega arith
jumps_few (Unread refusal) = omega arith
jumps_few (Stray frame index) = omega arith
jumps_few (Ops o) = jump_few o.clock

unread_few : (w : NoteKind) → one_unread w ≤ 1
unread_few Lock = omega arith
unread_few Lost = omega arith
unread_few (Unread refusal) = omega arith
unread_few (Stray frame index) = omega arith
unread_few (Ops o) = omega arith

stray_few : (w : NoteKind) → one_stray w ≤ 1
stray_few Lock = omega arith
stray_few Lost = omega arith
stray_few (Unread refusal) = omega arith
stray_few (Stray frame index) = omega arith
stray_few (Ops o) = omega arith

-- as many packets as a stream has, and what is told of them, and five notes more can be counted
pub has_room : (d : List (List ℕ)) (tally : WatchTally) (n : ℕ) → tally ≡ watch_tally n (told d)
    → length d ≤ 624000000 → n ≤ 624000000 → HasRoom tally 5
has_room d tally n e l m = grind (arith, few_told, count_few, ops_few, slips_few, jumps_few, unread_few, stray_few)

-- behind at most four of five notes there is room for one
pub room_within : (t : WatchTally) (xs : List Note) → length xs ≤ 4 → HasRoom t 5 → HasRoom (tally_with t xs) 1
room_within t xs l h = grind (arith, count_few, ops_few, slips_few, jumps_few, unread_few, stray_few)

-- ---- the numbers

pub same_numbers : (p o s j u t a b c d e : ℕ) → o ≡ a → s ≡ b → j ≡ c → u ≡ d → t ≡ e
    → ◌≡◌ {A = WatchTally} (record { packets = p; ops = o; slips = s; jumps = j; unread = u; stray = t })
    (record { packets = p; ops = a; slips = b; jumps = c; unread = d; stray = e })
same_numbers p o s j u t a b c d e h1 h2 h3 h4 h5 = cc (h1, h2, h3, h4, h5)

-- the notes that are counted first, and then others
pub tally_parts : (n : ℕ) (xs ys : List Note) → tally_with (watch_tally n xs) ys ≡ watch_tally n (xs ++ ys)
tally_parts n xs ys = grind (arith, same_numbers, sum_by-append)

count_more : (one : NoteKind → ℕ) (m : ℕ) (xs ys : List Note)
    → m + count_of one xs + count_of one ys ≡ m + count_of one (xs ++ ys)
count_more one m xs ys = omega (arith, sum_by-append (λ (note : Note). one note.what) xs ys)

pub tally_more : (t : WatchTally) (xs ys : List Note) → tally_with (tally_with t xs) ys ≡ tally_with t (xs ++ ys)
tally_more t xs ys =
    same_numbers t.packets _ _ _ _ _ _ _ _ _ _ (count_more one_ops t.ops xs ys) (count_more slips_of t.slips xs ys)
    (count_more jumps_of t.jumps xs ys) (count_more one_unread t.unread xs ys) (count_more one_stray t.stray xs ys)

-- one note
pub tally_one : (t : WatchTally) (note : Note) → tally_of_one t note.what ≡ tally_with t (note ∷ [])
tally_one t note = grind (arith, same_numbers)

-- ---- one note of some more

next_front : (ns : List Note) (i : ℕ) (d : Note) → i < length ns → take (i + 1) ns ≡ take i ns ++ get_or ns i d ∷ []
next_front ns i d h = let e : i + 1 ≡ suc i = omega arith in ap (λ n. take n ns) e ∙ take-suc ns i d h

pub lines_next : (start lines new : List ℕ) (ns : List Note) (i : ℕ) (d note : Note) → i < length ns
    → note ≡ get_or ns i d → lines ≡ start ++ watch_text (take i ns) → new ≡ lines ++ note_text note
    → new ≡ start ++ watch_text (take (i + 1) ns)
lines_next start lines new ns i d note h e so_far next = grind (arith, append_assoc) ∙ ap (λ z. start ++ z)
    (sym (ap watch_text (next_front ns i d h) ∙ watch_text-append (take i ns) (get_or ns i d ∷ [])
    ∙ ap (λ z. watch_text (take i ns) ++ z) (append-nil (note_text (get_or ns i d)) ∙ ap note_text (sym e))))

pub tally_next : (start tally new : WatchTally) (ns : List Note) (i : ℕ) (d note : Note) → i < length ns
    → note ≡ get_or ns i d → tally ≡ tally_with start (take i ns) → new ≡ tally_of_one tally note.what
    → new ≡ tally_with start (take (i + 1) ns)
tally_next start tally new ns i d note h e so_far next = next ∙ ap₂ (λ t (x : Note). tally_of_one t x.what) so_far e
    ∙ tally_one (tally_with start (take i ns)) (get_or ns i d)
    ∙ tally_more start (take i ns) (get_or ns i d ∷ [])
    ∙ ap (tally_with start) (sym (next_front ns i d h))
