-- What `watch` answers and writes of all packets of a file, and its numbers by the text.
use Rattle.std.proofs.Common.{◌≡◌, ℕ, ◌+◌, ◌*◌, ◌%◌, ◌≤◌, List, [], ◌∷◌, ◌++◌, length, map, take, get_or, cond}
use Rattle.std.proofs.Common.{refl, sym, ap, ap₂, ◌∙◌, arith}
use Rattle.std.specs.Prelude.{codes, min, None}
use Rattle.std.specs.List.{range_with_len, sum_by}
use Rattle.std.specs.Str.{bytes_eq}
use Rattle.std.proofs.lemmas.List.Sums.{sum_by-append, sum_by-cons}
use Rattle.dtx_packets.proofs.PacketLemmas.{packets_of-piece}
use Rattle.dtx_packets.specs.Packets.{packets_of, whole_packets}
use Rattle.dtx_watch.proofs.ToldLemmas.{all_told}
use Rattle.dtx_watch.specs.Watch.{watch, told, waiting}
use Rattle.dtx_watch.specs.WatchText.{first_word, later_words, lines_with, note_words, states_word, clock_word}
use Rattle.dtx_watch.specs.WatchText.{watch_text}
use Rattle.dtx_watch.proofs.WatchLinesLemmas.{watch_text-append, words_of-watch_text}
use Rattle.dtx_watch.specs.declared.notes.ClockNote.{ClockNote}
use Rattle.dtx_watch.specs.declared.notes.ClockNote.TheVariants as clock
use Rattle.dtx_watch.specs.declared.notes.Note.{Note}
use Rattle.dtx_watch.specs.declared.notes.StatesNote.{StatesNote}
use Rattle.dtx_watch.specs.declared.notes.StatesNote.TheVariants as states
use Rattle.dtx_watch.specs.declared.notes.NoteKind.{NoteKind}
use Rattle.dtx_watch.specs.declared.notes.NoteKind.TheVariants as what
use Rattle.dtx_engine.specs.Made.{only, outputs_of}
use Rattle.dtx_engine.specs.Recipe.{first_refused, meaning_of_file}
use Rattle.dtx_forms.proofs.AllowedFileLemmas.{all_read, none_found}
use Rattle.dtx_forms.specs.Shapes.{single_packets}
use Rattle.dtx_forms.proofs.FilePacketsLemmas.{length-packets_of}
use Rattle.dtx_recipes.specs.Watch.{watched_bytes, waiting_bytes, count_of, watch_tally, watch_answer, watching}
use Rattle.dtx_recipes.specs.Watch.{one_ops, one_slip, one_jump, slips_of, jumps_of, one_unread, one_stray}
use Rattle.dtx_jobs.proofs.WatchLemmas.{same_numbers}
use Rattle.dtx_recipes.specs.WatchedFeed.{tally_of_text, watched_of}

-- ---- the numbers

-- whether a note's line has this word at this place, as a number
abbrev has_word : ℕ → List ℕ → List (List ℕ) → ℕ
has_word place word words = cond (bytes_eq (get_or words place []) word) 1 0

ops_word : (k : ℕ) (w : NoteKind) → has_word 0 (codes "ops") (first_word w ∷ later_words k w) ≡ one_ops w
ops_word k what.Lock = refl
ops_word k what.Lost = refl
ops_word k (what.Unread refusal) = refl
ops_word k (what.Stray frame index) = refl
ops_word k (what.Ops o) = refl

unread_word : (k : ℕ) (w : NoteKind) → has_word 0 (codes "unread") (first_word w ∷ later_words k w) ≡ one_unread w
unread_word k what.Lock = refl
unread_word k what.Lost = refl
unread_word k (what.Unread refusal) = refl
unread_word k (what.Stray frame index) = refl
unread_word k (what.Ops o) = refl

stray_word : (k : ℕ) (w : NoteKind) → has_word 0 (codes "stray") (first_word w ∷ later_words k w) ≡ one_stray w
stray_word k what.Lock = refl
stray_word k what.Lost = refl
stray_word k (what.Unread refusal) = refl
stray_word k (what.Stray frame index) = refl
stray_word k (what.Ops o) = refl

is_slip : (s : StatesNote) → cond (bytes_eq (states_word s) (codes "slip")) 1 0 ≡ one_slip s
is_slip states.Early = refl
is_slip states.First = refl
is_slip states.Right = refl
is_slip states.Slip = refl

is_jump : (c : ClockNote) → cond (bytes_eq (clock_word c) (codes "jump")) 1 0 ≡ one_jump c
is_jump clock.First = refl
is_jump clock.Right = refl
is_jump clock.Jump = refl

slip_word : (k : ℕ) (w : NoteKind) → has_word 7 (codes "slip") (first_word w ∷ later_words k w) ≡ slips_of w
slip_word k what.Lock = refl
slip_word k what.Lost = refl
slip_word k (what.Unread refusal) = refl
slip_word k (what.Stray frame index) = refl
slip_word k (what.Ops o) = is_slip o.states

jump_word : (k : ℕ) (w : NoteKind) → has_word 8 (codes "jump") (first_word w ∷ later_words k w) ≡ jumps_of w
jump_word k what.Lock = refl
jump_word k what.Lost = refl
jump_word k (what.Unread refusal) = refl
jump_word k (what.Stray frame index) = refl
jump_word k (what.Ops o) = is_jump o.clock

-- notes and their lines
notes_counted : (f : List (List ℕ) → ℕ) (one : NoteKind → ℕ)
    → ((k : ℕ) (w : NoteKind) → f (first_word w ∷ later_words k w) ≡ one w)
    → (notes : List Note) → sum_by f (map note_words notes) ≡ count_of one notes
notes_counted f one same [] = refl
notes_counted f one same (note ∷ notes) = sum_by-cons f (note_words note) (map note_words notes)
    ∙ ap₂ (λ (m n : ℕ). m + n) (same note.packet note.what) (notes_counted f one same notes)
    ∙ sym (sum_by-cons (λ (x : Note). one x.what) note notes)

lines_counted : (place : ℕ) (word : List ℕ) (one : NoteKind → ℕ)
    → ((k : ℕ) (w : NoteKind) → has_word place word (first_word w ∷ later_words k w) ≡ one w)
    → has_word place word ([] ∷ []) ≡ 0 → (notes : List Note)
    → count_of one notes ≡ lines_with place word (watch_text notes)
unfolding lines_with
lines_counted place word one same none notes =
    grind (arith, words_of-watch_text, sum_by-append, notes_counted, sum_by-cons)

pub tally_told : (n : ℕ) (notes : List Note) → watch_tally n notes ≡ tally_of_text n (watch_text notes)
tally_told n notes = same_numbers n _ _ _ _ _ _ _ _ _ _ (lines_counted 0 (codes "ops") one_ops ops_word refl notes)
    (grind (arith, lines_counted, slip_word)) (lines_counted 8 (codes "jump") jumps_of jump_word refl notes)
    (lines_counted 0 (codes "unread") one_unread unread_word refl notes)
    (lines_counted 0 (codes "stray") one_stray stray_word refl notes)

-- ---- the file

all_allowed : (file : List ℕ) → first_refused single_packets watching file ≡ None
unfolding first_refused
all_allowed file = none_found (range_with_len 0 (min (whole_packets file) single_packets.limit))

-- what is told of some packets, and what waits, are all their lines
all_lines : (packets : List (List ℕ)) → watched_bytes packets ++ waiting_bytes packets ≡ watch_text (watch packets)
unfolding watched_bytes waiting_bytes
all_lines packets = sym (ap watch_text (all_told packets) ∙ watch_text-append (told packets) (waiting packets))

pub notes_watched : (names : List (List ℕ)) (file : List ℕ) → whole_packets file ≤ 624000000
    → meaning_of_file single_packets watching names file ≡ record {
      outcome = watch_answer (packets_of file) (length file % 188);
      outputs = outputs_of names (only (watch_text (watch (packets_of file))));
    }
notes_watched names file few =
    let n : ℕ = whole_packets file in
    let front : packets_of (take (188 * n) file) ≡ packets_of file = packets_of-piece file 0 n (omega arith) in
    cc (all_read single_packets watching names file (all_allowed file) few, front, all_lines (packets_of file))

pub all_watched : (names : List (List ℕ)) (file : List ℕ) → whole_packets file ≤ 624000000
    → meaning_of_file single_packets watching names file ≡ watched_of names file
all_watched names file few =
    let notes : List Note = watch (packets_of file) in
    cc (notes_watched names file few, length-packets_of file, tally_told (whole_packets file) notes)
