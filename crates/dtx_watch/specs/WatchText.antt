-- The text of the notes on a feed (the profile's own).
use Rattle.std.specs.Prelude.{ℕ, List, [], ◌∷◌, ◌++◌, codes, decimal, flat_map, ◌==◌, map, slice_index_or}
use Rattle.dtx_ops.specs.declared.refusal.OpsNo.{OpsNo}
use Rattle.dtx_ops.specs.declared.refusal.OpsNo.TheVariants.{NotOps, Uncorrectable, Kind, Pad, Stamp, Delay, Index}
use Rattle.dtx_ops.specs.declared.refusal.OpsNo.TheVariants.{Count, Twice, Fill, Page}
use Rattle.dtx_watch.specs.declared.notes.Note.{Note}
use Rattle.dtx_watch.specs.declared.notes.NoteKind.{NoteKind}
use Rattle.dtx_watch.specs.declared.notes.NoteKind.TheVariants as what
use Rattle.dtx_watch.specs.declared.notes.StatesNote.{StatesNote}
use Rattle.dtx_watch.specs.declared.notes.StatesNote.TheVariants as states
use Rattle.dtx_watch.specs.declared.notes.ClockNote.{ClockNote}
use Rattle.dtx_watch.specs.declared.notes.ClockNote.TheVariants as clock
use Rattle.std.specs.List.{slice_split, count_by}
use Rattle.std.specs.Str.{bytes_eq}

-- the number of the rule that refuses a packet
abbrev pub rule_number : OpsNo → ℕ
rule_number NotOps = 1
rule_number Uncorrectable = 2
rule_number Kind = 3
rule_number Pad = 4
rule_number Stamp = 5
rule_number Delay = 6
rule_number Index = 7
rule_number Count = 8
rule_number Twice = 9
rule_number Fill = 10
rule_number Page = 11

-- the word for a note on states
abbrev pub states_word : StatesNote → List ℕ
states_word states.Early = codes "early"
states_word states.First = codes "first"
states_word states.Right = codes "right"
states_word states.Slip = codes "slip"

-- the word for a note on a stamp
abbrev pub clock_word : ClockNote → List ℕ
clock_word clock.First = codes "first"
clock_word clock.Right = codes "right"
clock_word clock.Jump = codes "jump"

-- numbers, each behind a space
abbrev pub numbers_text : List ℕ → List ℕ
numbers_text numbers = flat_map (λ n. codes " " ++ decimal n) numbers

-- a line's word and its numbers
abbrev pub note_head : ℕ → NoteKind → List ℕ
note_head k what.Lock = codes "lock" ++ numbers_text (k ∷ [])
note_head k what.Lost = codes "lost" ++ numbers_text (k ∷ [])
note_head k (what.Unread refusal) = codes "unread" ++ numbers_text (k ∷ rule_number refusal ∷ [])
note_head k (what.Stray frame index) = codes "stray" ++ numbers_text (k ∷ frame ∷ index ∷ [])
note_head k (what.Ops o) =
    codes "ops" ++ numbers_text (k ∷ o.frame ∷ o.index ∷ o.stamp ∷ o.max_delay ∷ o.listed ∷ [])

-- the words behind a line's numbers, if any, and a line feed
abbrev pub note_end : NoteKind → List ℕ
note_end (what.Ops o) = codes " " ++ (states_word o.states ++ (codes " " ++ (clock_word o.clock ++ codes "\n")))
note_end other = codes "\n"

-- a line: words and numbers with one space between them, and a line feed
unfoldable pub note_text : Note → List ℕ
note_text note = note_head note.packet note.what ++ note_end note.what

-- the lines, one behind the other
abbrev pub watch_text : List Note → List ℕ
watch_text notes = flat_map note_text notes

-- The words of each line of a text. The text is cut at its line feeds, and each line at its spaces. What stands behind
-- the last line feed counts as a line too.
abbrev pub words_of_lines : List ℕ → List (List (List ℕ))
words_of_lines text = map (slice_split (λ b. b == 32)) (slice_split (λ b. b == 10) text)

-- how many lines of a text have this word at this place, the first one at place 0
unfoldable pub lines_with : ℕ → List ℕ → List ℕ → ℕ
lines_with place word text =
    count_by (λ words. bytes_eq (slice_index_or words place []) word) (words_of_lines text)

-- the first word of a note's line, by which it is told from others
abbrev pub first_word : NoteKind → List ℕ
first_word what.Lock = codes "lock"
first_word what.Lost = codes "lost"
first_word (what.Unread refusal) = codes "unread"
first_word (what.Stray frame index) = codes "stray"
first_word (what.Ops o) = codes "ops"

-- the words behind it, of a note on packet k
abbrev pub later_words : ℕ → NoteKind → List (List ℕ)
later_words k what.Lock = decimal k ∷ []
later_words k what.Lost = decimal k ∷ []
later_words k (what.Unread refusal) = decimal k ∷ decimal (rule_number refusal) ∷ []
later_words k (what.Stray frame index) = decimal k ∷ decimal frame ∷ decimal index ∷ []
later_words k (what.Ops o) =
    decimal k ∷ decimal o.frame ∷ decimal o.index ∷ decimal o.stamp ∷ decimal o.max_delay ∷ decimal o.listed
    ∷ states_word o.states ∷ clock_word o.clock ∷ []

abbrev pub note_words : Note → List (List ℕ)
note_words note = first_word note.what ∷ later_words note.packet note.what
