-- What `watch` makes of a feed (the profile's own).
use Rattle.std.specs.Prelude.{ℕ, true, List, [], ◌∷◌, length, ◌+◌, ◌^◌, ◌<◌}
use Rattle.std.specs.List.{sum_by}
use Rattle.dtx_engine.specs.Made.{only}
use Rattle.dtx_engine.specs.Recipe.{Recipe}
use Rattle.dtx_meaning.specs.Status.{done}
use Rattle.dtx_meaning.specs.declared.status.Outcome.{Outcome}
use Rattle.dtx_packets.specs.Packets.{packets_of}
use Rattle.dtx_watch.specs.Watch.{watch, told, waiting}
use Rattle.dtx_watch.specs.WatchText.{watch_text}
use Rattle.dtx_watch.specs.declared.notes.Note.{Note}
use Rattle.dtx_watch.specs.declared.notes.NoteKind.{NoteKind}
use Rattle.dtx_watch.specs.declared.notes.NoteKind.TheVariants.{Unread, Stray, Ops}
use Rattle.dtx_watch.specs.declared.notes.StatesNote.{StatesNote}
use Rattle.dtx_watch.specs.declared.notes.StatesNote.TheVariants as states
use Rattle.dtx_watch.specs.declared.notes.ClockNote.{ClockNote}
use Rattle.dtx_watch.specs.declared.notes.ClockNote.TheVariants as clock
use Rattle.dtx_words.specs.declared.rows.Command.TheVariants.{Watch}
use Rattle.dtx_forms.specs.Job.{Job}
use Rattle.dtx_forms.specs.Shapes.{single_packets}
use Rattle.dtx_forms.specs.Transform.{transform_job}
use Rattle.dtx_recipes.specs.declared.watch_tally.WatchTally.{WatchTally}

-- ---- the text

-- the lines for a feed's packets, but for the packets of a last group that isn't whole
unfoldable pub watched_bytes : List (List ℕ) → List ℕ
watched_bytes packets = watch_text (told packets)

-- the lines for the packets of that last group
unfoldable pub waiting_bytes : List (List ℕ) → List ℕ
waiting_bytes packets = watch_text (waiting packets)

-- ---- the numbers

-- 1 or 0 for a note. The definitions count operations packets at their places, states that slip, stamps that jump,
-- operations packets that don't read, and operations packets that aren't at their places.
abbrev pub one_ops : NoteKind → ℕ
one_ops (Ops o) = 1
one_ops other = 0

abbrev pub one_slip : StatesNote → ℕ
one_slip states.Slip = 1
one_slip other = 0

abbrev pub one_jump : ClockNote → ℕ
one_jump clock.Jump = 1
one_jump other = 0

abbrev pub slips_of : NoteKind → ℕ
slips_of (Ops o) = one_slip o.states
slips_of other = 0

abbrev pub jumps_of : NoteKind → ℕ
jumps_of (Ops o) = one_jump o.clock
jumps_of other = 0

abbrev pub one_unread : NoteKind → ℕ
one_unread (Unread refusal) = 1
one_unread other = 0

abbrev pub one_stray : NoteKind → ℕ
one_stray (Stray frame index) = 1
one_stray other = 0

-- how many notes there are of a kind
abbrev pub count_of : (NoteKind → ℕ) → List Note → ℕ
count_of one notes = sum_by (λ note. one note.what) notes

-- the numbers of these notes on so many packets
abbrev pub watch_tally : ℕ → List Note → WatchTally
watch_tally packets notes = record {
  packets = packets;
  ops = count_of one_ops notes;
  slips = count_of slips_of notes;
  jumps = count_of jumps_of notes;
  unread = count_of one_unread notes;
  stray = count_of one_stray notes;
}

-- the numbers of the line
abbrev pub watch_numbers : WatchTally → ℕ → List ℕ
watch_numbers tally loose =
    tally.packets ∷ tally.ops ∷ tally.slips ∷ tally.jumps ∷ tally.unread ∷ tally.stray ∷ loose ∷ []

-- ---- the meaning

-- the answer: the packets, the lines of each kind that is counted, and the loose bytes
abbrev pub watch_answer : List (List ℕ) → ℕ → Outcome
watch_answer packets loose =
    done (watch_numbers (watch_tally (length packets) (watch packets)) loose)

-- the recipe: packets of any bytes are allowed, and each note gives a line, in their order
abbrev pub watching : Recipe
watching = record {
  allows = λ _ _. true;
  made = λ bytes. only (watched_bytes (packets_of bytes));
  rest = λ bytes. only (waiting_bytes (packets_of bytes));
  answer = λ bytes loose. watch_answer (packets_of bytes) loose;
}

-- the command `watch FEED OUT`
abbrev pub watch_job : Job
watch_job = transform_job Watch single_packets watching

-- the numbers with one note more, and no packet
abbrev pub tally_of_one : WatchTally → NoteKind → WatchTally
tally_of_one tally what = record {
  packets = tally.packets;
  ops = tally.ops + one_ops what;
  slips = tally.slips + slips_of what;
  jumps = tally.jumps + jumps_of what;
  unread = tally.unread + one_unread what;
  stray = tally.stray + one_stray what;
}

-- the numbers with these notes more
abbrev pub tally_with : WatchTally → List Note → WatchTally
tally_with tally notes = record {
  packets = tally.packets;
  ops = tally.ops + count_of one_ops notes;
  slips = tally.slips + count_of slips_of notes;
  jumps = tally.jumps + count_of jumps_of notes;
  unread = tally.unread + count_of one_unread notes;
  stray = tally.stray + count_of one_stray notes;
}

-- no number overflows when one packet and `count` notes of each kind are counted more
pub record HasRoom (tally : WatchTally) (count : ℕ) : Type 0 where
  pub packets : tally.packets + 1 < 2 ^ 64
  pub ops : tally.ops + count < 2 ^ 64
  pub slips : tally.slips + count < 2 ^ 64
  pub jumps : tally.jumps + count < 2 ^ 64
  pub unread : tally.unread + count < 2 ^ 64
  pub stray : tally.stray + count < 2 ^ 64
