-- What an exciter makes of the packets of one life, and the numbers of that life.
use Rattle.std.specs.Prelude.{ℕ, ◌+◌, ◌^◌, ◌<◌, List, [], ◌∷◌, length}
use Rattle.std.specs.List.{sum_by, flat_map}
use Rattle.dtx_exciter.specs.Emission.{emission}
use Rattle.dtx_exciter.specs.Log.{Line, life_lines, log, emission_over}
use Rattle.dtx_files.specs.LogText.{log_text}
use Rattle.dtx_files.specs.Symbols.{segment_bytes}
use Rattle.dtx_recipes.specs.declared.life_tally.LifeTally.{LifeTally}

-- the symbol file of one life: one byte for each symbol of the segments that are sent in it
abbrev pub sent_bytes : ℕ → ℕ → List (List ℕ) → List ℕ
sent_bytes address delay packets = segment_bytes (emission address delay packets)

-- the log of one life, which is the first: no segment was sent before it
abbrev pub logged_bytes : ℕ → ℕ → List (List ℕ) → List ℕ
logged_bytes address delay packets = log_text (life_lines address delay 0 packets)

abbrev pub one_preset : Line → ℕ
one_preset (Line.preset segment frame packet tick grain) = 1
one_preset (Line.mute segment why) = 0
one_preset (Line.restart segment) = 0

abbrev pub one_mute : Line → ℕ
one_mute (Line.preset segment frame packet tick grain) = 0
one_mute (Line.mute segment why) = 1
one_mute (Line.restart segment) = 0

-- how many lines are presets
abbrev pub presets_in : List Line → ℕ
presets_in lines = sum_by one_preset lines

-- how many lines are mutes
abbrev pub mutes_in : List Line → ℕ
mutes_in lines = sum_by one_mute lines

-- the numbers of one life: its packets, the segments that it gives, the lines `preset` and `mute` of its log
abbrev pub life_tally : ℕ → ℕ → List (List ℕ) → LifeTally
life_tally address delay packets = record {
  packets = length packets;
  segments = length (emission address delay packets);
  presets = presets_in (life_lines address delay 0 packets);
  mutes = mutes_in (life_lines address delay 0 packets);
}

-- the numbers with one packet more, which brings `segments` segments and these lines
abbrev pub tally_with : LifeTally → ℕ → List Line → LifeTally
tally_with tally segments lines = record {
  packets = tally.packets + 1;
  segments = tally.segments + segments;
  presets = tally.presets + presets_in lines;
  mutes = tally.mutes + mutes_in lines;
}

-- the numbers of the command's line
abbrev pub life_numbers : LifeTally → ℕ → List ℕ
life_numbers tally loose = tally.packets ∷ tally.segments ∷ tally.presets ∷ tally.mutes ∷ loose ∷ []

-- no number overflows when one packet, `given` segments, one preset and one mute are counted more
pub record HasRoom (tally : LifeTally) (given : ℕ) : Type 0 where
  pub packets : tally.packets + 1 < 2 ^ 64
  pub segments : tally.segments + given < 2 ^ 64
  pub presets : tally.presets + 1 < 2 ^ 64
  pub mutes : tally.mutes + 1 < 2 ^ 64

-- the symbol file of lives, and their log
abbrev pub sent_over : ℕ → ℕ → List (List (List ℕ)) → List ℕ
sent_over address delay lives = segment_bytes (emission_over address delay lives)

abbrev pub logged_over : ℕ → ℕ → List (List (List ℕ)) → List ℕ
logged_over address delay lives = log_text (log address delay 0 lives)

-- the numbers of lives: their packets, the segments that are sent in them, and the lines `preset` and `mute` of their
-- log
abbrev pub lives_tally : ℕ → ℕ → List (List (List ℕ)) → LifeTally
lives_tally address delay lives = record {
  packets = length (flat_map (λ life. life) lives);
  segments = length (emission_over address delay lives);
  presets = presets_in (log address delay 0 lives);
  mutes = mutes_in (log address delay 0 lives);
}
