-- What `excite` makes of a feed (the profile's own, over ATSC A/53 Part 2 and in the manner of ATSC A/110).
use Rattle.std.specs.Prelude.{ℕ, true, List, []}
use Rattle.dtx_engine.specs.Made.{Made, only}
use Rattle.dtx_engine.specs.Recipe.{Recipe}
use Rattle.dtx_meaning.specs.Status.{done}
use Rattle.dtx_meaning.specs.declared.status.Outcome.{Outcome}
use Rattle.dtx_packets.specs.Packets.{packets_of}
use Rattle.dtx_recipes.specs.Life.{life_numbers, life_tally, logged_bytes, sent_bytes}
use Rattle.dtx_words.specs.declared.rows.Command.TheVariants.{Excite}
use Rattle.dtx_forms.specs.Job.{Job}
use Rattle.dtx_forms.specs.Shapes.{coded_packets}
use Rattle.dtx_forms.specs.Logged.{transmit_job}

-- the symbols that the transmitter with this address and delay sends, and its log
abbrev pub excited : ℕ → ℕ → List (List ℕ) → Made
excited address delay packets = record {
  first = sent_bytes address delay packets;
  second = logged_bytes address delay packets;
}

-- the answer: the numbers of the exciter's one life, and of the loose bytes
abbrev pub excite_answer : ℕ → ℕ → List (List ℕ) → ℕ → Outcome
excite_answer address delay packets loose =
    done (life_numbers (life_tally address delay packets) loose)

-- the recipe: packets of any bytes are allowed
abbrev pub exciting : ℕ → ℕ → Recipe
exciting address delay = record {
  allows = λ _ _. true;
  made = λ bytes. excited address delay (packets_of bytes);
  rest = λ _. only [];
  answer = λ bytes loose. excite_answer address delay (packets_of bytes) loose;
}

-- the command `excite FEED ADDRESS DELAY OUT LOG`
abbrev pub excite_job : Job
excite_job = transmit_job Excite coded_packets exciting
