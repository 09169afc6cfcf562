-- The table of the commands. A row has a command's first word, its fields, and the labels of its line.
use Rattle.std.specs.Prelude.{ℕ, ◌-◌, ◌^◌, Bool, true, false, not, ◌&&◌, List, [], ◌∷◌, codes, map}
use Rattle.std.specs.List.{list_any}
use Rattle.dtx_words.specs.declared.rows.Command.{Command}
use Rattle.dtx_words.specs.declared.rows.Command.TheVariants.{Adapt, Code, Excite, Receive, Net, Make, Hurt, Place}
use Rattle.dtx_words.specs.declared.rows.Command.TheVariants.{Trial, Soft, Mend, DvbCode, DvbRead, Repeat}
use Rattle.dtx_words.specs.declared.rows.Command.TheVariants.{Acquire, Watch, Level, Refine}
use Rattle.dtx_words.specs.declared.rows.CommandRow.{CommandRow}
use Rattle.dtx_words.specs.declared.rows.Field.{Field}
use Rattle.dtx_words.specs.declared.rows.Field.TheVariants.{Input, Output, Number, Within, Second}
use Rattle.dtx_words.specs.declared.rows.SecondWord.{SecondWord}
use Rattle.dtx_words.specs.declared.rows.SecondWord.TheVariants as second

-- whether the field is the name of a file that is read
abbrev pub is_input : Field → Bool
is_input Input = true
is_input _ = false

-- the second word of a command that has two
abbrev pub second_text : SecondWord → List ℕ
second_text second.Code = codes "code"
second_text second.Read = codes "read"

-- What a command may refuse, besides what its words alone tell. A plan, or a file of changes, breaks a rule. A packet
-- isn't allowed. An input is too long. An event names a packet past the end of the feed. An entry of damage ends past
-- the end of its file. No field sync is found.
pub data Refusal : Type 0 where
  plan : Refusal
  packet : Refusal
  too_long : Refusal
  out_of_feed : Refusal
  out_of_air : Refusal
  no_sync : Refusal

-- the row of a command: its words, its line, and what it may refuse
pub record Row : Type 0 where
  -- its first word
  pub verb : List ℕ
  -- what the words that follow stand for, in their order
  pub fields : List Field
  -- the text before each number of its line; of `net` the first three alone, where it has no receiver
  pub labels : List (List ℕ)
  -- what it may refuse
  pub refuses : List Refusal

-- the fields of an exciter: its input, an address of 16 bits, a delay of 32 bits in ticks of 100 ns, symbols and a log
abbrev exciter_fields : List Field
exciter_fields = Input ∷ Number 65535 ∷ Number 4294967295 ∷ Output ∷ Output ∷ []

-- the labels of a receiver's line
abbrev receiver_labels : List (List ℕ)
receiver_labels = codes "segments " ∷ codes " runs " ∷ codes " packets " ∷ codes " fixed " ∷ codes " flagged " ∷ codes
    " loose " ∷ []

-- the labels of a network's line
abbrev network_labels : List (List ℕ)
network_labels = codes "feed " ∷ codes " filled " ∷ codes " steps " ∷ codes " packets " ∷ codes " fixed " ∷ codes
    " flagged " ∷ []

-- the row of a command
abbrev pub row_of : Command → Row
-- `adapt PLAN IN OUT`
row_of Adapt = record {
  verb = codes "adapt";
  fields = Input ∷ Input ∷ Output ∷ [];
  labels = codes "packets " ∷ codes " filled " ∷ codes " loose " ∷ [];
  refuses = plan ∷ packet ∷ too_long ∷ [];
}
-- `code IN OUT`
row_of Code = record {
  verb = codes "code";
  fields = Input ∷ Output ∷ [];
  labels = codes "packets " ∷ codes " segments " ∷ codes " loose " ∷ [];
  refuses = packet ∷ too_long ∷ [];
}
-- `excite FEED ADDRESS DELAY OUT LOG`: an address of 16 bits, a delay of 32 bits in ticks of 100 ns
row_of Excite = record {
  verb = codes "excite";
  fields = exciter_fields;
  labels = codes "packets " ∷ codes " segments " ∷ codes " presets " ∷ codes " mutes " ∷ codes " loose " ∷ [];
  refuses = too_long ∷ [];
}
-- `receive IN OUT`
row_of Receive = record {
  verb = codes "receive";
  fields = Input ∷ Output ∷ [];
  labels = receiver_labels;
  refuses = too_long ∷ no_sync ∷ [];
}
-- `net PLAN`: the plan names the other files
row_of Net = record {
  verb = codes "net";
  fields = Input ∷ [];
  labels = network_labels;
  refuses = plan ∷ packet ∷ too_long ∷ out_of_feed ∷ out_of_air ∷ no_sync ∷ [];
}
-- `make SEED COUNT OUT`: a seed of 64 bits, at most 624,000,000 packets
row_of Make = record {
  verb = codes "make";
  fields = Number (2 ^ 64 - 1) ∷ Number 624000000 ∷ Output ∷ [];
  labels = codes "packets " ∷ [];
  refuses = [];
}
-- `hurt IN CHANGES OUT`
row_of Hurt = record {
  verb = codes "hurt";
  fields = Input ∷ Input ∷ Output ∷ [];
  labels = codes "bytes " ∷ codes " damaged " ∷ [];
  refuses = plan ∷ too_long ∷ out_of_air ∷ [];
}
-- `place IN OUT`
row_of Place = record {
  verb = codes "place";
  fields = Input ∷ Output ∷ [];
  labels = codes "packets " ∷ codes " placed " ∷ codes " bare " ∷ codes " loose " ∷ [];
  refuses = packet ∷ too_long ∷ [];
}
-- `trial SEED COUNT`: a seed of 64 bits, 624 to 1,000,000 packets; the line is that of `net` with a receiver
row_of Trial = record {
  verb = codes "trial";
  fields = Number (2 ^ 64 - 1) ∷ Within 624 1000000 ∷ [];
  labels = network_labels;
  refuses = packet ∷ too_long ∷ out_of_feed ∷ no_sync ∷ [];
}
-- `soft IN OUT`
row_of Soft = record {
  verb = codes "soft";
  fields = Input ∷ Output ∷ [];
  labels = codes "segments " ∷ codes " fields " ∷ codes " cost " ∷ codes " loose " ∷ [];
  refuses = too_long ∷ [];
}
-- `mend IN OUT`: the line is that of `receive`
row_of Mend = record {
  verb = codes "mend";
  fields = Input ∷ Output ∷ [];
  labels = receiver_labels;
  refuses = too_long ∷ no_sync ∷ [];
}
-- `dvb code IN OUT`
row_of DvbCode = record {
  verb = codes "dvb";
  fields = Second second.Code ∷ Input ∷ Output ∷ [];
  labels = codes "packets " ∷ codes " loose " ∷ [];
  refuses = packet ∷ too_long ∷ [];
}
-- `dvb read IN OUT`
row_of DvbRead = record {
  verb = codes "dvb";
  fields = Second second.Read ∷ Input ∷ Output ∷ [];
  labels = codes "blocks " ∷ codes " packets " ∷ codes " fixed " ∷ codes " flagged " ∷ codes " loose " ∷ [];
  refuses = too_long ∷ [];
}
-- `repeat IN ADDRESS DELAY OUT LOG`: address and delay as for `excite`
row_of Repeat = record {
  verb = codes "repeat";
  fields = exciter_fields;
  labels = codes "segments " ∷ codes " runs " ∷ codes " packets " ∷ codes " sent " ∷ codes " presets " ∷ codes
      " mutes " ∷ codes " loose " ∷ [];
  refuses = too_long ∷ no_sync ∷ [];
}
-- `acquire SCALE IN OUT`: 1 to 18 steps a unit of the standard's levels
row_of Acquire = record {
  verb = codes "acquire";
  fields = Within 1 18 ∷ Input ∷ Output ∷ [];
  labels = codes "symbols " ∷ codes " runs " ∷ codes " segments " ∷ codes " cost " ∷ codes " loose " ∷ [];
  refuses = too_long ∷ no_sync ∷ [];
}
-- `watch FEED OUT`
row_of Watch = record {
  verb = codes "watch";
  fields = Input ∷ Output ∷ [];
  labels = codes "packets " ∷ codes " ops " ∷ codes " slips " ∷ codes " jumps " ∷ codes " unread " ∷ codes
      " stray " ∷ codes " loose " ∷ [];
  refuses = too_long ∷ [];
}
-- `level IN OUT LOG`
row_of Level = record {
  verb = codes "level";
  fields = Input ∷ Output ∷ Output ∷ [];
  labels = codes "symbols " ∷ codes " syncs " ∷ codes " slips " ∷ [];
  refuses = too_long ∷ no_sync ∷ [];
}
-- `refine SCALE ROUNDS IN OUT`: a scale of 1 to 18, 1 to 32 rounds
row_of Refine = record {
  verb = codes "refine";
  fields = Within 1 18 ∷ Within 1 32 ∷ Input ∷ Output ∷ [];
  labels = codes "symbols " ∷ codes " runs " ∷ codes " segments " ∷ codes " cost " ∷ codes " known " ∷ codes " moved "
      ∷ codes " loose " ∷ [];
  refuses = too_long ∷ no_sync ∷ [];
}

-- the row of the definitions that a row of the code is; of what is refused the code says nothing
abbrev pub row_behind : List Refusal → CommandRow → Row
row_behind refuses row = record {
  verb = row.verb.now;
  fields = row.fields.now;
  labels = map (λ label. label.now) row.labels.now;
  refuses = refuses;
}

-- no input stands after an output
abbrev pub are_inputs_first : List Field → Bool
are_inputs_first [] = true
are_inputs_first (Output ∷ fields) = not (list_any is_input fields) && are_inputs_first fields
are_inputs_first (field ∷ fields) = are_inputs_first fields

-- all commands
abbrev pub commands : List Command
commands = Adapt ∷ Code ∷ Excite ∷ Receive ∷ Net ∷ Make ∷ Hurt ∷ Place ∷ Trial ∷ Soft ∷ Mend ∷ DvbCode ∷ DvbRead
    ∷ Repeat ∷ Acquire ∷ Watch ∷ Level ∷ Refine ∷ []

-- one command for each first word, in the order of the usage line
abbrev pub first_words : List Command
first_words = Adapt ∷ Code ∷ Excite ∷ Receive ∷ Net ∷ Make ∷ Hurt ∷ Place ∷ Trial ∷ Soft ∷ Mend ∷ DvbCode ∷ Repeat
    ∷ Acquire ∷ Watch ∷ Level ∷ Refine ∷ []
