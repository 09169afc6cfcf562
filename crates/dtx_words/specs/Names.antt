-- The file names of a command: which one is repeated, and which one the printed line has. Also those of a network.
use Rattle.std.specs.Prelude.{ℕ, Bool, true, false, if◌then◌else◌, List, [], ◌∷◌, ◌++◌, Option, Some, None}
use Rattle.std.specs.Prelude.{slice_index_or, unwrap_or, codes, decimal}
use Rattle.std.specs.List.{list_any}
use Rattle.std.specs.Str.{bytes_eq}
use Rattle.dtx_meaning.specs.declared.status.Status.{Status}
use Rattle.dtx_meaning.specs.declared.status.Status.TheVariants.{Same, Absent}
use Rattle.dtx_words.specs.declared.rows.Command.{Command}
use Rattle.dtx_words.specs.declared.rows.Field.{Field}
use Rattle.dtx_words.specs.declared.rows.Field.TheVariants.{Input, Output, Number, Within, Second}
use Rattle.dtx_words.specs.Rows.{row_of}

-- whether the field is a file name
abbrev pub is_file : Field → Bool
is_file Input = true
is_file Output = true
is_file (Number most) = false
is_file (Within least most) = false
is_file (Second second) = false

-- the words that are file names, in their order
abbrev pub names_at : List Field → List (List ℕ) → List (List ℕ)
names_at [] words = []
names_at (field ∷ fields) [] = []
names_at (field ∷ fields) (word ∷ words) =
    if is_file field then word ∷ names_at fields words else names_at fields words

-- the file names among the words that fit a command; in each row the inputs stand before the outputs
abbrev pub names_of : Option Command → List (List ℕ) → List (List ℕ)
names_of (Some command) (verb ∷ words) = names_at (row_of command).fields words
names_of _ _ = []

-- the first of these names that equals one before it, where the earlier ones are before them all
abbrev pub repeated_after : List (List ℕ) → List (List ℕ) → Option (List ℕ)
repeated_after earlier [] = None
repeated_after earlier (name ∷ names) =
    if list_any (λ first. bytes_eq first name) earlier then Some name else repeated_after (earlier ++ name ∷ []) names

-- the first name that equals an earlier one
abbrev pub repeated : List (List ℕ) → Option (List ℕ)
repeated names = repeated_after [] names

-- the name that the line of a status has, where these are the command's file names, its inputs first
abbrev pub line_name : Status → List (List ℕ) → List ℕ
line_name Same names = unwrap_or (repeated names) []
line_name (Absent input) names = slice_index_or names input []
line_name _ names = []

-- the feed
abbrev pub feed_name : List ℕ
feed_name = codes "net.feed"

-- the stream of a trial
abbrev pub trial_name : List ℕ
trial_name = codes "trial.ts"

-- the packets that are received
abbrev pub received_name : List ℕ
received_name = codes "net.ts"

-- the symbols of the transmitter at an address
abbrev pub symbol_name : ℕ → List ℕ
symbol_name address = codes "tx-" ++ (decimal address ++ codes ".sym")

-- the log of the transmitter at an address
abbrev pub log_name : ℕ → List ℕ
log_name address = codes "tx-" ++ (decimal address ++ codes ".log")
