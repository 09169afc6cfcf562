-- The text of a transmitter's log (the profile's own).
use Rattle.std.specs.Prelude.{ℕ, List, ◌++◌, codes, decimal, flat_map, ◌<◌, ◌^◌}
use Rattle.std.specs.Borrow.{Bor}
use Rattle.dtx_exciter.specs.Log.{Line}
use Rattle.dtx_exciter.specs.declared.answers.Why.{Why}
use Rattle.dtx_exciter.specs.declared.answers.Why.TheVariants.{Cadence, Unlisted, Late}

-- the word for the reason why a group isn't sent
abbrev pub word_of : Why → List ℕ
word_of Cadence = codes "cadence"
word_of Unlisted = codes "unlisted"
word_of Late = codes "late"

-- a line: words and numbers with one space between them, and a line feed
abbrev pub line_text : Line → List ℕ
line_text (Line.preset segment frame packet tick grain) =
    codes "preset "
    ++ (decimal segment
    ++ (codes " "
    ++ (decimal frame
    ++ (codes " "
    ++ (decimal packet ++ (codes " " ++ (decimal tick ++ (codes " " ++ (decimal grain ++ codes "\n")))))))))
line_text (Line.mute segment why) = codes "mute " ++ (decimal segment ++ (codes " " ++ (word_of why ++ codes "\n")))
line_text (Line.restart segment) = codes "restart " ++ (decimal segment ++ codes "\n")

-- the lines, one behind the other
abbrev pub log_text : List Line → List ℕ
log_text lines = flat_map line_text lines

-- pieces of a text, one behind another
abbrev pub joined : List (Bor (List ℕ)) → List ℕ
joined pieces = flat_map (λ piece. piece.now) pieces

-- each number of the line fits 64 bits
abbrev pub HasNumbers : Line → Type 0
HasNumbers (Line.preset segment frame packet tick grain) = (segment < 2 ^ 64) × (frame < 2 ^ 64) × (packet < 2 ^ 64)
    × (tick < 2 ^ 64) × (grain < 2 ^ 64)
HasNumbers (Line.mute segment why) = segment < 2 ^ 64
HasNumbers (Line.restart segment) = segment < 2 ^ 64
