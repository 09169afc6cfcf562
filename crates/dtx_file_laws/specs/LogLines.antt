-- The words of the lines of a log (the profile's own).
use Rattle.std.specs.Prelude.{List, [], ◌∷◌, ℕ, codes, decimal}
use Rattle.dtx_exciter.specs.Log.{Line}
use Rattle.dtx_files.specs.LogText.{word_of}

-- the words of a line, which stand in it with one space between them
abbrev pub line_words : Line → List (List ℕ)
line_words (Line.preset segment frame packet tick grain) =
    codes "preset" ∷ decimal segment ∷ decimal frame ∷ decimal packet ∷ decimal tick ∷ decimal grain ∷ []
line_words (Line.mute segment why) = codes "mute" ∷ decimal segment ∷ word_of why ∷ []
line_words (Line.restart segment) = codes "restart" ∷ decimal segment ∷ []
