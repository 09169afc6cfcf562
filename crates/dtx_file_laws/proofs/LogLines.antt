-- The words of a log's text are those of its lines.
use Rattle.std.proofs.Common.{◌≡◌, ℕ, ◌==◌, List, [], ◌∷◌, ◌++◌, map, refl, sym, ap, ap₂, ◌∙◌, arith, codes, decimal}
use Rattle.std.proofs.Common.{append_assoc}
use Rattle.std.specs.List.{AllByRecursion, slice_split}
use Rattle.std.proofs.lemmas.List.Splits.{slice_split_at}
use Rattle.dtx_exciter.specs.Log.{Line}
use Rattle.dtx_exciter.specs.declared.answers.Why.{Why}
use Rattle.dtx_exciter.specs.declared.answers.Why.TheVariants.{Cadence, Late, Unlisted}
use Rattle.dtx_files.specs.LogText.{line_text, log_text, word_of}
use Rattle.dtx_watch.proofs.WatchLinesLemmas.{IsWord, number, spelled, spaced, words_cut, one_line}
use Rattle.dtx_watch.specs.WatchText.{words_of_lines}
use Rattle.dtx_file_laws.specs.LogLines.{line_words}

-- ---- words

-- the first word of a line, and those behind it
abbrev first_word : Line → List ℕ
first_word (Line.preset segment frame packet tick grain) = codes "preset"
first_word (Line.mute segment why) = codes "mute"
first_word (Line.restart segment) = codes "restart"

abbrev later_words : Line → List (List ℕ)
later_words (Line.preset segment frame packet tick grain) =
    decimal segment ∷ decimal frame ∷ decimal packet ∷ decimal tick ∷ decimal grain ∷ []
later_words (Line.mute segment why) = decimal segment ∷ word_of why ∷ []
later_words (Line.restart segment) = decimal segment ∷ []

first_is : (line : Line) → IsWord (first_word line)
first_is (Line.preset segment frame packet tick grain) = grind (arith, spelled)
first_is (Line.mute segment why) = spelled (codes "mute") (omega arith, (omega arith, (omega arith, (omega arith, tt))))
first_is (Line.restart segment) = spelled (codes "restart")
    (omega arith, (omega arith, (omega arith, (omega arith, (omega arith, (omega arith, (omega arith, tt)))))))

why_is : (why : Why) → IsWord (word_of why)
why_is Cadence = spelled (codes "cadence")
    (omega arith, (omega arith, (omega arith, (omega arith, (omega arith, (omega arith, (omega arith, tt)))))))
why_is Unlisted = grind (arith, spelled)
why_is Late = spelled (codes "late") (omega arith, (omega arith, (omega arith, (omega arith, tt))))

later_are : (line : Line) → AllByRecursion IsWord (later_words line)
later_are (Line.preset segment frame packet tick grain) = grind (arith, number)
later_are (Line.mute segment why) = (number segment, (why_is why, tt))
later_are (Line.restart segment) = (number segment, tt)

-- ---- a line

-- words, each behind a space, and then a text
abbrev onto : List (List ℕ) → List ℕ → List ℕ
onto [] text = text
onto (word ∷ words) text = 32 ∷ (word ++ onto words text)

spaced-append : (words : List (List ℕ)) (text : List ℕ) → spaced words ++ text ≡ onto words text
spaced-append [] text = refl
spaced-append (word ∷ words) text =
    ap (λ z. 32 ∷ z) (append_assoc word (spaced words) text ∙ ap (λ z. word ++ z) (spaced-append words text))

line_onto : (line : Line) → line_text line ≡ first_word line ++ onto (later_words line) (10 ∷ [])
line_onto (Line.preset segment frame packet tick grain) = refl
line_onto (Line.mute segment why) = refl
line_onto (Line.restart segment) = refl

line_is : (line : Line) (rest : List ℕ)
    → line_text line ++ rest ≡ (first_word line ++ spaced (later_words line)) ++ 10 ∷ rest
line_is line rest =
    let first : List ℕ = first_word line in
    let words : List (List ℕ) = later_words line in
    ap (λ z. z ++ rest) (line_onto line
    ∙ ap (λ z. first ++ z) (sym (spaced-append words (10 ∷ [])))
    ∙ sym (append_assoc first (spaced words) (10 ∷ [])))
    ∙ append_assoc (first ++ spaced words) (10 ∷ []) rest

-- ---- all lines

words_are : (line : Line) → first_word line ∷ later_words line ≡ line_words line
words_are (Line.preset segment frame packet tick grain) = refl
words_are (Line.mute segment why) = refl
words_are (Line.restart segment) = refl

pub words_of-log_text : (lines : List Line) → words_of_lines (log_text lines) ≡ map line_words lines ++ ([] ∷ []) ∷ []
words_of-log_text [] = refl
words_of-log_text (line ∷ lines) =
    let words : List (List ℕ) = later_words line in
    let rest : List ℕ = log_text lines in
    ap words_of_lines (line_is line rest) ∙ ap (map (slice_split (λ b. b == 32)))
    (slice_split_at (λ b. b == 10) ((first_word line) ++ spaced words) 10 rest
    (one_line (first_word line) words (first_is line) (later_are line)) refl) ∙ ap₂ (λ ws more. ws ∷ more)
    (words_cut (first_word line) words (first_is line) (later_are line) ∙ words_are line) (words_of-log_text lines)
