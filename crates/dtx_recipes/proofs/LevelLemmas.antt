-- Laws of what `level` makes.
use Rattle.std.proofs.Common.{refl, ◌≡◌, ℕ, List, [], ◌++◌, map, sym, ap, ap₂, ◌∙◌, arith}
use Rattle.std.proofs.lemmas.Grind.{flat_map-append}
use Rattle.std.proofs.lemmas.List.{map-append}
use Rattle.dtx_engine.specs.Made.{AreFrontsOf, only}
use Rattle.dtx_engine.specs.Recipe.{IsAnswerOf}
use Rattle.dtx_files.specs.Symbols.{byte_of_symbol}
use Rattle.dtx_forms.proofs.AnswersLemmas.{knows_by, none_refused}
use Rattle.dtx_forms.specs.Answers.{IsKnown}
use Rattle.dtx_recipes.proofs.AnswersLemmas.{synced_known}
use Rattle.dtx_recipes.specs.Level.{levelled_files, levelling}
use Rattle.dtx_recipes.specs.SymbolFile.{symbol_of_byte, symbols}
use Rattle.dtx_level.proofs.LevelledLemmas.{none_so_far, so_far_grows}
use Rattle.dtx_level.specs.Measures.{measure_text, measures_text, measures_so_far}
use Rattle.dtx_meaning.specs.declared.status.Outcome.{Outcome}
use Rattle.dtx_words.specs.declared.rows.Command.TheVariants.{Level}

-- ---- what is made

pub levels_none : levelling.made [] ≡ only []
levels_none = ap₂ levelled_files none_so_far.0 none_so_far.1

pub levels_more : (a b : List ℕ) → AreFrontsOf (levelling.made a) (levelling.made (a ++ b))
levels_more a b =
    let on = so_far_grows (symbols a) (symbols b) in
    let all = map-append symbol_of_byte a b in (
      (map byte_of_symbol on.others, sym (grind (arith, map-append))),
      (
        measures_text on.told,
        sym (ap (λ s. measures_text (measures_so_far s)) all ∙ ap measures_text on.measures_are
            ∙ flat_map-append measure_text (measures_so_far (symbols a)) on.told),
      ),
    )

-- ---- what is answered

pub level_knows : (outcome : Outcome) → IsAnswerOf levelling outcome → IsKnown Level outcome
level_knows =
    knows_by levelling Level tt (λ k unit. none_refused unit)
    (λ given loose. synced_known Level _ _ tt refl)
