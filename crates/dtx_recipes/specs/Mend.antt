-- What `mend` makes of a symbol file with missing symbols (the profile's own; ATSC A/53 Part 2, the way back). A symbol
-- of value -128, which is the byte 0x80 in the file, means that nothing was received there.
use Rattle.dtx_engine.specs.Recipe.{Recipe}
use Rattle.dtx_erase.specs.Mended.{all_mended, mended, mended_so_far}
use Rattle.dtx_recipes.specs.Giving.{Giving, receiving_by}
use Rattle.dtx_words.specs.declared.rows.Command.TheVariants.{Mend}
use Rattle.dtx_forms.specs.Job.{Job}
use Rattle.dtx_forms.specs.Shapes.{segments}
use Rattle.dtx_forms.specs.Transform.{transform_job}

-- what a receiver gives that mends each word
abbrev pub with_mendings : Giving
with_mendings = record { so_far = mended_so_far; all = all_mended; packets = mended }

-- the recipe
abbrev pub mending_symbols : Recipe
mending_symbols = receiving_by with_mendings

-- the command `mend IN OUT`
abbrev pub mend_job : Job
mend_job = transform_job Mend segments mending_symbols
