-- The recipe of an input over whose bytes damage is laid as they are read.
use Rattle.std.specs.Prelude.{true, List}
use Rattle.dtx_engine.specs.Recipe.{Recipe}
use Rattle.dtx_make.specs.Hurt.{hurt}
use Rattle.dtx_plan.specs.declared.damage.Damage.{Damage}

-- the recipe over the damaged bytes, which allows each unit as it is before the damage
abbrev pub damaged_making : List Damage → Recipe → Recipe
damaged_making damage recipe = record {
  allows = λ _ _. true;
  made = λ bytes. recipe.made (hurt damage bytes);
  rest = λ bytes. recipe.rest (hurt damage bytes);
  answer = λ bytes loose. recipe.answer (hurt damage bytes) loose;
}
