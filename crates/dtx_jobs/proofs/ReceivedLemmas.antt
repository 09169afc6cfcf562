-- Lemmas of what `receive` means over a file, whose bytes may have damage laid over them.
use Rattle.std.proofs.Common.{◌≡◌, ℕ, ◌%◌, ◌≤◌, List, length}
use Rattle.dtx_plan.specs.declared.damage.Damage.{Damage}
use Rattle.dtx_make.specs.Hurt.{hurt}
use Rattle.dtx_engine.specs.Recipe.{meaning_of_file}
use Rattle.dtx_forms.specs.Shapes.{segments}
use Rattle.dtx_forms.specs.Damaged.{damaged_making}
use Rattle.dtx_jobs.proofs.GivenLemmas.{all_damaged_given, all_given}
use Rattle.dtx_recipes.specs.Receive.{receiving, with_corrections, received_of}
use Rattle.dtx_recipes.proofs.ReceiveLemmas.{corrections_given}
use Rattle.dtx_recipes.specs.SymbolFile.{whole_segments}

-- a symbol file with no more segments than are received
pub all_received : (names : List (List ℕ)) (file : List ℕ) → whole_segments file ≤ 626000000
    → meaning_of_file segments receiving names file ≡ received_of names file (length file % 832)
all_received = all_given with_corrections corrections_given

-- and one that is damaged as it is read
pub all_damaged_received : (names : List (List ℕ)) (damage : List Damage) (file : List ℕ)
    → whole_segments file ≤ 626000000 → meaning_of_file segments (damaged_making damage receiving) names file
    ≡ received_of names (hurt damage file) (length file % 832)
all_damaged_received = all_damaged_given with_corrections corrections_given
