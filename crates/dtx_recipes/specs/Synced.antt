-- The answer of a command that needs a field sync.
use Rattle.std.specs.Prelude.{ℕ, ◌==◌, if◌then◌else◌, List}
use Rattle.dtx_meaning.specs.Status.{done, ended}
use Rattle.dtx_meaning.specs.declared.status.Outcome.{Outcome}
use Rattle.dtx_meaning.specs.declared.status.Status.TheVariants.{NoSync}

-- `NoSync` where nothing was found, and else `Done` with these numbers
abbrev pub synced : ℕ → List ℕ → Outcome
synced found numbers = if found == 0 then ended NoSync else done numbers
