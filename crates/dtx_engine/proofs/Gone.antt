-- What an answer is blamed on behind a read.
use Rattle.std.proofs.Common.{ℕ, sym, subst}
use Rattle.std.specs.Prelude.{Err}
use Rattle.dtx_outside.specs.Counts.{Blame, Counts, HasGone, Nothing, blame_of_read}
use Rattle.dtx_outside.specs.declared.shelf.ReadNo.{ReadNo}
use Rattle.dtx_outside.specs.declared.shelf.ReadNo.TheVariants as read
use Rattle.dtx_meaning.specs.Status.{blame_of, of_read}

-- a read that was refused
pub gone_of_read : (number : ℕ) (cause : ReadNo) (before now : Counts)
    → HasGone before now (blame_of_read {T = ℕ} (Err cause)) → HasGone before now (blame_of (of_read number cause))
gone_of_read number read.Absent before now gone = gone
gone_of_read number read.Failed before now gone = gone
gone_of_read number read.Memory before now gone = gone

-- what was done behind it met no refusal
pub gone_before : (blame : Blame) (before between now : Counts) → HasGone before between blame
    → HasGone between now Nothing → HasGone before now blame
gone_before blame before between now gone last = subst (λ (k : Counts). HasGone before k blame) (sym last.risen) gone

-- what was done before it met no refusal
pub gone_behind : (blame : Blame) (before between now : Counts) → HasGone before between Nothing
    → HasGone between now blame → HasGone before now blame
gone_behind blame before between now first gone = subst (λ (k : Counts). HasGone k now blame) first.risen gone
