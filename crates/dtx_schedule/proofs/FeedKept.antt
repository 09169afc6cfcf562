-- The feed stands as it stood while the files of the transmitters are written.
use Rattle.std.proofs.Common.{◌≡◌, ℕ, suc, List, [], ◌∷◌, ◌++◌, get_or, refl, sym, ap, subst, ◌∙◌, arith}
use Rattle.std.specs.Prelude.{Option, Some, IfSome}
use Rattle.std.specs.FinMap.{get}
use Rattle.dtx_meaning.specs.Meaning.{IsNoOutput}
use Rattle.dtx_meaning.specs.Status.{IsFault}
use Rattle.dtx_meaning.specs.declared.status.Status.{Status}
use Rattle.dtx_net.specs.Steps.{Step}
use Rattle.dtx_outside.specs.Shelf.{Files}
use Rattle.dtx_plan.specs.declared.transmitter.Transmitter.{Transmitter}
use Rattle.dtx_words.specs.Names.{feed_name, symbol_name, log_name}
use Rattle.dtx_schedule.specs.declared.playout.Playout.{Playout}
use Rattle.dtx_schedule.specs.PlayedSoFar.{IsPlayedSoFar, IsUnderWay}
use Rattle.dtx_schedule.specs.TransmitterFiles.{Contents, files_of, played, played_outputs}
use Rattle.dtx_schedule.proofs.FilesLemmas.{get_past, with_outputs-told}
use Rattle.dtx_schedule.proofs.Fronts.{at_rest}

-- the feed is no file of a transmitter: its name begins with another letter
other_letter : (name : List ℕ) → get_or name 0 0 ≡ 116 → feed_name ≡ name → ⊥
other_letter name first same = let h : 110 ≡ 116 = ap (λ (n : List ℕ). get_or n 0 0) same ∙ first in omega (arith, h)

pub feed_apart : (ts : List Transmitter) (contents : Contents) → IsNoOutput feed_name (files_of contents ts)
feed_apart [] contents = tt
feed_apart (t ∷ ts) contents = (
  other_letter (symbol_name t.address) refl,
  (other_letter (log_name t.address) refl, feed_apart ts (λ who. contents (suc who))),
)

-- what is read of the files as they are is read of the feed as it was
pub feed_read : (P : List ℕ → Type 0) (ts : List Transmitter) (steps : List Step) (held : Files) (playout : Playout)
    (now : Option Files) (feed : List ℕ) → get held feed_name ≡ Some feed → IsPlayedSoFar ts steps held playout now
    → IfSome now (λ files. (feed : List ℕ) → get files feed_name ≡ Some feed → P feed) → P feed
feed_read P ts steps held playout now feed there is read =
    subst (λ (told : Option Files). IfSome told (λ files. (feed : List ℕ) → get files feed_name ≡ Some feed → P feed))
    (is.files ∙ with_outputs-told (played_outputs ts steps) held) read
    feed (get_past (played_outputs ts steps) feed_name held (feed_apart ts (played steps)) ∙ there)

-- reading leaves the files
pub kept_on : (ts : List Transmitter) (steps : List Step) (held : Files) (playout : Playout) (now mid : Option Files)
    → mid ≡ now → IsPlayedSoFar ts steps held playout now → IsPlayedSoFar ts steps held playout mid
kept_on ts steps held playout now mid kept is = subst (IsPlayedSoFar ts steps held playout) (sym kept) is

-- where the feed isn't read no step is under way
pub unread : (ts : List Transmitter) (steps rest : List Step) (held : Files) (playout : Playout)
    (now mid : Option Files) (status : Status) → mid ≡ now
    → IsPlayedSoFar ts steps held playout now → IsFault status → IsFault status × IsUnderWay ts (steps ++ rest) held mid
unread ts steps rest held playout now mid status kept is fault = grind (arith, at_rest, kept_on)
