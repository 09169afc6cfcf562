use Rattle.std.proofs.Common.{[], sym}
use Rattle.dtx_make.proofs.EntriesLemmas.{entry_at_nothing}
use Rattle.dtx_make.proofs.LaidBytesLemmas.{laid_none}
use Rattle.dtx_make.proofs.DamagedPlacesLemmas.{damaged_from_none}
use Rattle.dtx_make.proofs.laws.no_entry.Goals as goal

pub returns : goal.returns
returns c = record {
  bytes = λ place bytes. sym (laid_none [] place bytes (λ k l m. entry_at_nothing k));
  count = λ place count. damaged_from_none [] place count (λ k l m. entry_at_nothing k);
}
