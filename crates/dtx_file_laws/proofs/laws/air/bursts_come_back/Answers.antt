use Rattle.std.proofs.Common.{◌∙◌}
use Rattle.dtx_coder.specs.Stream.{a53}
use Rattle.dtx_recipes.specs.MendedBack.{put_right}
use Rattle.dtx_recipes.specs.SymbolFile.{file_segments}
use Rattle.dtx_file_laws.proofs.Bytes.{burst_of_symbols, gap_of_symbols, syncs_left}
use Rattle.dtx_file_laws.proofs.Mendable.{all_mendable}
use Rattle.dtx_file_laws.proofs.Whole.{are_received, few_segments, near_back, of_all, some_segments}
use Rattle.dtx_file_laws.proofs.laws.air.bursts_come_back.Goals as goal

pub returns-clause-wrong : goal.returns-clause-wrong
returns-clause-wrong c = λ names packets file count from are some few short burst spares.
    let sent = a53 packets in
    let got = file_segments file in
    let is = are_received packets file burst.as_many in
    let wrong = burst_of_symbols count from packets file burst in (
      put_right packets 0 got,
      near_back names packets file are some few burst.as_many
          (c.wrong_symbols_in_a_row.ensures packets 0 count from sent got is are
          (c.syncs_are_found.ensures.wrong packets 0 count from sent got is
          (syncs_left count from packets file burst.as_many spares) wrong) short wrong),
    )

pub returns-clause-missing : goal.returns-clause-missing
returns-clause-missing c = λ names packets file count from are some few short gap spares.
    let sent = a53 packets in
    let got = file_segments file in
    let is = are_received packets file gap.as_many in
    let missing = gap_of_symbols count from packets file gap in (
      put_right packets 0 got,
      c.a_stretch_is_mended.ensures names packets 0 sent file (few_segments packets file few gap.as_many) are is
          (some_segments packets some)
          (all_mendable packets 0 sent got
          (c.syncs_are_found.ensures.missing packets 0 count from sent got is
          (syncs_left count from packets file gap.as_many spares) missing)
          (c.missing_symbols_in_a_row.ensures.words packets 0 count from sent got is are short missing))
          ∙ of_all names packets file some gap.as_many,
    )
