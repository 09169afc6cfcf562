use Rattle.std.proofs.Common.{◌≡◌, sym, ap, ◌∙◌}
use Rattle.dtx_frame.specs.Segments.{field_sync, sync_symbols}
use Rattle.dtx_frame.proofs.Parts.{two_parts}
use Rattle.dtx_frame.proofs.SymbolsLemmas.{first_is, second_is, length_front}
use Rattle.dtx_frame.proofs.sync.field_sync.Goals as goal
use Rattle.dtx_frame.proofs.sync.field_sync.Goals.{then-second, else-second}

pub returns : goal.returns
unfolding field_sync
returns c =
    let front_is : c.if-second.front.now ≡ sync_symbols c.args.second =
    elim c.if-second.branch [
      | then-second w ↦ ap (λ b. b.now) w.front-is ∙ second_is
          ∙ ap sync_symbols (sym w.if-second.true)
      | else-second w ↦ ap (λ b. b.now) w.front-is ∙ first_is
          ∙ ap sync_symbols (sym w.if-second.false)
    ] in
    two_parts 820 12 c.args.out.now (sync_symbols c.args.second) c.args.last.now c.copy_from_slice.new.self
    c.copy_from_slice-2.new.self
    c.told-out (length_front c.args.second) (c.copy_from_slice.ensures.after
    ∙ front_is) c.copy_from_slice-2.ensures.after
