use Rattle.std.proofs.Common.{false, pos, get_or, ap, ◌∙◌, arith}
use Rattle.std.proofs.lemmas.List.{get_or_append_left}
use Rattle.dtx_frame.specs.Segments.{field_sync, sync_symbols}
use Rattle.dtx_frame.proofs.SymbolsLemmas.{length_front}
use Rattle.dtx_level.proofs.pattern.Pattern.new.Goals as goal

pub invariant_of-result : goal.invariant_of-result
unfolding field_sync
invariant_of-result c = record {
  is = λ i l. ap (λ xs. get_or xs i (pos 0)) c.field_sync.ensures
      ∙ get_or_append_left (sync_symbols false) _ (pos 0) i (omega (arith, l, length_front false));
}
