use Rattle.std.proofs.Common.{◌≡◌, drop}
use Rattle.std.specs.List.{list_all}
use Rattle.dtx_exciter.proofs.pages.Pages.all_told.Given as goal

abbrev pub invariant-loop-told : goal.invariant-loop-told
invariant-loop-told l = list_all (λ told. told) (drop l.told-index l.told-items)
    ≡ list_all (λ told. told) l.told-items
