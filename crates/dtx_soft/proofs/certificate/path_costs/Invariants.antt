use Rattle.std.proofs.Common.{◌≡◌, ◌<◌, ◌↔◌, drop}
use Rattle.dtx_soft.specs.Paths.{IsPath, cost}
use Rattle.dtx_soft.proofs.certificate.path_costs.Given as goal

-- the rest has to be a path that costs what is left
abbrev pub invariant-loop-t : goal.invariant-loop-t
invariant-loop-t l = record {
  state : l.state < 4;
  rest : (IsPath l.fn.start l.levels × (cost 1 l.symbols l.levels ≡ l.fn.target))
      ↔ (IsPath l.state (drop l.t l.levels) × (cost 1 (drop l.t l.symbols) (drop l.t l.levels) ≡ l.left));
}
