use Rattle.std.proofs.Common.{◌≡◌, ℕ, ◌+◌, ◌*◌, ◌<◌, [], drop, length, map, slice_index_or, take}
use Rattle.dtx_laws.specs.Whitening.{whitened}
use Rattle.dtx_outer.proofs.outer.Outer.begin_four.Given as goal

abbrev pub invariant-loop-p : goal.invariant-loop-p
invariant-loop-p g l = record {
  done : (p : ℕ) → p < l.p → take g.row.K (drop (g.row.N * p) l.words)
      ≡ whitened l.fn.self.white (g.row.K * (l.fn.place + p))
      (slice_index_or (map (λ head. head.now) l.fn.heads) p []);
  long : length l.words ≡ g.row.N * 4;
}
