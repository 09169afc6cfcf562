use Rattle.std.proofs.Common.{◌*◌, ◌/◌, ◌∙◌, ap, arith, min}
use Rattle.dtx_acquire.proofs.Levels.{level_is}
use Rattle.dtx_acquire.proofs.deciding.level_at.Goals as goal

pub returns : goal.returns
returns c = record {
  is =
      c.min.ensures ∙ ap (λ x. min (x / (2 * c.args.scale)) 7) c.saturating_sub-steps.ensures
      ∙ level_is c.args.scale c.args.n c.requires.from c.requires.within;
  small = omega (arith, c.min.ensures);
}
