use Rattle.std.proofs.Common.{◌*◌, ◌%◌, ◌∙◌, ℕ, ap, arith, replicate}
use Rattle.std.proofs.lemmas.List.{take-replicate}
use Rattle.dtx_laws.specs.Branches.{Branching, after_all}
use Rattle.dtx_erase.specs.Sides.{Side}
use Rattle.dtx_erase.proofs.Stands.{side}
use Rattle.dtx_erase.proofs.side.Side.move_on.Goals as goal

pub returns : goal.returns
returns c =
    let old = c.self.inside in
    ap (λ (v : Branching). side old.groups v old.begun (replicate {A = ℕ} 10920 0)) (c.gather.ensures.seen
    ∙ ap (after_all 52 old.gather) (take-replicate (48 * c.args.groups % 52) 52 0 (omega arith)))
    ∙ ap (λ (k : Side). record k {
      branches = after_all 52 k.branches (replicate {A = ℕ} (48 * c.args.groups % 52) 0);
      gathered = replicate {A = ℕ} 10920 0;
    }) c.self.view_is
