use Rattle.std.proofs.Common.{[], map, sym, ◌∙◌, arith}
use Rattle.std.proofs.lemmas.List.{ext_get_or, get_or-map, length-map}
use Rattle.dtx_acquire.specs.Acquired.{restored_data}
use Rattle.dtx_acquire.proofs.restoring.restore_all_data.Goals as goal

pub returns : goal.returns
returns c =
    ext_get_or [] c.loop-i.segments (map (restored_data c.args.decisions.now.scale) c.args.segments.now)
    (c.loop-i.invariant.long ∙ sym (length-map c.args.segments.now (restored_data c.args.decisions.now.scale)))
    (λ k l. c.loop-i.invariant.done k (omega (arith, l, c.loop-i.invariant.long))
    ∙ sym (get_or-map (restored_data c.args.decisions.now.scale) c.args.segments.now k [] []
    (omega (arith, l, c.loop-i.invariant.long))))
