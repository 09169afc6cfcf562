use Rattle.std.proofs.Common.{sym, ap, ◌∙◌, take, arith}
use Rattle.std.proofs.lemmas.List.{length-take-le, take-take}
use Rattle.dtx_level.proofs.giver.Giver.front.Goals as goal

pub slice_bounds-copy_from_slice-end-2 : goal.slice_bounds-copy_from_slice-end-2
slice_bounds-copy_from_slice-end-2 c =
    sym (length-take-le 832 c.deref.result.now (omega (arith, c.deref.ensures.len, c.args.self.now.long)))

pub copy_from_slice-requires : goal.copy_from_slice-requires
copy_from_slice-requires c =
    sym (length-take-le 832 c.deref.result.now (omega (arith, c.deref.ensures.len, c.args.self.now.long)))

pub returns : goal.returns
returns c =
    c.copy_from_slice.ensures.after ∙ ap (take 832) c.deref.ensures.value
    ∙ sym (take-take 832 c.args.self.now.count c.args.self.now.given.items c.requires)
