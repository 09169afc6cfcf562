use Rattle.dtx_forms.proofs.SmallFile.{small_told}
use Rattle.dtx_forms.proofs.plan_file.small_file.Goals as goal

pub returns-in-Ok-clause-told : goal.returns-in-Ok-clause-told
returns-in-Ok-clause-told g c = small_told (g.S.Shelf.files c.args.shelf.now) c.args.name.now c.args.number
    c.read_all.new.bytes.items c.truncate.new.self.items c.truncate.ensures.items c.in-Ok.ensures.told
