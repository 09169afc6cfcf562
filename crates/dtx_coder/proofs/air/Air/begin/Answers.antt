use Rattle.std.proofs.Common.{rules, drop, sym, ◌∙◌, [], take_at}
use Rattle.std.proofs.lemmas.Bool.{cond-true}
use Rattle.dtx_frame.specs.Segments.{field_sync}
use Rattle.dtx_coder.proofs.air.Air.begin.Goals as goal

pub returns-then-sync-clause-symbols : goal.returns-then-sync-clause-symbols
returns-then-sync-clause-symbols c =
    take_at c.write_sync.new.symbols (drop 832 c.args.self.now.symbols) 832 (search rules)
    ∙ c.write_sync.ensures
    ∙ sym (cond-true c.args.sync (field_sync c.args.second c.args.last.now) [] c.if-sync.true)
