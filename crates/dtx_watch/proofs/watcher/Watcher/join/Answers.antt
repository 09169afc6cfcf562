use Rattle.std.proofs.Common.{rules, ◌-◌, ◌%◌, ◌≡◌, Bool, length, refl, ap, arith}
use Rattle.dtx_watch.proofs.Joined.{joined_partial, joined_full, is_full}
use Rattle.dtx_watch.proofs.watcher.Watcher.join.Goals as goal

pub returns-then-part-ne3-clause-joined : goal.returns-then-part-ne3-clause-joined
returns-then-part-ne3-clause-joined c = λ l k e.
    joined_partial l c.args.self.now c.args.place c.args.packet.now (c.args.self.now.count - 1) c.args.notes.now.items
    k e
    c.if-part-ne3.true (search rules) c.requires.notes

pub returns-clause-joined : goal.returns-clause-joined
returns-clause-joined c = λ l k e.
    let last : c.args.place % 4 ≡ 3 = c.if-part-ne3.false in
    joined_full l _ c.end_group.new.self _ c.args.packet.now.0 (length l - 3) c.args.place (c.args.self.now.count - 1)
    c.end_group.new.notes.items
    (is_full l c.args.self.now c.args.place c.args.packet.now (length l - 3) k e last (search rules)
    (omega (arith, last, e)))
    c.end_group.ensures e refl
    (ap (λ (b : Bool). record c.end_group.new.self { part = 0; flushed = b }) c.is_flushed-self.ensures)
