use Rattle.std.proofs.Common.{◌+◌, ◌%◌, length, sym, subst, ap, ◌∙◌}
use Rattle.dtx_laws.specs.Branches.{HasWidths, leaving_all, after_all}
use Rattle.dtx_laws.proofs.InterleavingLemmas.{HasWidths-all}
use Rattle.dtx_spread.specs.Rings.{branches_of}
use Rattle.dtx_spread.proofs.Lent.{branches_after, bytes_after}
use Rattle.dtx_spread.proofs.lines.Lines.pass_some.Goals as goal

pub invariant_of-self : goal.invariant_of-self
invariant_of-self g c =
    let s = c.self.inside in
    let t = c.through in
    let turn = (s.next + length t.new.bytes) % g.row.B in
    let is = ap (λ n. (s.next + n) % g.row.B) t.auto.bytes in
    let after = branches_after g.row.B g.W.Widths.widths s.next turn s.rings.len s.rings.items
    c.deref_mut.result.now t.new.rings c.args.bytes.now t.new.bytes c.self.invariant.1 c.deref_mut.ensures.value
    s.rings.ok.0 t.auto.rings t.ensures.passed is in (
      c.self.invariant.0,
      rw after (HasWidths-all g.row.B g.W.Widths.widths (branches_of s.next s.rings.items) c.args.bytes.now
          c.self.invariant.1),
    )

pub returns-clause-bytes : goal.returns-clause-bytes
returns-clause-bytes g c =
    let s = c.self.inside in
    let t = c.through in
    bytes_after g.row.B g.W.Widths.widths s.next s.rings.items c.deref_mut.result.now t.new.rings c.args.bytes.now
    t.new.bytes c.self.invariant.1 c.deref_mut.ensures.value t.ensures.passed
    ∙ ap (λ v. leaving_all g.row.B v c.args.bytes.now) c.self.view_is

pub returns-clause-branches : goal.returns-clause-branches
returns-clause-branches g c =
    let s = c.self.inside in
    let t = c.through in
    let turn = (s.next + length t.new.bytes) % g.row.B in
    let is = ap (λ n. (s.next + n) % g.row.B) t.auto.bytes in
    branches_after g.row.B g.W.Widths.widths s.next turn s.rings.len s.rings.items
    c.deref_mut.result.now t.new.rings c.args.bytes.now t.new.bytes c.self.invariant.1 c.deref_mut.ensures.value
    s.rings.ok.0 t.auto.rings t.ensures.passed is
    ∙ ap (λ v. after_all g.row.B v c.args.bytes.now) c.self.view_is
