use Rattle.std.proofs.Common.{◌++◌, ◌*◌, ℕ, List, take, drop, sym, ap, ◌∙◌}
use Rattle.dtx_outer.specs.Inner.{Kept, block_behind, completing}
use Rattle.dtx_outer.proofs.inner.Inner.next_words.Goals as goal

pub copy_from_slice-requires : goal.copy_from_slice-requires
copy_from_slice-requires g c = c.self.told ∙ sym c.block.ensures.long

pub invariant_of-self : goal.invariant_of-self
invariant_of-self g c = c.self.invariant

pub returns-clause-words : goal.returns-clause-words
returns-clause-words g c = λ p l.
    let window = λ (skip : ℕ) (before : List ℕ). drop skip (block_behind g.row.N before c.args.gathered.now p)
    ++ take skip (take g.row.N (drop (g.row.N * p) c.args.gathered.now)) in
    c.windows.ensures p l
    ∙ ap (λ (skip : ℕ). window skip c.self.inside.before) c.completed.ensures.at
    ∙ ap (window (completing g.row.N g.row.B g.row.M)) (ap (λ (d : Kept). d.before) c.self.view_is)

pub returns-clause-kept : goal.returns-clause-kept
returns-clause-kept g c =
    ap (λ (before : List ℕ). record {
      white = g.W.Whitener.bytes c.self.inside.whitener;
      branches = g.G.Gather.seen c.self.inside.gather;
      before = before;
      waits = c.self.inside.waits;
      place = c.self.inside.place;
    }) (c.copy_from_slice.ensures.after ∙ c.block.ensures.block)
    ∙ ap (λ (d : Kept). record d { before = block_behind g.row.N d.before c.args.gathered.now 4 }) c.self.view_is
