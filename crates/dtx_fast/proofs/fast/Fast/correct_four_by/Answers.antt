use Rattle.std.proofs.Common.{rules, ◌-◌, ◌++◌, [], List, ℕ, slice_index_or, take, sym, subst, arith}
use Rattle.dtx_laws.specs.Codeword.{IsCodeword}
use Rattle.dtx_fast.proofs.fast.Fast.correct_four_by.Goals as goal

pub correct_by-requires : goal.correct_by-requires
correct_by-requires g c =
    let p : ℕ = c.loop-p.p in
    let parity : List ℕ = take (g.row.N - g.row.K) (slice_index_or c.args.parities.now p []) in (
      search rules,
      (
        search rules,
        (
          subst (λ (word : List ℕ). IsCodeword g.row.N g.row.K (take g.row.K word ++ parity))
              (sym (c.loop-p.invariant.later p (omega arith)))
              (c.requires.codes p c.loop-p-test.true),
          search rules,
        ),
      ),
    )
