use Rattle.std.proofs.Common.{ℕ, ◌+◌, ◌-◌, List, length, get_or, take, drop, replicate, refl, ap, ◌∙◌, arith}
use Rattle.std.proofs.lemmas.Simd.{get_or-chunk}
use Rattle.dtx_spread.proofs.Written.{short_put, short_byte, short_on, fewer_behind}
use Rattle.dtx_spread.proofs.rings.exchange_joined.Goals as goal
use lib.Lanes.{chunk}

pub returns-clause-gone : goal.returns-clause-gone
returns-clause-gone c = λ k l.
    let items = c.args.items.now in
    ap (λ ys. get_or (chunk 0 16 (joined ys)) k 0) c.copy_from_slice.ensures.after
    ∙ get_or-chunk 0 16 (joined items) k 0 (omega (arith, l, c.requires.rows))
    ∙ ap (λ n. get_or (joined items) n 0) (omega arith)
    ∙ short_byte k room items c.args.column c.requires.short c.requires.column refl
    (omega (arith, l, c.requires.rows))
    ∙ fewer_behind c.args.count k items c.args.column (omega (arith, l))
  where
    room : List ℕ
    room = replicate 48 0

    joined : List ℕ → List ℕ
    joined ys = short_put (length c.args.items.now) room ys c.args.column

pub returns-clause-items : goal.returns-clause-items
returns-clause-items c =
    let items = c.args.items.now in
    let n = c.args.count in
    c.copy_from_slice-2.ensures.after
    ∙ ap (λ ys. take (n + length items - n) (drop n (short_put (length items) (replicate 48 0) ys c.args.column)))
    c.copy_from_slice.ensures.after
    ∙ short_on n (replicate 48 0) items c.args.column c.requires.rows c.requires.short c.requires.column refl
