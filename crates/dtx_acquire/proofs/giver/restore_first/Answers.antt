use Rattle.std.proofs.Common.{◌≡◌, ◌++◌, ℕ, ℤ, List, length, take, ap, ◌∙◌, arith}
use Rattle.std.proofs.lemmas.List.{length-take-le, take-append-le, take_all}
use Rattle.dtx_acquire.proofs.WholeLemmas.{length-restored}
use Rattle.dtx_acquire.proofs.WholeLemmas.{length-segments_from}
use Rattle.dtx_acquire.specs.Acquired.{restored, segments_from}
use Rattle.dtx_acquire.proofs.giver.restore_first.Goals as goal

front_by : (n : ℕ) (xs ys zs : List (List ℤ)) → xs ≡ zs → length zs ≡ n → take n (xs ++ ys) ≡ zs
front_by n xs ys zs e l =
    let long = ap length e ∙ l in
    take-append-le n xs ys (omega (arith, long)) ∙ take_all n xs (omega (arith, long)) ∙ e

pub returns-clause-segments : goal.returns-clause-segments
returns-clause-segments c =
    front_by c.args.count c.restore_from.new.segments _ _
    (c.restore_from.ensures.segments
    ∙ ap (λ n. restored c.args.decisions.now.scale (segments_from c.args.symbols.now 0 n))
    (length-take-le c.args.count c.args.segments.now (omega (arith, c.requires.long, c.requires.few))))
    (length-restored c.args.decisions.now.scale (segments_from c.args.symbols.now 0 c.args.count)
    ∙ length-segments_from c.args.symbols.now 0 c.args.count)
