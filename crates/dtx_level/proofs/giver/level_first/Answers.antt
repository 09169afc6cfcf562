use Rattle.std.proofs.Common.{◌≡◌, ◌++◌, ℕ, ℤ, List, length, take, ap, ◌∙◌, arith}
use Rattle.std.proofs.lemmas.List.{length-map, length-take-le, take-append-le, take_all}
use Rattle.dtx_level.specs.Levelled.{level}
use Rattle.dtx_level.proofs.giver.level_first.Goals as goal

front_by : (n : ℕ) (xs ys zs : List ℤ) → xs ≡ zs → length zs ≡ n → take n (xs ++ ys) ≡ zs
front_by n xs ys zs e l =
    let long = ap length e ∙ l in
    take-append-le n xs ys (omega (arith, long)) ∙ take_all n xs (omega (arith, long)) ∙ e

pub returns-clause-front : goal.returns-clause-front
returns-clause-front c =
    front_by c.args.count c.level_all.new.out _ _ c.level_all.ensures
    (length-map (take c.args.count c.args.symbols.now) (level (record {
      begun = c.args.levels.now.begun;
      gain = c.args.levels.now.gain;
      constant = c.args.levels.now.constant;
    }))
    ∙ length-take-le c.args.count c.args.symbols.now c.requires.room)
