use Rattle.std.proofs.Common.{ℕ, ◌-◌, List, length, take}
use Rattle.std.proofs.lemmas.Slice.Eq.{ends_is}
use Rattle.std.proofs.lemmas.Bool.Decides.{Decides-eqb}
use Rattle.dtx_fast.proofs.fast.has_parity.Goals as goal

pub returns-clause-same : goal.returns-clause-same
returns-clause-same c =
    let word : List ℕ = c.args.word.now in
    let parity : List ℕ = c.args.parity.now in
    let both = ends_is Decides-eqb word parity c.ends_with.result c.ends_with.ensures.value in (
      both.0,
      both.1 (take (length word - length parity) word),
    )
