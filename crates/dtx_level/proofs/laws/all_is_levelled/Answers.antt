use Rattle.std.proofs.lemmas.List.{take-append-drop}
use Rattle.dtx_level.specs.Levelled.{known, levelled, levelled_rest, levelled_so_far}
use Rattle.dtx_level.proofs.laws.all_is_levelled.Goals as goal

pub returns : goal.returns
unfolding levelled_so_far levelled_rest
returns c = λ symbols. take-append-drop (known symbols) (levelled symbols)
