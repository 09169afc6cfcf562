use Rattle.std.proofs.Common.{rules, arith}
use Rattle.std.proofs.lemmas.List.{same_lists, places}
use Rattle.dtx_spread.proofs.rings.exchange_many.Goals as goal

pub returns-else-count-len-clause-gone : goal.returns-else-count-len-clause-gone
returns-else-count-len-clause-gone c = same_lists _ _ (search (rules, places)) (λ k d h. grind (arith, places))

pub returns-else-count-len-clause-items : goal.returns-else-count-len-clause-items
returns-else-count-len-clause-items c = same_lists _ _ (search (rules, places)) (λ k d h. grind (arith, places))
