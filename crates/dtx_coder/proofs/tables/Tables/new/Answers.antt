use Rattle.dtx_coder.proofs.tables.Tables.new.Goals as goal

pub invariant_of-result : goal.invariant_of-result
invariant_of-result c = record { white = rw c.in_ok-new-2.ensures.ok c.in_ok-new.ensures }
