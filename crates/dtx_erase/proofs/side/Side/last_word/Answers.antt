use Rattle.std.proofs.Common.{ℕ, sym, subst, replicate, arith}
use Rattle.std.proofs.lemmas.List.{length-replicate}
use Rattle.dtx_receiver.specs.Bytes.{groups_of, bytes_in}
use Rattle.dtx_erase.specs.Sides.{Side, Holds}
use Rattle.dtx_erase.proofs.Gathered.{gathers_last}
use Rattle.dtx_erase.proofs.Stands.{side}
use Rattle.dtx_erase.proofs.side.Side.last_word.Goals as goal

pub returns-clause-word : goal.returns-clause-word
returns-clause-word c = λ run k d e z.
    let old = c.self.inside in
    let kept = side old.groups old.gather old.begun old.gathered in
    let here : Holds kept run = subst (λ (k : Side). Holds k run) (sym c.self.view_is) d in
    gathers_last kept.branches kept.begun (groups_of run) k (bytes_in run) (replicate {A = ℕ} 51 0) c.join.new.out
    here.gathers c.self.told.0 (length-replicate {A = ℕ} 51 0) e z (grind arith)
