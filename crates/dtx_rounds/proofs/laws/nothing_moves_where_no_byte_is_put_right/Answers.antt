use Rattle.std.proofs.Common.{arith, sym, ◌∙◌}
use Rattle.dtx_receiver.specs.Bytes.{bytes_in}
use Rattle.dtx_acquire.specs.Acquired.{acquired, all_fields}
use Rattle.dtx_rounds.proofs.FieldRows.{are_fields}
use Rattle.dtx_rounds.proofs.Kept.{none_some}
use Rattle.dtx_rounds.proofs.OwnRounds.{own_code, still}
use Rattle.dtx_rounds.proofs.laws.nothing_moves_where_no_byte_is_put_right.Goals as goal

pub returns-clause-own : goal.returns-clause-own
returns-clause-own c =
    λ scale r symbols some most own. still scale r symbols
    (are_fields (all_fields symbols) (c.whole_fields_are_acquired.ensures.most symbols)
    (c.whole_fields_are_acquired.ensures.fields symbols)) some (omega (arith, most)) own

pub returns-clause-codewords : goal.returns-clause-codewords
returns-clause-codewords c =
    λ scale r symbols some most words. returns-clause-own c scale r symbols some most
    (λ k code e. own_code (bytes_in (acquired scale symbols)) k code (words k) e)

pub returns-clause-none : goal.returns-clause-none
returns-clause-none c =
    λ scale r symbols some most none. returns-clause-own c scale r symbols some most
    (λ k code e. absurd (none_some code (sym (none k) ∙ e)))
