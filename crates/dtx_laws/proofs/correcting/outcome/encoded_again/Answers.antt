use Rattle.std.proofs.Common.{ℕ, take, ap, ◌∙◌}
use Rattle.std.proofs.lemmas.List.{length-replicate}
use Rattle.dtx_laws.proofs.Encoded.{encoded_codeword, encoded_begins}
use Rattle.dtx_laws.proofs.correcting.outcome.encoded_again.Goals as goal

pub returns-clause-codeword : goal.returns-clause-codeword
returns-clause-codeword g c =
    encoded_codeword g.row.N g.row.K c.args.word.now c.take_data.new.head c.encode.new.word c.known.ensures
    c.take_data.ensures.bytes c.told-word
    (c.take_data.ensures.front ∙ ap (λ m. take m c.args.word.now) (length-replicate {A = ℕ} g.row.K 0))
    c.encode.ensures.codeword

pub returns-clause-begins : goal.returns-clause-begins
returns-clause-begins g c =
    encoded_begins g.row.N g.row.K c.args.word.now c.take_data.new.head c.encode.new.word c.known.ensures c.told-word
    (c.take_data.ensures.front ∙ ap (λ m. take m c.args.word.now) (length-replicate {A = ℕ} g.row.K 0))
    c.encode.ensures.codeword
