use Rattle.std.proofs.Common.{List, ℕ, [], ◌∷◌, ◌++◌, ap, sym, ◌∙◌, lit<}
use Rattle.std.specs.Prelude.{codes}
use Rattle.std.proofs.lemmas.Fmt.{decimal_digit}
use Rattle.dtx_words.specs.Names.{line_name, feed_name, trial_name}
use Rattle.dtx_top.proofs.top.trial_input.Goals as goal

pub returns : goal.returns
returns c =
    c.name_among.ensures
    ∙ ap (λ name. line_name c.args.status (name ∷ c.feed_name.result.now ∷ codes "tx-3.sym" ∷ [])) c.trial_name.ensures
    ∙ ap (λ name. line_name c.args.status (trial_name ∷ name ∷ codes "tx-3.sym" ∷ [])) c.feed_name.ensures
    ∙ ap (λ (digits : List ℕ).
    line_name c.args.status (trial_name ∷ feed_name ∷ (codes "tx-" ++ (digits ++ codes ".sym")) ∷ []))
    (sym (decimal_digit 3 (lit< tt)))
