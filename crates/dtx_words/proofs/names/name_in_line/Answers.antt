use Rattle.std.proofs.Common.{◌≤◌, ◌∙◌, length, map, ap, subst, sym}
use Rattle.dtx_words.specs.Rows.{Row}
use Rattle.dtx_words.specs.Names.{line_name}
use Rattle.dtx_words.proofs.FileNames.{few_fields}
use Rattle.dtx_words.proofs.FittedRow.{names_behind}
use Rattle.dtx_words.proofs.names.name_in_line.Goals as goal

pub names_at-requires : goal.names_at-requires
names_at-requires c =
    subst (λ (row : Row). length row.fields ≤ 5) (sym c.row.ensures) (few_fields c.in-Some-len1-up.command)

pub returns-in-Some-len1-up : goal.returns-in-Some-len1-up
returns-in-Some-len1-up c =
    let names = ap (map (λ name. name.now)) c.deref.ensures.0 ∙ c.names_at.ensures
    ∙ names_behind c.row.result.now c.in-Some-len1-up.command c.args.words.now c.row.ensures
    c.in-Some-len1-up.len_at_least in
    rw c.in-Some-len1-up.is-0 (c.name_among.ensures ∙ ap (line_name c.args.status) names)
