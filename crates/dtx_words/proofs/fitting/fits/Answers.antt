use Rattle.std.proofs.Common.{sym, ◌∙◌}
use Rattle.dtx_words.proofs.FittedRow.{fits_behind, fits_not, none_fit}
use Rattle.dtx_words.proofs.fitting.fits.Goals as goal

pub returns-in-empty : goal.returns-in-empty
returns-in-empty c = none_fit c.args.command c.args.words.now c.in-empty.len_below

pub returns-then-eq : goal.returns-then-eq
returns-then-eq c =
    fits_behind c.row-row.result.now c.args.command c.args.words.now c.as_str.result.now c.verb-item.result
    c.fit_fields.result c.row-row.ensures c.in-len1-up.len_at_least (c.as_str.ensures ∙ c.verb-item.is)
    (sym c.eq.ensures ∙ c.if-eq.true) c.fit_fields.ensures

pub returns-else-eq : goal.returns-else-eq
returns-else-eq c =
    fits_not c.row-row.result.now c.args.command c.args.words.now c.as_str.result.now c.verb-item.result c.eq.result
    c.row-row.ensures c.in-len1-up.len_at_least (c.as_str.ensures ∙ c.verb-item.is)
    (sym c.eq.ensures ∙ c.if-eq.false) c.if-eq.false
