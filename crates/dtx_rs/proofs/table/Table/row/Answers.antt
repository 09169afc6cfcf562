use Rattle.dtx_rs.proofs.table.Table.row.Goals as goal

pub returns-clause-row : goal.returns-clause-row
returns-clause-row c = c.args.self.now.rows_hold c.args.k c.args.factor c.requires c.ranges.factor.fits

pub returns-clause-long : goal.returns-clause-long
returns-clause-long c = c.args.self.now.rests_long c.args.k c.args.factor c.requires c.ranges.factor.fits
