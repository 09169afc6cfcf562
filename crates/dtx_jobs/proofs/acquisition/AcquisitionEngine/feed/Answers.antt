use Rattle.std.proofs.Common.{ap, sym, subst, arith}
use Rattle.std.proofs.lemmas.List.{length-map, map-append}
use Rattle.dtx_recipes.specs.Restoring.{restoring_by}
use Rattle.dtx_recipes.specs.SymbolFile.{symbol_of_byte, symbols}
use Rattle.dtx_jobs.proofs.acquisition.AcquisitionEngine.feed.Goals as goal

pub restore_piece-requires : goal.restore_piece-requires
restore_piece-requires g c =
    let some = c.requires.given in (
      omega arith,
      (
        (symbols some.0, some.2.given, omega (arith, length-map some.0 symbol_of_byte, some.1, c.requires.most)),
        (omega (arith, c.requires.room), (some.2.long, c.clear.ensures)),
      ),
    )

pub returns-clause-kept : goal.returns-clause-kept
returns-clause-kept g c = ap restoring_by c.restore_piece.ensures.kept

pub returns-clause-fed : goal.returns-clause-fed
returns-clause-fed g c = λ before long stand.
    let made = g.R.Restorer.restoring c.args.self.now.restorer in
    let all = map-append symbol_of_byte before c.args.bytes.now in
    let restored = c.restore_piece.ensures.restored in
    record {
      stand = record {
        long = c.restore_piece.ensures.room;
        given = subst (g.R.Restorer.stands c.restore_piece.new.restorer) (sym all)
            (restored.stands (symbols before) stand.given);
      };
      made =
          cc (all, restored.made (symbols before) stand.given);
    }
