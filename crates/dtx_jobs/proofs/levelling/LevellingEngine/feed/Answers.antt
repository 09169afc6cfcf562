use Rattle.std.proofs.Common.{ap₂, sym, subst}
use Rattle.std.proofs.lemmas.List.{map-append}
use Rattle.dtx_engine.specs.Made.{both}
use Rattle.dtx_level.specs.Leveller.{StandsFor}
use Rattle.dtx_recipes.specs.SymbolFile.{symbol_of_byte, symbols}
use Rattle.dtx_jobs.proofs.levelling.LevellingEngine.feed.Goals as goal

pub returns-clause-fed : goal.returns-clause-fed
returns-clause-fed c = λ before long stand.
    let all = map-append symbol_of_byte before c.args.bytes.now in
    let levelled = c.level_piece.ensures.levelled in
    record {
      stand = record {
        room = c.level_piece.ensures.room;
        stands = subst (StandsFor c.level_piece.new.leveller) (sym all)
            (levelled.stands (symbols before) stand.stands);
      };
      made = ap₂ both
          (cc (all, levelled.symbols_are (symbols before) stand.stands))
          (cc (all, levelled.lines (symbols before) stand.stands));
    }
