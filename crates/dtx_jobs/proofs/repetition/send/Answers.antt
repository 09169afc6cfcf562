use Rattle.std.proofs.Common.{◌≡◌, ◌++◌, ◌∷◌, [], ℕ, List, length, map, sym, ap, ap₂, subst, ◌∙◌}
use Rattle.std.proofs.Common.{append_assoc, arith}
use Rattle.dtx_coder.specs.Stream.{symbols_of}
use Rattle.dtx_exciter.specs.Log.{line_of}
use Rattle.dtx_exciter.specs.Packets.{group_part}
use Rattle.dtx_exciter.specs.Log.{emission_over}
use Rattle.dtx_files.proofs.GivenFewLemmas.{given_few}
use Rattle.dtx_files.specs.LogText.{log_text}
use Rattle.dtx_files.specs.Symbols.{byte_of_symbol}
use Rattle.dtx_repeat.specs.GoingOn.{last_life}
use Rattle.dtx_repeat.proofs.GoingOnLemmas.{last_longer_one}
use Rattle.dtx_repeat.specs.Repeater.{StandsFor}
use Rattle.dtx_recipes.specs.Life.{tally_with, HasRoom, lives_tally}
use Rattle.dtx_engine.specs.Made.{both}
use Rattle.dtx_recipes.proofs.LivesLemmas.{brought_by, line_by, sent_longer, logged_longer}
use Rattle.dtx_jobs.proofs.LivesLemmas.{tally_longer}
use Rattle.dtx_recipes.specs.declared.life_tally.LifeTally.{LifeTally}
use Rattle.dtx_jobs.proofs.LivesOn.{lives_room}
use Rattle.dtx_jobs.proofs.repetition.send.Goals as goal

pub add-requires : goal.add-requires
add-requires c =
    let p = c.args.packet.now.0 in
    let old = c.args.sending.now.tally in
    let some = c.requires.some in
    let a = some.0 in
    let d = some.1 in
    let ls = some.3 in
    let counted = (c.send-told.ensures a d some.2 (last_life ls) some.4.stands).air.counted in
    let room : HasRoom old (length (brought_by a d ls p)) =
    lives_room a d ls p old some.4.counted (omega (arith, c.requires.few)) in (
      omega arith,
      (
        subst (HasRoom old) (sym counted) room,
        (
          omega (arith, counted, given_few a d (last_life ls ++ p ∷ [])),
          (omega (arith, c.requires.symbols), omega (arith, c.requires.lines)),
        ),
      ),
    )

pub returns-clause-sent : goal.returns-clause-sent
returns-clause-sent c = λ a d s ls is some.
    let p = c.args.packet.now.0 in
    let old = c.args.sending.now in
    let told = c.send-told.result in
    let segments = c.send-told.new.air.segments in
    let taken = c.send-told.ensures a d s (last_life ls) is.stands in
    let n : ℕ = length (emission_over a d ls) in
    let m : ℕ = length (brought_by a d ls p) in
    let brought : List ℕ = map byte_of_symbol (symbols_of (brought_by a d ls p)) in
    let line : List ℕ = log_text (line_by a d ls p) in
    let text : log_text (line_of old.tally.segments segments told) ≡ line =
    ap (λ (t : LifeTally). log_text (line_of t.segments segments told)) is.counted
    ∙ ap (λ k. log_text (line_of n k told)) taken.air.counted
    ∙ ap (λ t. log_text (line_of n m t)) taken.answer in
    record {
      sending = record {
        stands = subst (StandsFor a d c.send-told.new.self s) (sym (last_longer_one ls (p ∷ []) some)) taken.stands;
        counted = c.add.ensures.tally n m
            ∙ ap (λ (t : LifeTally). tally_with t segments (line_of n m told)) is.counted
            ∙ ap (λ k. tally_with (lives_tally a d ls) k (line_of n m told)) taken.air.counted
            ∙ ap (λ t. tally_with (lives_tally a d ls) m (line_of n m t)) taken.answer
            ∙ tally_longer a d ls p some;
      };
      made = λ front e.
          ap₂ both
          (sent_longer a d ls p some ∙ ap (λ w. w.first ++ brought) e ∙ append_assoc front.first old.symbols brought
          ∙ ap (λ z. front.first ++ z)
          (ap (λ z. old.symbols ++ z) (ap (map byte_of_symbol) (sym taken.air.begins)) ∙ sym c.add.ensures.symbols))
          (logged_longer a d ls p some ∙ ap (λ w. w.second ++ line) e ∙ append_assoc front.second old.lines line
          ∙ ap (λ z. front.second ++ z) (ap (λ z. old.lines ++ z) (sym text) ∙ sym c.add.ensures.lines));
      spaced = omega (
        arith,
        taken.air.counted,
        c.groups_are_spaced.ensures.spaced a d (last_life ls) p,
        c.add.ensures.long,
        ap group_part (last_longer_one ls (p ∷ []) some),
      );
    }
