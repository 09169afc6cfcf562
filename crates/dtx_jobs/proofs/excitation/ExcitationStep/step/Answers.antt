use Rattle.std.proofs.Common.{◌≡◌, ◌<◌, ◌++◌, ◌∷◌, [], ℕ, List, length, map, take, get_or, refl, sym, ap, ap₂}
use Rattle.std.proofs.Common.{subst, ◌∙◌, append_assoc, arith}
use Rattle.std.proofs.lemmas.List.{take_more}
use Rattle.dtx_coder.specs.Stream.{symbols_of}
use Rattle.dtx_engine.specs.Made.{both}
use Rattle.dtx_exciter.specs.Kept.{StandsFor}
use Rattle.dtx_exciter.specs.Emission.{last_segments, emission}
use Rattle.dtx_exciter.specs.Log.{line_of}
use Rattle.dtx_exciter.specs.Packets.{last_answer}
use Rattle.dtx_files.proofs.GivenFewLemmas.{given_few}
use Rattle.dtx_files.specs.LogText.{log_text}
use Rattle.dtx_files.specs.Symbols.{byte_of_symbol}
use Rattle.dtx_forms.proofs.FilePacketsLemmas.{length-packets_of, packets_on}
use Rattle.dtx_packets.specs.Packets.{packets_of}
use Rattle.dtx_recipes.proofs.ExciteLemmas.{logged_push, sent_push}
use Rattle.dtx_recipes.specs.Life.{life_tally, logged_bytes, sent_bytes, tally_with, HasRoom}
use Rattle.dtx_recipes.specs.declared.life_tally.LifeTally.{LifeTally}
use Rattle.dtx_jobs.specs.Excitation.{IsLife}
use Rattle.dtx_jobs.proofs.LifeOn.{has_room, tally_push}
use Rattle.dtx_jobs.proofs.excitation.ExcitationStep.step.Goals as goal
use Rattle.dtx_jobs.proofs.excitation.ExcitationStep.step.Goals.{After-add}

pub add-requires : goal.add-requires
add-requires c =
    let a = c.args.self.now.address in
    let d = c.args.self.now.delay in
    let p : List ℕ = get_or c.as_chunks.result.0.now 0 [] in
    let some = c.requires.given in
    let before = packets_of some.0 in
    let stands = subst (λ e. StandsFor a d e before) (sym c.deref_mut.ensures.value) some.2.exciter in
    let counted = (c.take-told.ensures a d before stands).air.counted in
    let count = ap (λ (t : LifeTally). t.packets) some.2.tally in
    let few : c.args.self.now.sending.tally.packets < 624000000 =
    omega (arith, count, some.1, c.requires.some, c.requires.most, length-packets_of some.0) in
    let room = c.requires.ready in (
      omega arith,
      (
        subst (HasRoom c.args.self.now.sending.tally) (sym counted)
            (has_room a d before p c.args.self.now.sending.tally some.2.tally few),
        (
          omega (arith, counted, given_few a d (before ++ p ∷ [])),
          (omega (arith, room.2, c.requires.some), omega (arith, room.3, c.requires.some)),
        ),
      ),
    )

-- the exciter stands for these packets and one more, and the numbers are theirs
taken : (c : After-add) (ps all : List (List ℕ)) → all ≡ ps ++ get_or c.as_chunks.result.0.now 0 [] ∷ []
    → IsLife c.args.self.now ps
    → StandsFor c.args.self.now.address c.args.self.now.delay c.take-told.new.self all
    × (c.add.new.self.tally ≡ life_tally c.args.self.now.address c.args.self.now.delay all)
taken c ps all is life =
    let a = c.args.self.now.address in
    let d = c.args.self.now.delay in
    let p : List ℕ = get_or c.as_chunks.result.0.now 0 [] in
    let stands = subst (λ e. StandsFor a d e ps) (sym c.deref_mut.ensures.value) life.exciter in
    let took = c.take-told.ensures a d ps stands in
    let n : ℕ = length (emission a d ps) in
    let m : ℕ = length (last_segments a d (ps ++ p ∷ [])) in
    let told = c.take-told.result in (
      subst (StandsFor a d c.take-told.new.self) (sym is) took.stands,
      c.add.ensures.tally n m
          ∙ ap (λ (t : LifeTally). tally_with t c.take-told.new.air.segments (line_of n m told)) life.tally
          ∙ ap (λ k. tally_with (life_tally a d ps) k (line_of n m told)) took.air.counted
          ∙ ap (λ t. tally_with (life_tally a d ps) m (line_of n m t)) took.answer
          ∙ tally_push a d ps p ∙ ap (life_tally a d) (sym is),
    )

pub returns-clause-ready : goal.returns-clause-ready
returns-clause-ready c =
    let a = c.args.self.now.address in
    let d = c.args.self.now.delay in
    let p : List ℕ = get_or c.as_chunks.result.0.now 0 [] in
    let room = c.requires.ready in
    let stands = subst (λ e. StandsFor a d e room.0) (sym c.deref_mut.ensures.value) room.1.exciter in
    let life = taken (goal.at.returns-clause-ready c).After-add room.0 (room.0 ++ p ∷ []) refl room.1 in (
      room.0 ++ p ∷ [],
      record { exciter = life.0; tally = life.1 },
      omega (
        arith,
        room.2,
        (c.take-told.ensures a d room.0 stands).air.counted,
        c.groups_are_spaced.ensures.spaced a d room.0 p,
        c.add.ensures.long,
        c.requires.some,
      ),
      omega (arith, room.3, c.add.ensures.short, c.requires.some),
    )

pub returns-clause-stepped : goal.returns-clause-stepped
returns-clause-stepped c = λ given front long stand is.
    let a = c.args.self.now.address in
    let d = c.args.self.now.delay in
    let old = c.args.self.now.sending in
    let before = packets_of given in
    let chunks : List (List ℕ) = c.as_chunks.result.0.now in
    let p : List ℕ = get_or chunks 0 [] in
    let some : 0 < length chunks = omega (arith, c.requires.some, c.as_chunks.ensures.front_len) in
    let all : packets_of (given ++ take 188 c.args.bytes.now) ≡ before ++ p ∷ [] =
    packets_on given c.args.bytes.now 1 chunks (omega (arith, long)) c.as_chunks.ensures.front
    (omega (arith, c.requires.some)) ∙ ap (λ ps. before ++ ps) (take_more chunks 0 [] some) in
    let life = taken (goal.at.returns-clause-stepped c).After-add before _ all stand in
    let stands = subst (λ e. StandsFor a d e before) (sym c.deref_mut.ensures.value) stand.exciter in
    let took = c.take-told.ensures a d before stands in
    let n : ℕ = length (emission a d before) in
    let m : ℕ = length (last_segments a d (before ++ p ∷ [])) in
    let told = c.take-told.result in
    let segments = c.take-told.new.air.segments in
    let sent : List ℕ = map byte_of_symbol (symbols_of (last_segments a d (before ++ p ∷ []))) in
    let line : List ℕ = log_text (line_of n m (last_answer a d (before ++ p ∷ []))) in
    let text : log_text (line_of old.tally.segments segments told) ≡ line =
    ap (λ (t : LifeTally). log_text (line_of t.segments segments told)) stand.tally
    ∙ ap (λ k. log_text (line_of n k told)) took.air.counted
    ∙ ap (λ t. log_text (line_of n m t)) took.answer in
    record {
      stand = record { exciter = life.0; tally = life.1 };
      made = ap₂ both
          (ap (sent_bytes a d) all ∙ sent_push a d before p ∙ ap (λ w. w.first ++ sent) is
          ∙ append_assoc front.first old.symbols sent
          ∙ ap (λ z. front.first ++ z)
          (ap (λ z. old.symbols ++ z) (ap (map byte_of_symbol) (sym took.air.begins)) ∙ sym c.add.ensures.symbols))
          (ap (logged_bytes a d) all ∙ logged_push a d before p ∙ ap (λ w. w.second ++ line) is
          ∙ append_assoc front.second old.lines line
          ∙ ap (λ z. front.second ++ z) (ap (λ z. old.lines ++ z) (sym text) ∙ sym c.add.ensures.lines));
    }
