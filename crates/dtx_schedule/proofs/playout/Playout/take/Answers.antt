use Rattle.std.proofs.Common.{◌≡◌, ◌+◌, ◌*◌, ◌<◌, ◌≤◌, ◌++◌, ◌∷◌, [], ℕ, List, pos, length, take, get_or, set, sym, ap}
use Rattle.std.proofs.Common.{subst, ◌∙◌, arith}
use Rattle.std.specs.Prelude.{Some, slice_get}
use Rattle.std.proofs.lemmas.List.{get_or_default}
use Rattle.std.proofs.lemmas.Option.{slice_get-get_or, slice_get_read}
use Rattle.dtx_exciter.specs.Log.{line_of}
use Rattle.dtx_files.specs.LogText.{log_text}
use Rattle.dtx_net.specs.Standing.{IsGiven}
use Rattle.dtx_net.specs.Steps.{packet_step}
use Rattle.dtx_plan.specs.declared.transmitter.Transmitter.{Transmitter}
use Rattle.dtx_schedule.specs.Playout.{AreSent, HasTransmitter}
use Rattle.dtx_schedule.specs.declared.playout.Playout.{Playout}
use Rattle.dtx_schedule.proofs.PlayoutOn.{given_packet, brings_few, few_more, given_brings, given_sends, sent_more}
use Rattle.dtx_schedule.proofs.playout.Playout.take.Goals as goal

sent_within : (playout : Playout) (who : ℕ) → HasTransmitter who playout → who < length playout.sent.items
sent_within playout who there = let long = there.playing.sent.long in omega (arith, there.within, long)

-- what is read as the count of a transmitter is at most five segments a step
few_sent : (playout : Playout) (who n : ℕ) → HasTransmitter who playout → n ≡ get_or playout.sent.items who n
    → n ≤ 5 * playout.steps
few_sent playout who n there is = grind (arith, slice_get_read, sent_within)

pub write_line-requires : goal.write_line-requires
write_line-requires c = grind (arith, few_sent)

pub overflow_add-index_mut : goal.overflow_add-index_mut
overflow_add-index_mut c = grind (arith, few_sent)

pub bring-requires : goal.bring-requires
bring-requires c =
    let there = c.requires.there in
    brings_few there.ts there.steps c.args.who c.args.packet.now.0 c.step-told.result c.step-told.new.air.segments
    c.step-told.new.air.symbols c.step-told.new.self there.within
    (λ t at_t. c.step-told.ensures.given there.ts there.steps t there.playing.net at_t)

pub returns-clause-playing : goal.returns-clause-playing
returns-clause-playing c = λ ts steps s.
    let who = c.args.who in
    let packet = c.args.packet.now.0 in
    let sent = c.args.self.now.sent.items in
    let count = c.step-told.new.air.segments in
    let symbols = c.step-told.new.air.symbols in
    let gives : (t : Transmitter) → slice_get ts who ≡ Some t
    → IsGiven ts steps who t packet c.step-told.new.self c.step-told.result count symbols =
    λ t at_t. c.step-told.ensures.given ts steps t s.net at_t in
    let inside : who < length ts = let there = c.requires.there in let a = there.playing.net.long in let b =
    s.net.long in omega (arith, there.within, a, b) in
    let within : who < length sent = let long = s.sent.long in omega (arith, long, inside) in
    let items = ap (λ n. set sent who (n + count)) (c.index_mut.ensures.value
    ∙ get_or_default sent who c.index_mut.result.now 0 within) in
    record {
      transmitters = s.transmitters;
      names = s.names;
      net = (gives (get_or ts who (record { address = 0; offset = pos 0; delay = 0 }))
          (slice_get-get_or ts who _ inside)).stands;
      sent = subst (AreSent ts (steps ++ packet_step who packet ∷ [])) (sym items)
          (sent_more ts steps (packet_step who packet) sent count s.sent
          (given_sends ts steps who packet count (λ t at_t. (gives t at_t).air.counted)));
      few = subst (λ (ns : List ℕ). (i : ℕ) (n : ℕ) → slice_get ns i ≡ Some n
          → n ≤ 5 * (c.args.self.now.steps + 1)) (sym items) (few_more sent who count c.args.self.now.steps within
          (brings_few ts steps who packet c.step-told.result count symbols c.step-told.new.self inside gives) s.few);
      count = ap (λ n. n + 1) s.count ∙ sym (given_packet steps who packet);
    }

pub returns-clause-brings : goal.returns-clause-brings
returns-clause-brings c = λ ts steps s.
    let who = c.args.who in
    let count = c.step-told.new.air.segments in
    let symbols = c.step-told.new.air.symbols in
    let sent = c.args.self.now.sent.items in
    let there = c.requires.there in
    let within = sent_within c.args.self.now who there in
    given_brings ts steps who c.args.packet.now.0 sent c.step-told.result count symbols
    c.step-told.new.self (take c.bring.result c.bring.new.bytes) c.write_line.new.text.bytes s.sent
    (λ t at_t. c.step-told.ensures.given ts steps t s.net at_t) (grind arith) (c.write_line.ensures
    ∙ ap (λ n. log_text (line_of n count c.step-told.result)) (c.index.ensures
    ∙ get_or_default sent who c.index.result.now 0 within))
