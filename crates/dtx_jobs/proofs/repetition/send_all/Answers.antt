use Rattle.std.proofs.Common.{◌≡◌, ◌+◌, ◌*◌, ◌<◌, ◌≤◌, false, ◌∷◌, [], ℕ, List, length, take, get_or}
use Rattle.std.proofs.Common.{refl, sym, ap, subst, ◌∙◌, arith}
use Rattle.std.proofs.lemmas.List.{take_all}
use Rattle.dtx_receiver.specs.declared.batch.Received.{Received}
use Rattle.dtx_repeat.specs.GoingOn.{last_life, longer}
use Rattle.dtx_repeat.proofs.GoingOnLemmas.{longer_none, longer_longer, length-longer}
use Rattle.dtx_repeat.specs.Lives.{packets_in}
use Rattle.dtx_jobs.specs.Repetition.{IsSentOn}
use Rattle.dtx_jobs.proofs.LivesOn.{sent_on, some_lives, packet_more}
use Rattle.dtx_jobs.proofs.repetition.send_all.Goals as goal

abbrev none : Received
none = record { packet = record { 0 = [] }; fixed = 0; good = false }

-- there is a life that the next packet belongs to
some_on : (ls : List (List (List ℕ))) (items : List Received) (i : ℕ) → i < length items → (ls ≡ [] → items ≡ [])
    → 0 < length (longer ls (packets_in (take i items)))
some_on ls items i inside nothing =
    omega (arith, length-longer ls (packets_in (take i items)), some_lives ls items i inside nothing)

pub loop-i-init : goal.loop-i-init
loop-i-init c =
    let sending = c.args.sending.now in
    record {
      sent = λ a d s ls is nothing.
          subst (λ z. IsSentOn a d c.args.repeater.now sending sending s ls z 0) (sym (longer_none ls)) (record {
            sending = is;
            made = λ front e. e;
            spaced = omega arith;
          });
      short = omega arith;
      count = omega arith;
    }

pub send-requires-clause-some : goal.send-requires-clause-some
send-requires-clause-some c =
    let some = c.requires.some in
    let items = c.args.packets.now in (
      some.0,
      some.1,
      some.2,
      longer some.3 (packets_in (take c.loop-i.i items)),
      (c.loop-i.invariant.sent some.0 some.1 some.2 some.3 some.4 some.5).sending,
      some_on some.3 items c.loop-i.i c.loop-i-test.true some.5,
    )

pub send-requires-clause-symbols : goal.send-requires-clause-symbols
send-requires-clause-symbols c =
    let some = c.requires.some in
    omega (
      arith,
      (c.loop-i.invariant.sent some.0 some.1 some.2 some.3 some.4 some.5).spaced,
      c.requires.symbols,
      c.groups_are_spaced.ensures.part (last_life some.3),
      c.loop-i-test.true,
    )

pub loop-i-preserved : goal.loop-i-preserved
loop-i-preserved c =
    let i = c.loop-i.i in
    let old = c.args.sending.now in
    let items = c.args.packets.now in
    let new = c.send.new.sending in
    let so_far = c.loop-i.invariant in
    let inside : i < length items = omega (arith, c.loop-i-test.true) in
    let p : List ℕ = (get_or items i none).packet.0 in
    record {
      sent = λ a d s ls stands nothing.
          let front = longer ls (packets_in (take i items)) in
          let all : longer front (p ∷ []) ≡ longer ls (packets_in (take (i + 1) items)) =
          longer_longer ls (packets_in (take i items)) (p ∷ []) ∙ ap (longer ls) (packet_more items i none inside) in
          let before = so_far.sent a d s ls stands nothing in
          subst (λ z. IsSentOn a d c.send.new.repeater old new s ls z (i + 1)) all
          (sent_on a d c.loop-i.repeater c.send.new.repeater old c.loop-i.sending new s s ls front
          (longer front (p ∷ [])) i 1 (i + 1) refl before
          (c.send.ensures.sent a d s front before.sending (some_on ls items i inside nothing)));
      short =
          let bound : length new.lines ≤ length old.lines + 64 * (i + 1) =
          omega (arith, c.send.ensures.short, so_far.short) in
          bound;
      count =
          let sum : new.tally.packets ≡ old.tally.packets + (i + 1) =
          omega (arith, c.send.ensures.count, so_far.count) in
          sum;
    }

pub returns-clause-sent : goal.returns-clause-sent
returns-clause-sent c = λ a d s ls stands nothing.
    let items = c.args.packets.now in
    let long : c.loop-i.i ≡ length items = omega (arith, c.loop-i-test.false, c.loop-i.auto.i-end) in
    let sent : (xs : List Received) (n : ℕ) → Type 0 =
    λ xs n. IsSentOn a d c.loop-i.repeater c.args.sending.now c.loop-i.sending s ls (longer ls (packets_in xs)) n in
    subst (sent items) long
    (subst (λ xs. sent xs c.loop-i.i) (take_all c.loop-i.i items (omega (arith, long)))
    (c.loop-i.invariant.sent a d s ls stands nothing))
