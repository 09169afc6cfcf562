use Rattle.std.proofs.Common.{◌≡◌, ℕ, ℤ, ◌+◌, ◌-◌, ◌%◌, ◌≤◌, List, Some, length, take, sym, ap, ◌∙◌, arith}
use Rattle.std.proofs.lemmas.List.{length-map, length-take-le}
use Rattle.dtx_receiver.specs.Bytes.{symbols_in, symbols_of}
use Rattle.dtx_receiver.proofs.AnswersLemmas.{place_seen, seen, step_all}
use Rattle.dtx_receiver.proofs.receiver.RunReceiver.take_data.Goals as goal

pub returns-clause-received : goal.returns-clause-received
returns-clause-received g c = λ before h.
    let count : ℕ = c.min-count.result in
    let all : List (List ℕ) = c.args.segments.now in
    let within : count ≤ length all = omega (arith, c.min-count.ensures, c.min.ensures) in
    let fits : c.args.place + count ≤ 313 = omega (arith, c.min-count.ensures, c.min.ensures, c.requires.within) in
    let xs : List (List ℤ) = symbols_in (take count all) in
    let long : length xs ≡ count = length-map (take count all) symbols_of ∙ length-take-le count all within in
    let back : c.args.place - 1 + 1 ≡ c.args.place = omega (arith, c.requires.due) in
    step_all c.known.ensures before xs c.self.inside.place (Some ((c.args.place + count) % 313))
    c.self.inside.decoder c.take_all.new.self c.args.place c.take_all.new.batch.packets.items
    (seen c.self.view_is h)
    (place_seen (sym c.self.view_is) c.requires.place) c.requires.due (omega (arith, fits, long))
    (ap (λ n. Some ((c.args.place + n) % 313)) (sym long))
    (λ run d e. record {
      holds = c.take_all.ensures.stands run d (e ∙ sym back);
      packets = c.take_all.ensures.packets run d (e ∙ sym back);
    })
