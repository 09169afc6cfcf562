use Rattle.std.proofs.Common.{◌≡◌, ℕ, false, List, ap, ap₂, subst, sym, ◌∙◌}
use Rattle.std.specs.Prelude.{find}
use Rattle.std.specs.Str.{bytes_eq}
use Rattle.dtx_plan.specs.declared.transmitter.Transmitter.{Transmitter}
use Rattle.dtx_schedule.specs.TransmitterFiles.{transmitter_names}
use Rattle.dtx_words.specs.Names.{feed_name}
use Rattle.dtx_top.specs.NetNames.{is_given}
use Rattle.dtx_top.specs.Networks.{received_names}
use Rattle.dtx_top.proofs.FileNames.{AreSmall, repeated_past}
use Rattle.dtx_top.proofs.network_names.repeated_file.Goals as goal

pub returns-else-is_given : goal.returns-else-is_given
returns-else-is_given c =
    let name = c.args.name.now in
    let network = c.args.network.now in
    let own : bytes_eq name network.stream ≡ false =
    sym (ap (bytes_eq name) c.as_str-stream.ensures) ∙ sym c.eq.ensures ∙ c.if-eq.false in
    let fed : is_given name network.stream feed_name ≡ false =
    sym (ap₂ (is_given name) c.as_str-stream.ensures c.feed_name.ensures) ∙ sym c.is_given.ensures
    ∙ c.if-is_given.false in
    repeated_past (λ name. name.bytes) c.given_again-sent.result c.received_again.result c.or.result name
    c.args.plan.now network c.requires.sound
    (subst AreSmall c.as_slice.ensures c.given_again-sent.ensures.small) own fed c.or.ensures
    (c.given_again-sent.ensures.name
    ∙ ap₂ (λ (stream : List ℕ) (ts : List Transmitter). find (is_given name stream) (transmitter_names ts))
    c.as_str-stream.ensures c.as_slice.ensures)
    (c.received_again.ensures
    ∙ ap (λ (stream : List ℕ). find (is_given name stream) (received_names network.receive)) c.as_str-stream.ensures)
