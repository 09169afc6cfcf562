use Rattle.std.proofs.Common.{rules, ◌≡◌, ℕ, ◌+◌, ◌*◌, cond, [], ◌++◌, take, ap, ap₂, ◌∙◌}
use Rattle.std.specs.Option.{unwrap_or}
use Rattle.dtx_frame.specs.Segments.{field_sync}
use Rattle.dtx_trellis.specs.Groups.{levels_of, states_after}
use Rattle.dtx_coder.specs.Stream.{four_segments, symbols_of}
use Rattle.dtx_coder.specs.Groups.{Coding}
use Rattle.dtx_coder.specs.Batches.{InterleavedGroup}
use Rattle.dtx_coder.proofs.Sent.{does_send}
use Rattle.dtx_coder.proofs.sender.Sender.send.Goals as goal

pub returns : goal.returns
returns c = λ held.
    let old : Coding = record { states = c.args.self.now.twelve; last = c.args.self.now.last; branches = held } in
    let given : InterleavedGroup = record {
      first = c.args.first;
      second = c.args.second;
      sync = c.args.sync;
      from = unwrap_or c.args.preset c.args.self.now.twelve;
      bytes = c.args.bytes.now;
    } in
    let from : c.start_from.new.twelve ≡ unwrap_or c.args.preset c.args.self.now.twelve = c.start_from.ensures in
    let begun : take (832 * c.begin.new.self.segments) c.begin.new.self.symbols
    ≡ cond c.args.sync (field_sync c.args.second c.args.self.now.last) [] = c.begin.ensures.symbols in
    does_send old given c.add_group.new.twelve c.last-self.result c.add_group.new.self.segments
    c.add_group.new.self.symbols
    (record {
      bytes_long = c.add_group.ensures.long;
      states_are = c.add_group.ensures.states ∙ ap (λ q. states_after c.args.first q c.args.bytes.now) from;
      counted = c.add_group.ensures.segments ∙ ap (λ (n : ℕ). n + 4) c.begin.ensures.segments;
      twelve = search rules;
      written = c.add_group.ensures.symbols
          ∙ ap₂ (λ s q. s ++ symbols_of (four_segments (levels_of c.args.first q c.args.bytes.now) 0)) begun from;
      ends = c.last-self.ensures;
    })
