use Rattle.std.proofs.Common.{[], ◌∷◌}
use Rattle.dtx_recipes.specs.Refine.{with_refiner}
use Rattle.dtx_recipes.specs.SymbolFile.{symbols}
use Rattle.dtx_packets.specs.Packets.{packets_of}
use Rattle.dtx_symbol_laws.specs.RestoredFile.{file_refined}
use Rattle.dtx_file_laws.proofs.BothEnds.{are_packets, holds_bytes}
use Rattle.dtx_file_laws.proofs.CaptureEnds.{restore_through}
use Rattle.dtx_file_laws.proofs.laws.both_ends.run_of_code_and_refine.Goals as goal

pub returns : goal.returns
returns g c = λ input sent got output stream bytes file scale rounds code refine positive most one many there coded
    left noise here done.
    let are = holds_bytes (g.S.Shelf.files c.args.sender.now) input stream c.known.ensures there in
    let whole = are_packets stream are in
    restore_through (with_refiner scale rounds) (file_refined scale rounds file)
    (g.S.Shelf.files c.args.sender.now) (g.S.Shelf.files c.run_of_code-sent.new.shelf)
    (g.R.Shelf.files c.args.receiver.now) (g.R.Shelf.files c.run_of_refine-refined.new.shelf) input sent got output
    stream bytes file scale _ _
    (record {
      stream = c.a_stream_is_refined.ensures scale rounds (packets_of stream) (symbols file) positive most whole;
      written = c.a_noisy_capture_is_refined.ensures (output ∷ []) (packets_of stream) scale rounds file positive most
          whole;
      no_sync = c.all_is_refined_of_a_file.ensures.no_sync (output ∷ []) scale rounds file;
    })
    there coded left (c.run_of_code-sent.ensures.done input sent stream code) noise here done
    (c.run_of_refine-refined.ensures.done scale rounds got output file refine positive most one many)
