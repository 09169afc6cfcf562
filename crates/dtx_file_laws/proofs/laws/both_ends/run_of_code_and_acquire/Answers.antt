use Rattle.std.proofs.Common.{[], ◌∷◌}
use Rattle.dtx_recipes.specs.Acquire.{with_acquirer}
use Rattle.dtx_recipes.specs.SymbolFile.{symbols}
use Rattle.dtx_packets.specs.Packets.{packets_of}
use Rattle.dtx_symbol_laws.specs.RestoredFile.{file_acquired}
use Rattle.dtx_file_laws.proofs.CaptureEnds.{restore_through}
use Rattle.dtx_file_laws.proofs.laws.both_ends.run_of_code_and_acquire.Goals as goal

pub returns : goal.returns
returns g c = λ input sent got output stream bytes file scale code acquire positive most there coded left noise here
    done.
    restore_through (with_acquirer scale) (file_acquired scale file)
    (g.S.Shelf.files c.args.sender.now) (g.S.Shelf.files c.run_of_code-sent.new.shelf)
    (g.R.Shelf.files c.args.receiver.now) (g.R.Shelf.files c.run_of_acquire-acquired.new.shelf) input sent got output
    stream bytes file scale _ _
    (record {
      stream = c.a_stream_is_acquired.ensures scale (packets_of stream) (symbols file) positive;
      written = c.a_noisy_capture_is_acquired.ensures (output ∷ []) (packets_of stream) scale file positive;
      no_sync = c.all_is_acquired_of_a_file.ensures.no_sync (output ∷ []) scale file;
    })
    there coded left (c.run_of_code-sent.ensures.done input sent stream code) noise here done
    (c.run_of_acquire-acquired.ensures.done scale got output file acquire positive most)
