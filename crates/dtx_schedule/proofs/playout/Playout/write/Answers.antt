use Rattle.std.proofs.Common.{◌<◌, ◌≡◌, ℕ, List, pos, get_or, length, take, refl, ap, ◌∙◌, arith}
use Rattle.std.specs.Prelude.{Option, Some, Result, slice_get}
use Rattle.std.proofs.lemmas.Option.{slice_get-get_or, slice_get_read}
use Rattle.dtx_outside.specs.Shelf.{Files}
use Rattle.dtx_outside.specs.declared.shelf.WriteNo.{WriteNo}
use Rattle.dtx_plan.specs.declared.transmitter.Transmitter.{Transmitter}
use Rattle.dtx_schedule.specs.Playout.{AreNamesOf, HasPair, IsPairOf, AreNames}
use Rattle.dtx_schedule.specs.declared.pair.FileNames.{FileNames}
use Rattle.dtx_schedule.proofs.Written.{AddsTo, are_apart, step_written}
use Rattle.dtx_schedule.proofs.playout.Playout.write.Goals as goal

-- with the names at a place, of those of all
adds_to : (ts : List Transmitter) (names : List FileNames) (who : ℕ) (t : Transmitter) (its : FileNames)
    (symbols line : List ℕ)
    (told : Option Files) (result : Result (Unit {0}) WriteNo) (now : Option Files) → AreNames ts names
    → slice_get ts who ≡ Some t → who < length names → its ≡ get_or names who its
    → ((address : ℕ) (sent logged : List ℕ) (held : Files) → AreNamesOf address its → told ≡ Some held
    → HasPair address sent logged held → IsPairOf address sent logged symbols line held result now)
    → AddsTo t.address symbols line told result now
adds_to ts names who t its symbols line told result now named at_t within is appended =
    λ sent logged held there has. appended t.address sent logged held (named.each who t its at_t
    (slice_get_read names (length names) who its refl within is)) there has

pub returns-clause-written : goal.returns-clause-written
returns-clause-written g c = λ ts held steps step same are named brings is.
    let none : Transmitter = record { address = 0; offset = pos 0; delay = 0 } in
    let who = c.args.who in
    let names = c.args.self.now.names.items in
    let within : who < length ts = let long = named.long in omega (arith, c.requires.within, long) in
    let t : Transmitter = get_or ts who none in
    let at_t : slice_get ts who ≡ Some t = slice_get-get_or ts who none within in
    let told = g.S.Shelf.files c.args.shelf.now in
    let now = g.S.Shelf.files c.append_both.new.shelf in
    let symbols = take c.args.count c.args.self.now.bytes in
    step_written ts steps step t symbols c.args.self.now.line.bytes held told now c.append_both.result
    (are_apart ts names are named) (ap (slice_get ts) same ∙ at_t) brings is (grind (arith, adds_to))
