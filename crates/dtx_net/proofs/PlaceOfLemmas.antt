-- The place of an address among those of the transmitters.
use Rattle.std.proofs.Common.{◌≡◌, ◌≢◌, ℕ, ◌<◌, false, Some, None, List, length, pos, sym, ap, ◌∙◌, arith, get_or}
use Rattle.std.specs.Prelude.{nat_eq, slice_get, is_some, AllPairs}
use Rattle.std.proofs.lemmas.Bool.{eq-eqb, ne_eqb, eqb-true}
use Rattle.std.proofs.lemmas.Bool.Decides.{Decides-eqb}
use Rattle.std.proofs.lemmas.List.{get_or-map, length-map}
use Rattle.std.proofs.lemmas.List.Quantifiers.{position-Some}
use Rattle.std.proofs.lemmas.Map.Made.{AllPairs-from_IsDistinct}
use Rattle.std.proofs.lemmas.Option.{slice_get-get_or, slice_get_within, get_or_from_slice_get}
use Rattle.dtx_plan.specs.declared.transmitter.Transmitter.{Transmitter}
use Rattle.dtx_plan.proofs.PlacesLemmas.{has_place}
use Rattle.dtx_plan.specs.TransmitterTable.{addresses_of, has_address}
use Rattle.dtx_plan.specs.Sound.{AreTransmitters}
use Rattle.dtx_net.specs.Steps.{transmitter_place}
use Rattle.dtx_net.proofs.PlacesLemmas.{position_found}

none : Transmitter
none = record { address = 0; offset = pos 0; delay = 0 }

address_at : (ts : List Transmitter) (i : ℕ) (t : Transmitter) → i < length ts
    → get_or (addresses_of ts) i 0 ≡ (get_or ts i t).address
address_at ts i t l = get_or-map (λ (t : Transmitter). t.address) ts i t 0 l

long : (ts : List Transmitter) → length (addresses_of ts) ≡ length ts
long ts = length-map ts (λ (t : Transmitter). t.address)

pub place_found : (ts : List Transmitter) (address who : ℕ) → transmitter_place address ts ≡ Some who
    → (t : Transmitter) × (slice_get ts who ≡ Some t) × (t.address ≡ address)
unfolding transmitter_place
place_found ts address who e =
    let f = position-Some (nat_eq address) (addresses_of ts) who 0 e in
    let within : who < length ts = omega (arith, f.0, long ts) in (
      get_or ts who none,
      slice_get-get_or ts who none within,
      sym (address_at ts who none within)
          ∙ sym (eqb-true address (get_or (addresses_of ts) who 0) f.1),
    )

pub place_only : (ts : List Transmitter) (who : ℕ) (t : Transmitter) → AreTransmitters ts → slice_get ts who ≡ Some t
    → transmitter_place t.address ts ≡ Some who
unfolding transmitter_place
place_only ts who t a e =
    let within : who < length (addresses_of ts) = omega (arith, slice_get_within ts who t e, long ts) in
    let here : t.address ≡ get_or (addresses_of ts) who 0 = sym (grind (arith, get_or_from_slice_get))
    ∙ sym (address_at ts who t (slice_get_within ts who t e)) in
    let apart : AllPairs (λ x y. x ≢ y) (addresses_of ts) =
    AllPairs-from_IsDistinct Decides-eqb (addresses_of ts) a.distinct in
    position_found (nat_eq t.address) (addresses_of ts) who within (λ k l. grind (arith, ne_eqb))
    (eq-eqb t.address (get_or (addresses_of ts) who 0) here)

pub place_missing : (ts : List Transmitter) (address : ℕ) → transmitter_place address ts ≡ None
    → has_address address ts ≡ false
place_missing ts address e = has_place address ts ∙ ap is_some e
