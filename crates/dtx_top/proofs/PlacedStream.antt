-- A stream in which placeholders were put is a stream, and where a field of it has one.
use Rattle.std.proofs.Common.{◌≡◌, ℕ, ◌+◌, ◌*◌, ◌/◌, ◌%◌, ◌<◌, ◌≤◌, Bool, false, true, List, [], ◌∷◌, length, drop}
use Rattle.std.proofs.Common.{get_or, suc, inl, inr, subst, sym, ◌∙◌, arith}
use Rattle.std.specs.List.{list_any}
use Rattle.std.proofs.lemmas.Bool.{eqb-true, or_cases}
use Rattle.std.proofs.lemmas.List.{get_or-drop, get_or-take, length-take}
use Rattle.std.proofs.lemmas.List.Elements.{All-get_or, All-from_get_or}
use Rattle.dtx_adapter.specs.Feed.{is_placeholder}
use Rattle.dtx_galois.proofs.BytesLemmas.{AreBytes-from_places}
use Rattle.dtx_galois.specs.Field.{AreBytes}
use Rattle.dtx_laws.proofs.PartsLemmas.{byte_at}
use Rattle.dtx_network.specs.Plans.{IsStream}
use Rattle.dtx_packets.specs.Packets.{pid_of}
use Rattle.dtx_recipes.specs.Place.{behind, placed}

-- where there are as many packets as before, each as long as it was, and no byte grows
pub placed_stream : (stream : List (List ℕ)) → length (placed stream) ≡ length stream
    → ((k : ℕ) → k < length stream → length (get_or (placed stream) k []) ≡ length (get_or stream k []))
    → ((k i : ℕ) → k < length stream → get_or (get_or (placed stream) k []) i 0 ≤ get_or (get_or stream k []) i 0)
    → IsStream stream → IsStream (placed stream)
placed_stream stream count lengths lower s = record {
  most = subst (λ (n : ℕ). n ≤ 624000000) (sym count) s.most;
  long = All-from_get_or (λ packet. length packet ≡ 188) (placed stream) []
      (λ k below. let within : k < length stream = omega (arith, below, count) in
      lengths k within ∙ All-get_or (λ packet. length packet ≡ 188) stream k [] within s.long);
  bytes = All-from_get_or AreBytes (placed stream) []
      (λ k below. grind (arith, AreBytes-from_places, byte_at, All-get_or));
}

-- ---- a field's placeholder

-- one of the packets passes, where some does
some_at : (test : List ℕ → Bool) (packets : List (List ℕ)) → list_any test packets ≡ true
    → (i : ℕ) × (i < length packets) × (test (get_or packets i []) ≡ true)
some_at test [] any = let e : false ≡ true = any in cc
some_at test (packet ∷ packets) any = elim (or_cases (test packet) (list_any test packets) any) [
  | inl here ↦ (0, omega arith, here)
  | inr there ↦ (let found = some_at test packets there in (suc found.0, omega (arith, found.1), found.2))
]

-- its place in the stream, at place 52 of its field or behind
pub late_in_field : (packets : List (List ℕ)) (field : ℕ) → list_any is_placeholder (behind packets field) ≡ true
    → (k : ℕ) × (k / 312 ≡ field) × (52 ≤ k % 312) × (pid_of (get_or packets k []) ≡ 0x1FFA)
unfolding is_placeholder
late_in_field packets field any =
    let found = some_at is_placeholder (behind packets field) any in
    let i = found.0 in
    let rest = drop (312 * field + 52) packets in
    let within : i < 260 = omega (arith, found.1, length-take 260 rest) in
    let at : get_or (behind packets field) i [] ≡ get_or packets (312 * field + 52 + i) [] =
    get_or-take 260 rest i [] within ∙ get_or-drop (312 * field + 52) packets i [] in
    (grind (arith, eqb-true))
