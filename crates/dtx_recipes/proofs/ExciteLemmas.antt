-- Laws of what an exciter makes of packets: what the first packets give is a prefix of what all give.
use Rattle.std.proofs.Common.{◌≡◌, ℕ, ℤ, ◌+◌, ◌%◌, ◌≤◌, List, [], ◌∷◌, ◌++◌, length, map, take, refl, sym, ap, ◌∙◌}
use Rattle.std.proofs.Common.{arith, append_assoc, zero-add}
use Rattle.std.specs.List.{range_with_len, flat_map}
use Rattle.std.proofs.lemmas.Grind.{flat_map-append}
use Rattle.std.proofs.lemmas.List.{append-nil, length_push, take-append-le, take_all}
use Rattle.dtx_lists.proofs.Range.{range_with_len-parts}
use Rattle.dtx_lists.proofs.RangeMoved.{flat_map-range_same}
use Rattle.dtx_coder.specs.Stream.{symbols_of}
use Rattle.dtx_engine.specs.Made.{only, AreFrontsOf}
use Rattle.dtx_exciter.proofs.EmittedLemmas.{emission_more, emission_push}
use Rattle.dtx_exciter.specs.Emission.{last_segments, emission}
use Rattle.dtx_exciter.specs.Log.{Line, line_of, life_lines}
use Rattle.dtx_exciter.specs.Packets.{last_answer}
use Rattle.dtx_exciter.specs.Stretch.{emission_behind}
use Rattle.dtx_files.proofs.AppendedLemmas.{segment_bytes-append, log_text-append}
use Rattle.dtx_files.specs.LogText.{log_text}
use Rattle.dtx_files.specs.Symbols.{byte_of_symbol}
use Rattle.dtx_packets.proofs.PacketLemmas.{packets_of-append}
use Rattle.dtx_packets.specs.Packets.{packets_of}
use Rattle.dtx_recipes.specs.Excite.{exciting}
use Rattle.dtx_recipes.specs.Life.{sent_bytes, logged_bytes}

-- ---- one packet further

-- the line that packet i of a list brings, or none
abbrev pub line_at : ℕ → ℕ → List (List ℕ) → ℕ → List Line
line_at a d l i = line_of (0 + length (emission a d (take i l))) (length (last_segments a d (take (i + 1) l)))
    (last_answer a d (take (i + 1) l))

front_same : (a d : ℕ) (l r : List (List ℕ)) (n : ℕ) → n ≤ length l
    → flat_map (line_at a d (l ++ r)) (range_with_len 0 n) ≡ flat_map (line_at a d l) (range_with_len 0 n)
front_same a d l r n h = grind (arith, flat_map-range_same, take-append-le)

pub lines_push : (a d : ℕ) (l : List (List ℕ)) (p : List ℕ) → life_lines a d 0 (l ++ p ∷ [])
    ≡ life_lines a d 0 l ++ line_of (length (emission a d l)) (length (last_segments a d (l ++ p ∷ [])))
    (last_answer a d (l ++ p ∷ []))
unfolding life_lines
lines_push a d l p =
    let f : ℕ → List Line = line_at a d (l ++ p ∷ []) in
    let same : take (0 + length l) (l ++ p ∷ []) ≡ l =
    take-append-le (0 + length l) l (p ∷ []) (omega arith) ∙ take_all (0 + length l) l (omega arith) in
    let all : take (0 + length l + 1) (l ++ p ∷ []) ≡ l ++ p ∷ [] =
    take_all (0 + length l + 1) (l ++ p ∷ []) (omega (arith, length_push l p)) in
    ap (λ n. flat_map f (range_with_len 0 n)) (length_push l p)
    ∙ grind (arith, range_with_len-parts, flat_map-append, front_same, append-nil, zero-add)

pub sent_push : (a d : ℕ) (l : List (List ℕ)) (p : List ℕ)
    → sent_bytes a d (l ++ p ∷ [])
    ≡ sent_bytes a d l ++ map byte_of_symbol (symbols_of (last_segments a d (l ++ p ∷ [])))
sent_push a d l p = grind (arith, emission_push, segment_bytes-append)

pub logged_push : (a d : ℕ) (l : List (List ℕ)) (p : List ℕ) → logged_bytes a d (l ++ p ∷ [])
    ≡ logged_bytes a d l ++ log_text
    (line_of (length (emission a d l)) (length (last_segments a d (l ++ p ∷ []))) (last_answer a d (l ++ p ∷ [])))
logged_push a d l p = ap log_text (lines_push a d l p) ∙ log_text-append (life_lines a d 0 l) _

-- ---- any packets further

sent_more : (a d : ℕ) (l r : List (List ℕ)) → (rest : List ℕ) × (sent_bytes a d (l ++ r) ≡ sent_bytes a d l ++ rest)
sent_more a d l r =
    let more : List (List ℤ) = emission_behind a d l r in (
      map byte_of_symbol (symbols_of more),
      ap (λ ss. map byte_of_symbol (symbols_of ss)) (emission_more a d l r)
          ∙ segment_bytes-append (emission a d l) more,
    )

logged_more : (a d : ℕ) (l r : List (List ℕ))
    → (rest : List ℕ) × (logged_bytes a d (l ++ r) ≡ logged_bytes a d l ++ rest)
logged_more a d l [] = ([], ap (logged_bytes a d) (append-nil l) ∙ sym (append-nil (logged_bytes a d l)))
logged_more a d l (p ∷ r) =
    let rest = logged_more a d (l ++ p ∷ []) r in
    let one : List ℕ =
    log_text (line_of (length (emission a d l)) (length (last_segments a d (l ++ p ∷ []))) (last_answer a d (l
    ++ p ∷ []))) in (
      one ++ rest.0,
      ap (logged_bytes a d) (sym (append_assoc l (p ∷ []) r)) ∙ rest.1 ∙ ap (λ z. z ++ rest.0) (logged_push a d l p)
          ∙ append_assoc (logged_bytes a d l) one rest.0,
    )

-- ---- what is made

pub excites_none : (a d : ℕ) → (exciting a d).made [] ≡ only []
unfolding emission life_lines
excites_none a d = refl

pub excites_more : (a d : ℕ) (x y : List ℕ) → length x % 188 ≡ 0
    → AreFrontsOf ((exciting a d).made x) ((exciting a d).made (x ++ y))
excites_more a d x y whole =
    let all = packets_of-append x y whole in
    let sent = sent_more a d (packets_of x) (packets_of y) in
    let logged = logged_more a d (packets_of x) (packets_of y) in (grind arith)
