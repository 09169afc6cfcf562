-- Lemmas of what is made of symbols, whichever receiver it is: with what the end brings it is all packets.
use Rattle.std.proofs.Common.{◌≡◌, ℕ, List, [], ◌∷◌, ◌++◌, map, take, drop, refl, ap, ◌∙◌, arith}
use Rattle.std.specs.Prelude.{ℤ}
use Rattle.std.specs.List.{flat_map}
use Rattle.std.proofs.lemmas.List.{append_assoc, drop_at, take-append-drop}
use Rattle.dtx_engine.specs.Made.{only, joined}
use Rattle.dtx_receiver.specs.declared.batch.Received.{Received}
use Rattle.dtx_recipes.specs.Giving.{Giving, IsGiving, all_bytes, bytes_of, early_bytes, end_bytes, receiving_by}
use Rattle.dtx_recipes.specs.SymbolFile.{file_segments}
use Rattle.dtx_recipes.proofs.GivingLemmas.{bytes_of-append, given_on}

pub flat_bytes : (ps : List Received)
    → flat_map (λ (p : List ℕ). p) (map (λ (r : Received). r.packet.0) ps) ≡ bytes_of ps
flat_bytes [] = refl
flat_bytes (p ∷ ps) = ap (λ z. p.packet.0 ++ z) (flat_bytes ps)

-- the bytes of the packets of segments
pub bytes_of-all : (giving : Giving) → IsGiving giving → (segments : List (List ℤ))
    → flat_map (λ (p : List ℕ). p) (giving.packets segments) ≡ bytes_of (giving.all segments)
bytes_of-all giving is segments = grind (arith, flat_bytes)

-- what is given while the first segments come is a front part of what all give
pub front_given : (giving : Giving) → IsGiving giving → (segments : List (List ℤ)) (n : ℕ)
    → (rest : List Received) × (giving.all segments ≡ giving.so_far (take n segments) ++ rest)
front_given giving is segments n =
    let on = given_on giving is (take n segments) (drop n segments) in
    let end = is.end segments in (grind (arith, take-append-drop, append_assoc))

-- ---- what is made

-- what the end adds, where it brings these
pub receives_last : (giving : Giving) → IsGiving giving → (file last : List ℕ)
    → bytes_of (giving.all (file_segments file)) ≡ early_bytes giving file ++ last → last ≡ end_bytes giving file
receives_last giving is file last brought = grind (arith, bytes_of-all, drop_at)

-- what is made of all segments is their packets
pub receives_whole : (giving : Giving) → IsGiving giving → (file : List ℕ)
    → joined ((receiving_by giving).made file) ((receiving_by giving).rest file) ≡ only (all_bytes giving file)
receives_whole giving is file =
    let end = is.end (file_segments file) in
    let brought : bytes_of (giving.all (file_segments file)) ≡ early_bytes giving file ++ bytes_of end.0 =
    ap bytes_of end.1 ∙ bytes_of-append (giving.so_far (file_segments file)) end.0 in
    cc (receives_last giving is file (bytes_of end.0) brought, bytes_of-all giving is (file_segments file))
