-- Entries whose addresses differ.
use Rattle.std.proofs.Common.{◌≡◌, ◌≢◌, ℕ, suc, ◌==◌, false, List, [], ◌∷◌, map, refl, sym, All, AllPairs, arith}
use Rattle.std.proofs.lemmas.Bool.{eqb-false, ne_eqb, or_parts, or_from}
use Rattle.std.proofs.lemmas.List.Elements.{All-cons}
use Rattle.std.proofs.lemmas.List.Kept.{AllPairs-cons}
use Rattle.dtx_ops.specs.declared.fields.Entry.{Entry}
use Rattle.dtx_ops.specs.Reading.{is_among, has_twice}

abbrev addresses : List Entry → List ℕ
addresses es = map (λ e. e.address) es

not_among : (a : ℕ) (es : List Entry) → is_among a es ≡ false → All (λ b. a ≢ b) (addresses es)
not_among a [] h = λ k d l. absurd (omega arith)
not_among a (e ∷ es) h =
    let parts = or_parts (e.address == a) (is_among a es) h in
    All-cons (λ b. a ≢ b) e.address (addresses es) (λ same. grind (arith, eqb-false)) (not_among a es parts.1)

among_not : (a : ℕ) (es : List Entry) → All (λ b. a ≢ b) (addresses es) → is_among a es ≡ false
among_not a [] h = refl
among_not a (e ∷ es) h =
    or_from (e.address == a) (is_among a es) (ne_eqb e.address a (λ same. h 0 0 (omega arith) (sym same)))
    (among_not a es (λ k d l. h (suc k) d (omega arith)))

pub differ_unless_twice : (es : List Entry) → has_twice es ≡ false → AllPairs (λ a b. a ≢ b) (addresses es)
differ_unless_twice [] h = λ i j d l m. absurd (omega arith)
differ_unless_twice (e ∷ es) h =
    let parts = or_parts (is_among e.address es) (has_twice es) h in
    AllPairs-cons (λ a b. a ≢ b) e.address (addresses es) (not_among e.address es parts.0)
    (differ_unless_twice es parts.1)

pub not_twice : (es : List Entry) → AllPairs (λ a b. a ≢ b) (addresses es) → has_twice es ≡ false
not_twice [] h = refl
not_twice (e ∷ es) h = or_from (is_among e.address es) (has_twice es)
    (among_not e.address es (λ k d l. h 0 (suc k) d (omega arith) (omega arith)))
    (not_twice es (λ i j d l m. h (suc i) (suc j) d (omega arith) (omega arith)))
