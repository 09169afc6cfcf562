-- The files of the transmitters while they are begun.
use Rattle.std.proofs.Common.{◌≡◌, ◌⊎◌, ℕ, ◌+◌, List, [], ◌∷◌, ◌++◌, length, take, drop, refl, sym, ap, subst, ◌∙◌, inl}
use Rattle.std.proofs.Common.{inr, arith}
use Rattle.std.specs.Prelude.{Option, Some, Result, slice_get}
use Rattle.std.specs.Option.{option_map}
use Rattle.std.proofs.Math.Seq.{take-length}
use Rattle.std.proofs.lemmas.List.{take_more, take-append-drop}
use Rattle.std.proofs.lemmas.Option.{slice_get_within, get_or_from_slice_get}
use Rattle.dtx_meaning.specs.Meaning.{Outputs, ArePartWritten, with_outputs}
use Rattle.dtx_meaning.proofs.MeaningLemmas.{part_before, part_behind, with_outputs-append}
use Rattle.dtx_outside.specs.Shelf.{Files, with_file, IsBegun, IsWritten}
use Rattle.dtx_outside.proofs.WrittenLemmas.{begun_written}
use Rattle.dtx_outside.specs.declared.shelf.WriteNo.{WriteNo}
use Rattle.dtx_plan.specs.declared.transmitter.Transmitter.{Transmitter}
use Rattle.dtx_words.specs.Names.{symbol_name, log_name}
use Rattle.dtx_schedule.specs.TransmitterFiles.{files_of, nothing, played_outputs}
use Rattle.dtx_schedule.proofs.FilesLemmas.{contents_same, no_log_file, no_symbol_file}

-- the outputs of the first n transmitters, with nothing in them
abbrev pub first_empty : List Transmitter → ℕ → Outputs
first_empty ts n = files_of nothing (take n ts)

-- those of one transmitter
abbrev own_empty : ℕ → Outputs
own_empty address = (symbol_name address, []) ∷ (log_name address, []) ∷ []

empty-append : (ts us : List Transmitter) → files_of nothing (ts ++ us) ≡ files_of nothing ts ++ files_of nothing us
empty-append [] us = refl
empty-append (t ∷ ts) us =
    ap (λ (rest : Outputs). (symbol_name t.address, []) ∷ (log_name t.address, []) ∷ rest) (empty-append ts us)

next_empty : (ts : List Transmitter) (i : ℕ) (t : Transmitter) → slice_get ts i ≡ Some t
    → first_empty ts (i + 1) ≡ first_empty ts i ++ own_empty t.address
next_empty ts i t at_t = ap (files_of nothing) (take_more ts i t (slice_get_within ts i t at_t)
    ∙ ap (λ (x : Transmitter). take i ts ++ x ∷ []) (get_or_from_slice_get ts i t t at_t))
    ∙ empty-append (take i ts) (t ∷ [])

pub none_begun : (ts : List Transmitter) (start : Option Files) → start ≡ with_outputs (first_empty ts 0) start
none_begun [] start = refl
none_begun (t ∷ ts) start = refl

-- both files of one more were begun
pub next_begun : (ts : List Transmitter) (i : ℕ) (t : Transmitter) (start before mid now : Option Files)
    → slice_get ts i ≡ Some t
    → before ≡ with_outputs (first_empty ts i) start → mid ≡ option_map (with_file (symbol_name t.address) []) before
    → now ≡ option_map (with_file (log_name t.address) []) mid → now ≡ with_outputs (first_empty ts (i + 1)) start
next_begun ts i t start before mid now at_t is first second =
    rw (second, first, is, next_empty ts i t at_t, with_outputs-append (first_empty ts i) (own_empty t.address) start)

-- a part of what is begun of one more is a part of all
part_of_next : (ts : List Transmitter) (i : ℕ) (t : Transmitter) (start before now : Option Files)
    → slice_get ts i ≡ Some t
    → before ≡ with_outputs (first_empty ts i) start → ArePartWritten (own_empty t.address) before now
    → ArePartWritten (files_of nothing ts) start now
part_of_next ts i t start before now at_t is part =
    let more : ArePartWritten (first_empty ts i ++ own_empty t.address) start now = grind (arith, part_behind) in
    let next : ArePartWritten (first_empty ts (i + 1)) start now =
    subst (λ outputs. ArePartWritten outputs start now) (sym (next_empty ts i t at_t)) more in
    subst (λ outputs. ArePartWritten outputs start now)
    (sym (empty-append (take (i + 1) ts) (drop (i + 1) ts)) ∙ ap (files_of nothing) (take-append-drop (i + 1) ts))
    (part_before (first_empty ts (i + 1)) (files_of nothing (drop (i + 1) ts)) start now next)

-- the symbol file of one more wasn't begun
pub symbols_not_begun : (ts : List Transmitter) (i : ℕ) (t : Transmitter) (start before now : Option Files)
    (result : Result (Unit {0}) WriteNo) → slice_get ts i ≡ Some t
    → before ≡ with_outputs (first_empty ts i) start → IsBegun (symbol_name t.address) before result now
    → ArePartWritten (files_of nothing ts) start now
symbols_not_begun ts i t start before now result at_t is left = grind (arith, part_of_next, begun_written)

-- the log of one more wasn't
pub log_not_begun : (ts : List Transmitter) (i : ℕ) (t : Transmitter) (start before mid now : Option Files)
    (result : Result (Unit {0}) WriteNo) → slice_get ts i ≡ Some t
    → before ≡ with_outputs (first_empty ts i) start → mid ≡ option_map (with_file (symbol_name t.address) []) before
    → IsBegun (log_name t.address) mid result now → ArePartWritten (files_of nothing ts) start now
log_not_begun ts i t start before mid now result at_t is first left =
    part_of_next ts i t start before now at_t is (inr (grind (arith, by_cases, begun_written)))
  where
    empty_symbols : Option Files
    empty_symbols = option_map (with_file (symbol_name t.address) []) before

    by_cases : (now ≡ mid) ⊎ IsWritten mid (log_name t.address) [] now
        → ArePartWritten ((log_name t.address, []) ∷ []) empty_symbols now
    by_cases (inl same) = inl (same ∙ first)
    by_cases (inr empty) = inr ([], ([], refl), empty ∙ ap (option_map (with_file (log_name t.address) [])) first)

-- all were
pub all_begun : (ts : List Transmitter) (n : ℕ) (start now : Option Files) → n ≡ length ts
    → now ≡ with_outputs (first_empty ts n) start → now ≡ with_outputs (files_of nothing ts) start
all_begun ts n start now all is = grind (arith, take-length)

-- files in which nothing is are those of no steps
pub none_played : (ts : List Transmitter) (start : Option Files)
    → with_outputs (files_of nothing ts) start ≡ with_outputs (played_outputs ts []) start
none_played ts start = grind (arith, contents_same, no_symbol_file, no_log_file)
