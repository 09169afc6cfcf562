-- The names of two files of a network differ.
use Rattle.std.proofs.Common.{◌≡◌, ℕ, ◌<◌, ◌^◌, List, ◌++◌, length, get_or, drop, refl, sym, ap, ◌∙◌, arith}
use Rattle.std.specs.Prelude.{codes, decimal}
use Rattle.std.proofs.Math.Seq.{drop-append_seam}
use Rattle.std.proofs.lemmas.Fmt.{decimal_injective}
use Rattle.std.proofs.lemmas.List.{append_cancel_left, append_cancel_right, length-append}
use Rattle.dtx_words.specs.Names.{log_name, symbol_name}

-- a number between the same texts
between : (ending : List ℕ) (first second : ℕ) → first < 2 ^ 16 → second < 2 ^ 16
    → codes "tx-" ++ (decimal first ++ ending) ≡ codes "tx-" ++ (decimal second ++ ending) → first ≡ second
between ending first second small small_too same =
    grind (arith, decimal_injective, append_cancel_right, append_cancel_left)

pub symbols_differ : (first second : ℕ) → first < 2 ^ 16 → second < 2 ^ 16 → symbol_name first ≡ symbol_name second
    → first ≡ second
symbols_differ = between (codes ".sym")

pub logs_differ : (first second : ℕ) → first < 2 ^ 16 → second < 2 ^ 16 → log_name first ≡ log_name second
    → first ≡ second
logs_differ = between (codes ".log")

-- endings that are equally long and end the same text are equal
same_ending : (front other ending last : List ℕ) → length ending ≡ length last → front ++ ending ≡ other ++ last
    → ending ≡ last
same_ending front other ending last long same =
    let lengths = ap length same in
    let fronts : length front ≡ length other = grind (arith, length-append) in
    sym (drop-append_seam front ending) ∙ ap (drop (length front)) same ∙ ap (λ n. drop n (other ++ last)) fronts
    ∙ drop-append_seam other last

pub symbols_no_logs : (first second : ℕ) → symbol_name first ≡ log_name second → ⊥
symbols_no_logs first second same =
    let second_letters : 115 ≡ 108 = ap (λ text. get_or text 1 0)
    (same_ending (codes "tx-" ++ decimal first) (codes "tx-" ++ decimal second) (codes ".sym")
    (codes ".log") refl same) in
    omega (arith, second_letters)
