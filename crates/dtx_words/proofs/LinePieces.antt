-- The pieces of a line, as far as a loop has come.
use Rattle.std.proofs.Common.{◌≡◌, ℕ, ◌+◌, ◌≤◌, ◌<◌, suc, List, [], ◌∷◌, ◌++◌, length, map, drop, get_or, arith, refl}
use Rattle.std.proofs.Common.{sym, add-one, append_assoc}
use Rattle.std.specs.Prelude.{codes, decimal, min}
use Rattle.std.specs.Borrow.{Bor}
use Rattle.std.proofs.lemmas.Bool.{cases_lt}
use Rattle.std.proofs.Math.Seq.{drop-cons}
use Rattle.std.proofs.Math.ListN.{drop_of_length-le}
use Rattle.dtx_words.specs.declared.rows.Command.{Command}
use Rattle.dtx_words.specs.Line.{numbered, verbs_behind}
use Rattle.dtx_words.specs.Rows.{row_of}

-- the labels behind references
abbrev pub labels_behind : List (Bor (List ℕ)) → List (List ℕ)
labels_behind labels = map (λ label. label.now) labels

-- the labels and numbers from a place on
abbrev pub numbered_from : List (Bor (List ℕ)) → List ℕ → ℕ → List ℕ
numbered_from labels numbers i = numbered (labels_behind (drop i labels)) (drop i numbers)

-- the next label and its number
pub numbered_next : (labels : List (Bor (List ℕ))) (numbers : List ℕ) (i : ℕ) (d : Bor (List ℕ)) → i < length labels
    → i < length numbers → numbered_from labels numbers i ≡ ((get_or labels i d).now ++ decimal (get_or numbers i 0))
    ++ numbered_from labels numbers (i + 1)
numbered_next labels numbers i d first second = rw (add-one, drop-cons labels i d first, drop-cons numbers i 0 second)
    (sym (append_assoc (get_or labels i d).now (decimal (get_or numbers i 0)) (numbered_from labels numbers (suc i))))

numbered_none : (labels : List (List ℕ)) → numbered labels [] ≡ []
numbered_none [] = refl
numbered_none (label ∷ labels) = refl

-- behind the last label, or the last number
pub numbered_end : (labels : List (Bor (List ℕ))) (numbers : List ℕ) (i : ℕ)
    → min (length labels) (length numbers) ≤ i → numbered_from labels numbers i ≡ []
numbered_end labels numbers i past = grind (arith, cases_lt, drop_of_length-le, numbered_none)

-- the words from a place on
abbrev pub verbs_from : List ℕ → List Command → ℕ → List ℕ
verbs_from before all i = verbs_behind before (drop i all)

pub verbs_next : (before : List ℕ) (all : List Command) (i : ℕ) (d : Command) → i < length all
    → verbs_from before all i ++ codes "\n"
    ≡ (before ++ (row_of (get_or all i d)).verb) ++ (verbs_from (codes "|") all (i + 1) ++ codes "\n")
verbs_next before all i d within = rw (add-one, drop-cons all i d within) (rw (← append_assoc, append_assoc))

-- behind the last command
pub verbs_end : (before : List ℕ) (all : List Command) (i : ℕ) → length all ≤ i
    → verbs_from before all i ++ codes "\n" ≡ codes "\n"
verbs_end before all i past = rw (drop_of_length-le all {i = i} past) refl
