-- The lanes of the rounds, and their gaps and marks one round further to the front.
use Rattle.std.proofs.Common.{◌≡◌, ℕ, ℤ, pos, ◌+◌, ◌<◌, ◌≤◌, ◌+ℤ◌, List, [], ◌∷◌, length, drop, get_or, refl, sym, ap}
use Rattle.std.proofs.Common.{◌≢◌, ◌⊎◌, inl, inr, ◌∙◌, slice_set, subst, arith}
use Rattle.std.proofs.lemmas.Bool.{cases_eq}
use Rattle.std.proofs.lemmas.List.{get_or-map, length-map, length-set}
use Rattle.dtx_soft.specs.declared.gaps.Gap.{Gap}
use Rattle.dtx_soft.specs.Gaps.{AreLeastGaps, AreMarks, AreWalked, IsStep, column, row_of}
use Rattle.dtx_soft.specs.Least.{IsPotential}
use Rattle.dtx_soft.specs.Nearest.{cheapest}
use Rattle.dtx_soft.proofs.Potentials.{no_potentials, potentials_more}
use Rattle.dtx_soft.proofs.Rows.{row_is}
use Rattle.dtx_soft.proofs.WritesLemmas.{by_entry, four}

pub length-column : (rounds : List (List ℤ)) (n : ℕ) → length (column rounds n) ≡ length rounds
unfolding column
length-column rounds n = length-map rounds (λ round. get_or round n (pos 0))

pub symbol_in_column : (rounds : List (List ℤ)) (n t : ℕ) → t < length rounds
    → get_or (column rounds n) t (pos 0) ≡ get_or (get_or rounds t []) n (pos 0)
unfolding column
symbol_in_column rounds n t l = get_or-map (λ round. get_or round n (pos 0)) rounds t [] (pos 0) l

pub no_gaps : (scale : ℕ) (symbols : List ℤ) (k : ℕ) (gap : Gap ℤ) → length symbols ≤ k → gap.even ≡ pos 0
    → gap.odd ≡ pos 0 → gap.across ≡ pos 0 → AreLeastGaps scale (drop k symbols) gap
no_gaps scale symbols k gap l e f g = record {
  potentials = 0 ∷ 0 ∷ 0 ∷ 0 ∷ [];
  least = no_potentials scale symbols k (0 ∷ 0 ∷ 0 ∷ 0 ∷ []) l (grind (arith, four));
  gaps = record {
    base = 0;
    lift = 0;
    units = 0 ∷ 0 ∷ 0 ∷ 0 ∷ [];
    each = four _ (omega arith) (omega arith) (omega arith) (omega arith);
    even_is = ap (λ z. pos 0 +ℤ z) (sym e);
    odd_is = ap (λ z. pos 0 +ℤ z) (sym f);
    across_is = ap (λ z. pos 0 +ℤ z) (sym g);
  };
}

pub gaps_more : (scale : ℕ) (symbols : List ℤ) (t u : ℕ) (old new : Gap ℤ) (marks : ℕ) → scale ≤ 18
    → t < length symbols → u ≡ t + 1 → IsStep scale (get_or symbols t (pos 0)) old new marks
    → AreLeastGaps scale (drop u symbols) old → AreLeastGaps scale (drop t symbols) new
gaps_more scale symbols t u old new marks small l e step h =
    let each : ℕ → ℕ = cheapest (row_of scale (get_or symbols t (pos 0))) h.potentials in
    let before : List ℕ = each 0 ∷ each 1 ∷ each 2 ∷ each 3 ∷ [] in
    let written : (s : ℕ) → s < 4 → get_or before s 0 ≡ cheapest
    (row_of scale (get_or symbols t (pos 0))) h.potentials s =
    four (λ s. get_or before s 0 ≡ each s) refl refl refl refl in
    record {
      potentials = before;
      least = potentials_more scale symbols t u (row_of scale (get_or symbols t (pos 0))) h.potentials before l e
          (row_is scale (get_or symbols t (pos 0)) small step.from step.to) h.least written;
      gaps = step.gaps h.potentials before h.gaps written;
    }

pub marks_more : (scale : ℕ) (symbols : List ℤ) (t u : ℕ) (old new : Gap ℤ) (marks : ℕ) → u ≡ t + 1
    → IsStep scale (get_or symbols t (pos 0)) old new marks → AreLeastGaps scale (drop u symbols) old
    → AreMarks scale symbols t marks
marks_more scale symbols t u old new marks e step h = record {
  behind = h.potentials;
  least = subst (λ k. (s : ℕ) → s < 4 → IsPotential scale (drop k symbols) s (get_or h.potentials s 0)) e h.least;
  taken = step.taken h.potentials h.gaps;
}

pub none_walked : (scale : ℕ) (rounds : List (List ℤ)) (gaps : ℕ → Gap ℤ) (marks : List (List ℕ))
    → ((n : ℕ) → n < 16 → (gaps n).even ≡ pos 0) → ((n : ℕ) → n < 16 → (gaps n).odd ≡ pos 0)
    → ((n : ℕ) → n < 16 → (gaps n).across ≡ pos 0) → AreWalked scale (length rounds) rounds gaps marks
none_walked scale rounds gaps marks e f g = grind (arith, no_gaps, length-column)

pub one_walked : (scale units t u : ℕ) (rounds : List (List ℤ)) (old new : ℕ → Gap ℤ) (marks : List (List ℕ))
    (row : List ℕ) → units ≡ scale → scale ≤ 18 → u ≡ t + 1 → u ≤ length rounds → length marks ≡ length rounds
    → ((n : ℕ) → n < 16 → IsStep units (get_or (get_or rounds t []) n (pos 0)) (old n) (new n) (get_or row n 0))
    → AreWalked scale u rounds old marks → AreWalked scale t rounds new (slice_set marks t row)
one_walked scale units t u rounds old new marks row same small e l long step h = record {
  gaps_are = λ n m. gaps_more scale (column rounds n) t u (old n) (new n) (get_or row n 0) small
      (omega (arith, length-column rounds n)) e (in_column n m) (h.gaps_are n m);
  marks_are = λ k n m o p. by_entry (λ k row. AreMarks scale (column rounds n) k (get_or row n 0)) marks t row
      (omega arith) (marks_more scale (column rounds n) t u (old n) (new n) (get_or row n 0) e (in_column n p)
      (h.gaps_are n p)) k [] (λ d. h.marks_are k n (omega arith) o p);
}
  where
    in_column : (n : ℕ) → n < 16 → IsStep scale (get_or (column rounds n) t (pos 0)) (old n) (new n) (get_or row n 0)
    in_column n m = grind (arith, symbol_in_column)

pub walked_alike : (scale t : ℕ) (rounds : List (List ℤ)) (gaps others : ℕ → Gap ℤ) (marks : List (List ℕ))
    → ((n : ℕ) → n < 16 → others n ≡ gaps n) → AreWalked scale t rounds gaps marks
    → AreWalked scale t rounds others marks
walked_alike scale t rounds gaps others marks e h = grind arith

-- the gaps and the marks of a round's first n lanes; P says how small the gaps are
pub record AreStepped (P : Gap ℤ → Type 0) (scale : ℕ) (symbols : List ℤ) (n : ℕ) (old new : ℕ → Gap ℤ)
    (marks : List ℕ) : Type 0 where
  pub long : length marks ≡ 16
  pub small : (k : ℕ) → k < n → P (new k)
  pub done : (k : ℕ) → k < n → IsStep scale (get_or symbols k (pos 0)) (old k) (new k) (get_or marks k 0)
  pub left : (k : ℕ) → n ≤ k → new k ≡ old k

pub lane_stepped : (P : Gap ℤ → Type 0) (scale : ℕ) (symbols : List ℤ) (n : ℕ) (old now new : ℕ → Gap ℤ)
    (marks : List ℕ) (mark : ℕ) → n < 16 → ((k : ℕ) → k ≢ n → new k ≡ now k) → P (new n)
    → IsStep scale (get_or symbols n (pos 0)) (old n) (new n) mark → AreStepped P scale symbols n old now marks
    → AreStepped P scale symbols (n + 1) old new (slice_set marks n mark)
lane_stepped P scale symbols n old now new marks mark l others p step h = record {
  long = length-set marks n mark ∙ h.long;
  small = λ k m. small k m (cases_eq k n);
  done = λ k m. by_entry (λ k mark. IsStep scale (get_or symbols k (pos 0)) (old k) (new k) mark) marks n mark
      (omega (arith, h.long)) step k 0 (λ d. grind arith);
  left = λ k m. others k (λ e. absurd (omega arith)) ∙ h.left k (omega arith);
}
  where
    small : (k : ℕ) → k < n + 1 → (k ≡ n) ⊎ (k ≢ n) → P (new k)
    small k m (inl e) = subst (λ k. P (new k)) (sym e) p
    small k m (inr d) = subst P (sym (others k d)) (h.small k (omega arith))
